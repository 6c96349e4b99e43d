use Rattle.std.proofs.Common.{◌≡◌, true, false, arith}
use Rattle.cert_check.proofs.PlaceOrder.{all_there, ends_there, known_by, one_more_by}
use Rattle.cert_check.proofs.labels.count_by.Goals as goal

pub loop-at-init : goal.loop-at-init
loop-at-init c = (omega arith, known_by c.args.place c.args.labels.now c.args.before c.requires.known)

pub loop-at-preserved : goal.loop-at-preserved
loop-at-preserved c =
    let low = c.loop-at.invariant.0 in
    let yes' = c.if-not-stands_by.false in
    let here : c.stands_by.result ≡ true = cc in (
      omega (arith, low),
      one_more_by c.args.place c.args.labels.now c.loop-at.at _ c.stands_by.result c.loop-at-test.true c.loop-at.invariant.1 c.stands_by.ensures here,
    )

pub returns-then-not-stands_by-clause-point : goal.returns-then-not-stands_by-clause-point
returns-then-not-stands_by-clause-point c =
    let no' = c.if-not-stands_by.true in
    let out : c.stands_by.result ≡ false = cc in
    ends_there c.args.place c.args.labels.now c.requires.order c.loop-at.at _ c.stands_by.result c.loop-at-test.true c.loop-at.invariant.1 c.stands_by.ensures out

pub returns-clause-point : goal.returns-clause-point
returns-clause-point c = all_there c.args.place c.args.labels.now c.loop-at.at (omega arith) c.loop-at.invariant.1
