-- No ride is before the first, and all are before the end.
use Rattle.std.proofs.Common.{◌≡◌, ◌+◌, length, sym, subst, arith}
use Rattle.journey_judge.proofs.WalkTallies.{AreTallied, all_tallied, none_tallied, one_tallied}
use Rattle.journey_judge.proofs.journey.judge_each.Goals as goal

pub loop-k-init : goal.loop-k-init
loop-k-init c = none_tallied c.args.feed.now c.args.times.now c.args.days.now c.args.query.now c.args.rides.now c.requires.few

pub loop-k-preserved : goal.loop-k-preserved
loop-k-preserved c =
    let whole = c.loop-k.whole in
    let one = c.in_ok-one.one in
    subst (λ d. AreTallied c.args.feed.now c.args.times.now c.args.days.now c.args.query.now c.args.rides.now (c.loop-k.k + 1) (record { deadline = d; walk = whole.walk + one.walk })) (sym c.earlier.ensures)
    (one_tallied c.args.feed.now c.args.times.now c.args.days.now c.args.query.now c.args.rides.now c.loop-k.k whole one c.loop-k.invariant c.in_ok-one.ensures)

pub returns : goal.returns
returns c =
    let all : c.loop-k.k ≡ length c.args.rides.now = omega arith in
    all_tallied c.args.feed.now c.args.times.now c.args.days.now c.args.query.now c.args.rides.now c.loop-k.whole c.requires.some
    (subst (λ k. AreTallied c.args.feed.now c.args.times.now c.args.days.now c.args.query.now c.args.rides.now k c.loop-k.whole) all c.loop-k.invariant)
