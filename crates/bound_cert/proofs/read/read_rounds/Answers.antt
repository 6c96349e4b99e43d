use Rattle.std.proofs.Common.{◌-◌, arith}
use Rattle.std.proofs.lemmas.Result.{err_from_is_err_and}
use Rattle.bound_cert.specs.Reading.{each_from, round_at}
use Rattle.bound_cert.proofs.ReaderLoops.{begins_loop, ends, goes_on, is_done}
use Rattle.bound_cert.proofs.read.read_rounds.Goals as goal

pub loop-k-init : goal.loop-k-init
loop-k-init c =
    let reader = round_at c.args.known.now.feed.now c.args.known.now.times.now c.args.walking in
    begins_loop reader c.new-rounds.result c.args.count (c.args.count - 0) c.args.bytes.now c.new-rounds.ensures (omega arith)

pub returns-in_err-round : goal.returns-in_err-round
returns-in_err-round c =
    let p = err_from_is_err_and c.from_residual.result c.from_residual.ensures.1 in
    let reader = round_at c.args.known.now.feed.now c.args.known.now.times.now c.args.walking in
    rw (p.1, p.2) (ends reader c.in_err-round.field-0.0 c.loop-k.rounds c.args.count c.loop-k.k c.loop-k.rest.now (each_from reader 1 c.args.count c.args.bytes.now) c.loop-k-test.true c.in_err-round.ensures c.loop-k.invariant)

pub loop-k-preserved : goal.loop-k-preserved
loop-k-preserved c =
    let reader = round_at c.args.known.now.feed.now c.args.known.now.times.now c.args.walking in
    rw c.in_ok-push.ensures.ok (goes_on reader c.loop-k.rounds c.args.count c.loop-k.k c.loop-k.rest.now c.in_ok-round.round c.in_ok-round.after.now (each_from reader 1 c.args.count c.args.bytes.now) c.loop-k-test.true c.in_ok-round.ensures c.loop-k.invariant)

pub returns : goal.returns
returns c =
    let reader = round_at c.args.known.now.feed.now c.args.known.now.times.now c.args.walking in
    is_done reader c.loop-k.rounds c.args.count c.loop-k.k c.loop-k.rest.now (each_from reader 1 c.args.count c.args.bytes.now) c.loop-k-test.false c.loop-k.invariant
