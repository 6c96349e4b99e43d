use Rattle.std.proofs.Common.{◌-◌, ℕ, arith}
use Rattle.std.proofs.lemmas.Result.{err_from_is_err_and}
use Rattle.bound_cert.specs.Reading.{answer_at, each_from}
use Rattle.bound_cert.proofs.ReaderLoops.{begins_loop, ends, goes_on, is_done}
use Rattle.bound_cert.proofs.read.read_answers.Goals as goal

pub loop-init : goal.loop-init
loop-init c =
    let reader = λ (k : ℕ). answer_at c.args.known.now.feed.now c.args.known.now.times.now c.args.walking in
    begins_loop reader c.new-answers.result c.args.count (c.args.count - 0) c.args.bytes.now c.new-answers.ensures (omega arith)

pub returns-in_err-answer : goal.returns-in_err-answer
returns-in_err-answer c =
    let p = err_from_is_err_and c.from_residual.result c.from_residual.ensures.1 in
    let reader = λ (k : ℕ). answer_at c.args.known.now.feed.now c.args.known.now.times.now c.args.walking in
    rw (p.1, p.2) (ends reader c.in_err-answer.field-0.0 c.loop.answers c.args.count c.loop.counter c.loop.rest.now (each_from reader 1 c.args.count c.args.bytes.now) c.loop-test.true c.in_err-answer.ensures c.loop.invariant)

pub loop-preserved : goal.loop-preserved
loop-preserved c =
    let reader = λ (k : ℕ). answer_at c.args.known.now.feed.now c.args.known.now.times.now c.args.walking in
    rw c.in_ok-push.ensures.ok (goes_on reader c.loop.answers c.args.count c.loop.counter c.loop.rest.now c.in_ok-answer.answer c.in_ok-answer.after.now (each_from reader 1 c.args.count c.args.bytes.now) c.loop-test.true c.in_ok-answer.ensures c.loop.invariant)

pub returns : goal.returns
returns c =
    let reader = λ (k : ℕ). answer_at c.args.known.now.feed.now c.args.known.now.times.now c.args.walking in
    is_done reader c.loop.answers c.args.count c.loop.counter c.loop.rest.now (each_from reader 1 c.args.count c.args.bytes.now) c.loop-test.false c.loop.invariant
