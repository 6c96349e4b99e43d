use Rattle.std.proofs.Common.{◌-◌, ℕ, arith}
use Rattle.std.proofs.lemmas.Result.{err_from_is_err_and}
use Rattle.bound_cert.specs.LineWords as Lines
use Rattle.bound_cert.specs.Reading.{each_from, line_at}
use Rattle.bound_cert.proofs.ReaderLoops.{begins_loop, ends, goes_on, is_done}
use Rattle.bound_cert.proofs.read.read_labels.Goals as goal

pub loop-init : goal.loop-init
loop-init c =
    let reader = λ (k : ℕ). line_at (Lines.label_in c.args.known.now.feed.now c.args.known.now.times.now c.args.walking) in
    begins_loop reader c.new-labels.result c.args.count (c.args.count - 0) c.args.bytes.now c.new-labels.ensures (omega arith)

pub returns-in_err-label : goal.returns-in_err-label
returns-in_err-label c =
    let p = err_from_is_err_and c.from_residual.result c.from_residual.ensures.1 in
    let reader = λ (k : ℕ). line_at (Lines.label_in c.args.known.now.feed.now c.args.known.now.times.now c.args.walking) in
    rw (p.1, p.2) (ends reader c.in_err-label.field-0.0 c.loop.labels c.args.count c.loop.counter c.loop.rest.now (each_from reader 1 c.args.count c.args.bytes.now) c.loop-test.true c.in_err-label.ensures c.loop.invariant)

pub loop-preserved : goal.loop-preserved
loop-preserved c =
    let reader = λ (k : ℕ). line_at (Lines.label_in c.args.known.now.feed.now c.args.known.now.times.now c.args.walking) in
    rw c.in_ok-push.ensures.ok (goes_on reader c.loop.labels c.args.count c.loop.counter c.loop.rest.now c.in_ok-label.label c.in_ok-label.after.now (each_from reader 1 c.args.count c.args.bytes.now) c.loop-test.true c.in_ok-label.ensures c.loop.invariant)

pub returns : goal.returns
returns c =
    let reader = λ (k : ℕ). line_at (Lines.label_in c.args.known.now.feed.now c.args.known.now.times.now c.args.walking) in
    is_done reader c.loop.labels c.args.count c.loop.counter c.loop.rest.now (each_from reader 1 c.args.count c.args.bytes.now) c.loop-test.false c.loop.invariant
