use Rattle.std.proofs.Common.{◌≡◌, ◌+◌, Some, length, slice_get, sym, ◌∙◌, ap, subst, arith}
use Rattle.cert_check.proofs.FoundTests.{orders_none, orders_some}
use Rattle.cert_check.proofs.answers.unordered.Goals as goal

pub returns-then-not-rises_at : goal.returns-then-not-rises_at
returns-then-not-rises_at c =
    let task = c.args.task.now in
    let same = c.as_slice-answers.ensures in
    let size = ap length same in
    let no = c.if-not-rises_at.true in
    orders_some task c.loop-i.i c.number_at.result c.rises_at.result c.number_at.ensures (omega (arith, size))
    (λ answer next is after before. (c.rises_at.ensures.order answer next
    (subst (λ xs. slice_get xs c.loop-i.i ≡ Some answer) (sym same) is) (subst (λ xs. slice_get xs (c.loop-i.i + 1) ≡ Some next) (sym same) after)).1 before)
    (λ e. c.rises_at.ensures.last (size ∙ e)) (λ is. cc) c.loop-i.invariant

pub returns : goal.returns
returns c =
    let size = ap length c.as_slice-answers.ensures in
    orders_none c.args.task.now c.loop-i.i (omega (arith, size)) c.loop-i.invariant
