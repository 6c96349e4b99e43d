-- A bound is added where it is north of the last one.
use Rattle.std.proofs.Common.{◌∙◌, ℤ, ◌≤ℤ◌, ◌<ℤ◌, sym, subst, arith}
use Rattle.std.proofs.lemmas.Int.{ints}
use Rattle.zone_test.specs.Slabs.{AreBounds}
use Rattle.zone_test.proofs.RisingBounds.{bound_added}
use Rattle.zone_test.proofs.bounds.rising.Goals as goal
use Rattle.zone_test.proofs.bounds.rising.Goals.{then-at-every-eq0+then-is_beyond+in_ok-push, else-at-every-eq0}

below : (a b : ℤ) → a <ℤ b → a ≤ℤ b
below a b less = omega (arith, ints)

pub loop-at-preserved : goal.loop-at-preserved
loop-at-preserved c = elim c.if-at-every-eq0.branch [
  | then-at-every-eq0+then-is_beyond+in_ok-push w ↦ subst AreBounds (sym (w.bounds-is ∙ w.in_ok-push.ensures.ok)) (bound_added c.loop-at.bounds _ c.loop-at.invariant
      (λ d some. below _ _ (w.is_beyond.ensures.0 w.if-is_beyond.true d some)))
  | else-at-every-eq0 w ↦ subst AreBounds (sym w.bounds-is) c.loop-at.invariant
]
