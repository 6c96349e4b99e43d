-- One of the records has a window.
use Rattle.std.proofs.Common.{◌↔◌, IsTrue, sym, ◌∙◌, subst}
use Rattle.std.proofs.lemmas.Bool.{false≢true}
use Rattle.flex_model.specs.Flaw.{HasDirectTime}
use Rattle.flex_model.specs.Ride.{HasTimes}
use Rattle.journey_judge.proofs.DirectTimes.{needs_direct}
use Rattle.journey_judge.proofs.timing.has_direct.Goals as goal
use Rattle.journey_judge.proofs.timing.has_direct.Goals.{else-is_timed-via-then-is_timed+else-is_timed-2, else-is_timed-via-else-is_timed}

has_window : (c : goal.After-is_some) → HasTimes c.args.boarding × HasTimes c.args.alighting → ⊥
has_window c both = elim c.else-is_timed.branch [
  | else-is_timed-via-then-is_timed+else-is_timed-2 w ↦ false≢true (sym w.if-is_timed-2.false ∙ w.is_timed-then-is_timed.ensures.1 both.1)
  | else-is_timed-via-else-is_timed w ↦ false≢true (sym w.if-is_timed.false ∙ c.is_timed.ensures.1 both.0)
]

pub returns : goal.returns
returns c =
    subst (λ test. IsTrue test ↔ HasDirectTime c.args.times.now c.args.ride.now c.args.boarding c.args.alighting) (sym c.is_some.ensures)
    (needs_direct c.args.times.now c.args.ride.now c.direct.result c.direct.ensures c.args.boarding c.args.alighting (has_window c))
