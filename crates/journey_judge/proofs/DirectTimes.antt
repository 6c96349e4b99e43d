-- Rides and the direct time between their places, where that was looked up.
use Rattle.std.proofs.Common.{◌≡◌, ◌↔◌, IsTrue, Bool, false, ℕ, ℤ, Option, Some, None, refl, sym, ◌∙◌, subst}
use Rattle.std.specs.Prelude.{is_some}
use Rattle.std.proofs.lemmas.Bool.{false≢true}
use Rattle.std.proofs.lemmas.Option.{none-some, same_Some}
use Rattle.flex_model.specs.declared.moment.DayTable.{DayTable}
use Rattle.flex_model.specs.declared.ride.Ride.{Ride}
use Rattle.flex_model.specs.declared.times.Times.{Times}
use Rattle.flex_model.specs.declared.trip.Timing.{Timing}
use Rattle.flex_model.specs.declared.trip.Timing.TheVariants as timing
use Rattle.flex_model.specs.Flaw.{HasDirectTime}
use Rattle.flex_model.specs.Ride.{Arrives, HasTimes, IsShiftedMoment}
use Rattle.flex_model.specs.Times.{HasSeconds}
use Rattle.journey_judge.specs.Timings.{LeavesTime}

-- `found` is what was looked up
module _ (times : Times) (ride : Ride) (found : Option ℕ) (direct : (seconds : ℕ) → HasSeconds times.direct ride.board ride.alight seconds ↔ (found ≡ Some seconds)) where
  pub no_direct : (P : ℕ → Type 0) → found ≡ None → IsTrue false ↔ ((seconds : ℕ) × HasSeconds times.direct ride.board ride.alight seconds × P seconds)
  no_direct P none = (
    λ t. absurd (false≢true t),
    λ h. absurd (none-some h.0 (sym none ∙ (direct h.0).0 h.1)),
  )

  pub just_direct : (P : ℕ → Type 0) (seconds : ℕ) → found ≡ Some seconds → (test : Bool) → IsTrue test ↔ P seconds
      → IsTrue test ↔ ((seconds : ℕ) × HasSeconds times.direct ride.board ride.alight seconds × P seconds)
  just_direct P seconds some test holds = (
    λ t. (seconds, (direct seconds).1 some, holds.0 t),
    λ h. holds.1 (subst P (same_Some h.0 seconds (sym ((direct h.0).0 h.1) ∙ some)) h.2),
  )

  has_found : (r : Option ℕ) → found ≡ r → IsTrue (is_some r) ↔ ((seconds : ℕ) × HasSeconds times.direct ride.board ride.alight seconds)
  has_found None is = (λ t. absurd (false≢true t), λ h. absurd (none-some h.0 (sym is ∙ (direct h.0).0 h.1)))
  has_found (Some seconds) is = (λ t. (seconds, (direct seconds).1 is), λ h. refl)

  -- where one of two records has a window, a direct time is needed
  pub needs_direct : (boarding alighting : Timing) → (HasTimes boarding × HasTimes alighting → ⊥) → IsTrue (is_some found) ↔ HasDirectTime times ride boarding alighting
  needs_direct (timing.Times a d) (timing.Times a' d') window = absurd (window (tt, tt))
  needs_direct (timing.Times a d) (timing.Window s' e') window = has_found found refl
  needs_direct (timing.Window s e) second window = has_found found refl

-- a ride that is left at a time leaves enough time for that, and arrives then
pub at_a_time : (times : Times) (days : DayTable) (ride : Ride) (by : ℤ) (boarding : Timing) (arrives departs : ℕ) → LeavesTime times ride boarding
    → (test : Bool) → IsTrue test ↔ IsShiftedMoment days ride.day by arrives ride.arrives → IsTrue test ↔ Arrives times days ride by boarding (timing.Times arrives departs)
at_a_time times days ride by (timing.Times a d) arrives departs leaves test at = at
at_a_time times days ride by (timing.Window s e) arrives departs leaves test at = (λ t. (leaves, at.0 t), λ h. at.1 h.1)
