-- Rides of runs whose moments can be held by the code's numbers, with room for sums. This project's
-- own.
use Rattle.std.specs.Prelude.{◌≡◌, ℕ, ℤ, pos, ◌≤ℤ◌}
use Rattle.flex_model.specs.declared.moment.Deadline.{Deadline}
use Rattle.flex_model.specs.declared.moment.Deadline.TheVariants.{At}
use Rattle.ride_index.specs.declared.offered_run.OfferedRun.{OfferedRun}
use Rattle.ride_index.specs.OfferedRuns.{nth_deadline, nth_ride}

-- a moment of the deadline can be held
abbrev pub IsModestDeadline : Deadline → Type 0
IsModestDeadline deadline = (moment : ℤ) → deadline ≡ At moment → moment ≤ℤ pos 30000000000

-- the moments of the ride of the run with this number, and that of its deadline, can be held
pub record IsModest (run : OfferedRun) (k : ℕ) : Type 0 where
  pub departs : (nth_ride run k).departs ≤ℤ pos 30000000000
  pub arrives : (nth_ride run k).arrives ≤ℤ pos 30000000000
  pub booked : IsModestDeadline (nth_deadline run k)
