-- Offers: single rides of the runs that are offered from a boarding.
--
-- A ride is wanted from a boarding where it is usable, alights at a stop or at the destination, arrives
-- by a limit, boards at the boarding's place and leaves no earlier than one can be there. This project's
-- own.
use Rattle.std.specs.Prelude.{◌≡◌, ℕ, ℤ, pos, ◌≤ℤ◌}
use Rattle.std.specs.Borrow.{Bor}
use Rattle.flex_model.specs.declared.moment.Deadline.{Deadline}
use Rattle.flex_model.specs.declared.moment.Deadline.TheVariants.{At}
use Rattle.flex_model.specs.declared.place.Place.{Place}
use Rattle.flex_model.specs.declared.ride.Ride.{Ride}
use Rattle.ride_index.specs.declared.active_days.ActiveDays.{ActiveDays}
use Rattle.ride_index.specs.declared.offered_run.OfferedRun.{OfferedRun}
use Rattle.ride_index.specs.declared.wanted.Wanted.{Wanted}
use Rattle.ride_index.specs.ActiveDays.{AreActiveDays}
use Rattle.ride_index.specs.Index.{IsIndexOf}
use Rattle.ride_index.specs.OfferedRuns.{nth_deadline, nth_ride}
use Rattle.round_engine.specs.declared.offer.Offer.{Offer}
use Rattle.round_engine.specs.declared.task.Lookups.{Lookups}
use Rattle.round_engine.specs.declared.task.Task.{Task}

-- the ride is boarded at the place, and leaves at the moment or later
pub record LeavesFrom (place : Place) (earliest : ℤ) (ride : Ride) : Type 0 where
  pub boards : ride.board ≡ place
  pub leaves : earliest ≤ℤ ride.departs

-- what is looked up is that of the task's feed and days
pub record AreLookupsOf (task : Task) (lookups : Lookups) : Type 0 where
  pub index : IsIndexOf task.feed.now lookups.index.now
  pub active : AreActiveDays task.feed.now task.days.now lookups.active.now

-- the rides that are wanted from the place, where one can be at the moment, by the limit
abbrev pub wanted_from : Task → Bor ActiveDays → Place → ℤ → ℤ → Wanted
wanted_from task active place earliest limit = record {
  feed = task.feed;
  times = task.times;
  days = task.days;
  active = active;
  asked = task.query.now.now;
  destination = task.query.now.destination;
  place = place;
  earliest = earliest;
  limit = limit;
}

-- the ride of the run with this number, counted from 0, with its deadline
abbrev pub nth_offer : OfferedRun → ℕ → Offer
nth_offer run k = record { ride = nth_ride run k; deadline = nth_deadline run k }

-- a moment of the deadline can be held by the code's numbers, with room for sums
abbrev pub IsModestDeadline : Deadline → Type 0
IsModestDeadline deadline = (moment : ℤ) → deadline ≡ At moment → moment ≤ℤ pos 30000000000

-- sums that lead to the offer's moments can be held by the code's numbers
pub record IsModest (offer : Offer) : Type 0 where
  pub departs : offer.ride.departs ≤ℤ pos 30000000000
  pub arrives : offer.ride.arrives ≤ℤ pos 30000000000
  pub booked : IsModestDeadline offer.deadline
