-- Runs of rides that are offered from a place.
--
-- A ride is wanted from a place where it is permitted and bookable, boards there, leaves no earlier
-- than a moment, arrives by a limit, and alights at a stop or at the destination. The runs that are
-- offered have such rides alone, each with its deadline. Each wanted ride is covered by a ride of a
-- run that alights at the same place: that one can be booked no less late and arrives no later.
--
-- This project's own.
use Rattle.std.specs.Prelude.{◌≡◌, ◌⊎◌, ℕ, ◌*◌, ◌<◌, pos, ◌+ℤ◌, ◌≤ℤ◌, List, ◌++◌, Contains}
use Rattle.flex_model.specs.declared.moment.Deadline.{Deadline}
use Rattle.flex_model.specs.declared.ride.Ride.{Ride}
use Rattle.flex_model.specs.Booking.{IsBookable, IsDeadline}
use Rattle.flex_model.specs.Deadline.{IsNoLater, lesser}
use Rattle.flex_model.specs.Place.{IsStop}
use Rattle.flex_model.specs.Ride.{IsPermittedRide}
use Rattle.flex_model.specs.SoundFeed.{IsSoundFeed}
use Rattle.flex_model.specs.SoundQuery.{IsSoundDayTable}
use Rattle.flex_model.specs.SoundTimes.{AreSoundTimes}
use Rattle.booking_rules.specs.Departures.{later}
use Rattle.ride_index.specs.declared.offered_run.OfferedRun.{OfferedRun}
use Rattle.ride_index.specs.declared.wanted.Wanted.{Wanted}
use Rattle.ride_index.specs.ActiveDays.{AreActiveDays}

-- the ride of the run with this number, counted from 0
abbrev pub nth_ride : OfferedRun → ℕ → Ride
nth_ride run k = record run.ride {
  departs = run.ride.departs +ℤ pos (60 * k);
  arrives = run.ride.arrives +ℤ pos (60 * k);
}

-- its deadline
abbrev pub nth_deadline : OfferedRun → ℕ → Deadline
nth_deadline run k = lesser (later run.closes (60 * k)) run.latest

-- a run of the list has a ride to the same place that can be booked no less late and arrives no later
pub record IsCovered (runs : List OfferedRun) (ride : Ride) (deadline : Deadline) : Type 0 where
  pub run : OfferedRun
  pub among : Contains runs run
  pub at : ℕ
  pub low : at < run.count
  pub alights : run.ride.alight ≡ ride.alight
  pub booked : IsNoLater deadline (nth_deadline run at)
  pub arrives : (nth_ride run at).arrives ≤ℤ ride.arrives

-- The runs have rides with the property alone, each with its deadline, and cover all of them.
pub record AreOffersOf (P : Ride → Deadline → Type 0) (runs : List OfferedRun) : Type 0 where
  pub each : (run : OfferedRun) (k : ℕ) → Contains runs run → k < run.count
      → P (nth_ride run k) (nth_deadline run k)
  pub whole : (ride : Ride) (deadline : Deadline) → P ride deadline → IsCovered runs ride deadline

-- Offers of the rides with the property were added to the list.
abbrev pub GainsOffersOf : (Ride → Deadline → Type 0) → List OfferedRun → List OfferedRun → Type 0
GainsOffersOf P before after =
    (added : List OfferedRun) × (after ≡ before ++ added) × AreOffersOf P added

-- all that is given is sound
pub record IsSoundWanted (wanted : Wanted) : Type 0 where
  pub feed : IsSoundFeed wanted.feed.now
  pub times : AreSoundTimes wanted.feed.now wanted.times.now
  pub days : IsSoundDayTable wanted.days.now
  pub active : AreActiveDays wanted.feed.now wanted.days.now wanted.active.now

-- The ride is permitted, boards at the place, leaves no earlier than wanted and arrives by the limit.
pub record IsReachable (wanted : Wanted) (ride : Ride) : Type 0 where
  pub permitted : IsPermittedRide wanted.feed.now wanted.times.now wanted.days.now ride
  pub boards : ride.board ≡ wanted.place
  pub leaves : wanted.earliest ≤ℤ ride.departs
  pub arrives : ride.arrives ≤ℤ wanted.limit

-- The ride is wanted, and has this deadline.
pub record IsWantedRide (wanted : Wanted) (ride : Ride) (deadline : Deadline) : Type 0 where
  pub permitted : IsPermittedRide wanted.feed.now wanted.times.now wanted.days.now ride
  pub bookable : IsBookable wanted.feed.now wanted.days.now ride wanted.asked
  pub booked : IsDeadline wanted.feed.now wanted.days.now ride deadline
  pub boards : ride.board ≡ wanted.place
  pub alights : IsStop ride.alight ⊎ (ride.alight ≡ wanted.destination)
  pub leaves : wanted.earliest ≤ℤ ride.departs
  pub arrives : ride.arrives ≤ℤ wanted.limit

-- The runs are offered from the place.
abbrev pub AreOfferedFrom : Wanted → List OfferedRun → Type 0
AreOfferedFrom wanted runs = AreOffersOf (IsWantedRide wanted) runs
