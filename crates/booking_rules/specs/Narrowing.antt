-- Where the departures of a run begin to be open, and for how long the deadline rises from there.
--
-- This project's own.
use Rattle.std.specs.Prelude.{◌↔◌, ℕ, ◌+◌, ◌-◌, ◌*◌, ◌≤◌, ℤ, ◌≤ℤ◌}
use Rattle.flex_model.specs.declared.feed.Feed.{Feed}
use Rattle.flex_model.specs.declared.moment.DayTable.{DayTable}
use Rattle.flex_model.specs.declared.moment.Deadline.{Deadline}
use Rattle.flex_model.specs.declared.ride.Arrives.{Arrives}
use Rattle.flex_model.specs.declared.ride.Arrives.TheVariants.{After, At}
use Rattle.flex_model.specs.declared.ride.Ride.{Ride}
use Rattle.flex_model.specs.declared.ride.Run.{Run}
use Rattle.flex_model.specs.Booking.{IsBookable, IsDeadline}
use Rattle.flex_model.specs.Deadline.{IsNoLater}
use Rattle.booking_rules.specs.Departures.{later, nth_departure, ride_at}

-- the number of the run's last departure, counted from 0
abbrev pub last_number : Run → ℕ
last_number run = run.count - 1

-- the ride at the departure of the run with this number
abbrev pub nth_ride : Ride → Run → ℕ → Ride
nth_ride ride run k = ride_at ride (nth_departure run k) ride.arrives

-- The departure of the run with this number isn't before the earliest moment, and its ride can be
-- booked.
pub record IsNthOpen (feed : Feed) (days : DayTable) (ride : Ride) (run : Run) (now earliest : ℤ)
    (k : ℕ) : Type 0 where
  pub not_before : earliest ≤ℤ nth_departure run k
  pub bookable : IsBookable feed days (nth_ride ride run k) now

-- From this departure of the run on the deadline rises for so many minutes, up to the latest one.
pub record RisesFor (feed : Feed) (days : DayTable) (ride : Ride) (run : Run) (latest : Deadline)
    (first minutes : ℕ) : Type 0 where
  pub deadline : Deadline
  pub of_first : IsDeadline feed days (nth_ride ride run first) deadline
  pub reached : (k : ℕ) → (minutes ≤ k) ↔ IsNoLater latest (later deadline (60 * k))

-- What counts of the run, where it is open from its first departure of these on and the deadline
-- rises for so many minutes from there: all departures for these minutes where each arrives after
-- the same time, and the last of them where all arrive at one moment.
abbrev pub kept_of : Run → ℕ → ℕ → Arrives → Run
kept_of run first minutes (After seconds) = record {
  first = nth_departure run first;
  count = minutes + 1;
  arrives = After seconds;
}
kept_of run first minutes (At moment) = record {
  first = nth_departure run (first + minutes);
  count = 1;
  arrives = At moment;
}
