-- Departures of a run, and those of them that count for one who books.
--
-- The rides of a run differ in their moments alone. A departure of the run is open where it isn't
-- before an earliest moment and its ride can be booked. It has the pair of its ride's deadline and
-- its arrival. It counts where no different pair of an open departure covers its pair. Of the
-- departures that count and have the same pair, the earliest is kept and the others aren't.
--
-- Two laws show which these are. A ride that can be booked can be booked too where it leaves later.
-- And the deadline rises as the departure does, up to a latest one, and is constant from there.
--
-- This project's own.
use Rattle.std.specs.Prelude.{◌≡◌, ℕ, ◌*◌, ◌<◌, ◌≤◌, ℤ, pos, ◌+ℤ◌, ◌≤ℤ◌}
use Rattle.flex_model.specs.declared.answer.Pair.{Pair}
use Rattle.flex_model.specs.declared.feed.Feed.{Feed}
use Rattle.flex_model.specs.declared.moment.DayTable.{DayTable}
use Rattle.flex_model.specs.declared.moment.Deadline.{Deadline}
use Rattle.flex_model.specs.declared.moment.Deadline.TheVariants.{At, Never}
use Rattle.flex_model.specs.declared.ride.Arrives.TheVariants as arrival
use Rattle.flex_model.specs.declared.ride.Ride.{Ride}
use Rattle.flex_model.specs.declared.ride.Run.{Run}
use Rattle.flex_model.specs.Booking.{IsBookable, IsDeadline}
use Rattle.flex_model.specs.Deadline.{lesser}
use Rattle.flex_model.specs.Run.{IsInRun}
use Rattle.flex_model.specs.Triple.{CoversPair}
use Rattle.booking_rules.specs.Openings.{IsInRange}

-- the ride of the same trip, day, start, records and places that leaves and arrives then
abbrev pub ride_at : Ride → ℤ → ℤ → Ride
ride_at ride departs arrives = record ride { departs = departs; arrives = arrives }

-- the pair of a ride with this deadline and arrival, to which nobody walks
abbrev pub pair_of : Deadline → ℤ → Pair
pair_of deadline arrives = record { deadline = deadline; arrival = arrives; walk = 0 }

-- the departure of the run with this number, counted from 0
abbrev pub nth_departure : Run → ℕ → ℤ
nth_departure run k = run.first +ℤ pos (60 * k)

-- each departure of the run is in the range of those of permitted rides
abbrev pub LeavesInRange : Run → Type 0
LeavesInRange run = (k : ℕ) → k < run.count → IsInRange (nth_departure run k)

module _ (feed : Feed) (days : DayTable) (ride : Ride) (run : Run) (now earliest : ℤ) where
  -- The run has a ride that leaves and arrives then, not before the earliest moment, and it can be
  -- booked.
  pub record IsOpen (departs arrives : ℤ) : Type 0 where
    pub in_run : IsInRun run departs arrives
    pub not_before : earliest ≤ℤ departs
    pub bookable : IsBookable feed days (ride_at ride departs arrives) now

  -- The departure is open, and its ride has this deadline.
  pub record IsOpenUntil (departs arrives : ℤ) (deadline : Deadline) : Type 0 where
    pub is_open : IsOpen departs arrives
    pub until : IsDeadline feed days (ride_at ride departs arrives) deadline

  -- The departure counts: no different pair of an open departure covers its own.
  pub record Counts (departs arrives : ℤ) (deadline : Deadline) : Type 0 where
    pub open_until : IsOpenUntil departs arrives deadline
    pub uncovered : (other_departs other_arrives : ℤ) (other : Deadline)
        → IsOpenUntil other_departs other_arrives other
        → CoversPair (pair_of other other_arrives) (pair_of deadline arrives)
        → pair_of other other_arrives ≡ pair_of deadline arrives

  -- The departure counts, and none that counts with the same pair is earlier.
  pub record IsKept (departs arrives : ℤ) : Type 0 where
    pub deadline : Deadline
    pub counts : Counts departs arrives deadline
    pub first : (other : ℤ) → Counts other arrives deadline → departs ≤ℤ other

-- where all rides of the run arrive at one moment, there is one
abbrev pub HasOneAtMoment : Run → Type 0
HasOneAtMoment run = (moment : ℤ) → run.arrives ≡ arrival.At moment → run.count ≡ 1

-- The kept run has a departure whose ride can be booked no less late and arrives no later.
pub record IsCoveredBy (feed : Feed) (days : DayTable) (ride : Ride) (kept : Run)
    (arrives : ℤ) (deadline : Deadline) : Type 0 where
  pub departs : ℤ
  pub then_arrives : ℤ
  pub in_run : IsInRun kept departs then_arrives
  pub until : Deadline
  pub closes : IsDeadline feed days (ride_at ride departs then_arrives) until
  pub covers : CoversPair (pair_of until then_arrives) (pair_of deadline arrives)

-- A ride that can be booked can be booked too where it leaves later.
abbrev pub LaterRidesCanBeBooked : Type 0
LaterRidesCanBeBooked =
    (feed : Feed) (days : DayTable) (ride : Ride) (departs arrives now : ℤ)
    → ride.departs ≤ℤ departs → IsBookable feed days ride now
    → IsBookable feed days (ride_at ride departs arrives) now

-- the deadline that is so many seconds later; never stays never
abbrev pub later : Deadline → ℕ → Deadline
later (At moment) seconds = At (moment +ℤ pos seconds)
later Never seconds = Never

-- From one departure to another one some seconds later the deadline rises as the departure does, up
-- to the deadline of the other one, and is constant from there.
abbrev pub DeadlinesRiseToTheLatest : Type 0
DeadlinesRiseToTheLatest =
    (feed : Feed) (days : DayTable) (ride : Ride) (first latest : Deadline)
    (seconds all_seconds : ℕ) (arrives arrives_last : ℤ)
    → seconds ≤ all_seconds
    → IsDeadline feed days ride first
    → IsDeadline feed days (ride_at ride (ride.departs +ℤ pos all_seconds) arrives_last) latest
    → IsDeadline feed days (ride_at ride (ride.departs +ℤ pos seconds) arrives)
    (lesser (later first seconds) latest)
