-- The rides of one leg: of one trip and day between two records and two places.
--
-- A ride stands for its leg, where its moments aren't looked at. This project's own.
use Rattle.std.specs.Prelude.{◌≡◌, ◌⊎◌, ℕ, ◌<◌, ℤ, pos, ◌+ℤ◌, ◌≤ℤ◌, None, Some, List, Contains, slice_get}
use Rattle.flex_model.specs.declared.feed.Feed.{Feed}
use Rattle.flex_model.specs.declared.moment.Deadline.{Deadline}
use Rattle.flex_model.specs.declared.place.Place.{Place}
use Rattle.flex_model.specs.declared.trip.Row.{Row}
use Rattle.flex_model.specs.declared.trip.Spot.{Spot}
use Rattle.flex_model.specs.declared.trip.Timing.{Timing}
use Rattle.flex_model.specs.declared.trip.Timing.TheVariants as timing
use Rattle.flex_model.specs.declared.trip.Trip.{Trip}
use Rattle.fixed_trips.specs.Timed.{HasTimedRow}
use Rattle.flex_trips.specs.Windows.{HasWindowRow}
use Rattle.flex_model.specs.declared.ride.Arrives.{Arrives}
use Rattle.flex_model.specs.declared.ride.Arrives.TheVariants.{After, At}
use Rattle.flex_model.specs.declared.ride.Ride.{Ride}
use Rattle.flex_model.specs.declared.ride.Run.{Run}
use Rattle.flex_model.specs.Booking.{IsBookable}
use Rattle.flex_model.specs.Place.{IsStop}
use Rattle.flex_model.specs.Run.{IsInRun}
use Rattle.service_days.specs.Running.{IsRunning}
use Rattle.booking_rules.specs.Departures.{HasOneAtMoment, IsCoveredBy, LeavesInRange, ride_at}
use Rattle.ride_index.specs.declared.departure.Departure.{Departure}
use Rattle.ride_index.specs.declared.wanted.Wanted.{Wanted}
use Rattle.ride_index.specs.OfferedRuns.{IsReachable, IsWantedRide}

-- the run has a ride that leaves and arrives then, by the limit
abbrev pub IsInTime : Run → ℤ → ℤ → ℤ → Type 0
IsInTime run limit departs arrives = IsInRun run departs arrives × (arrives ≤ℤ limit)

-- when a ride of the run arrives that leaves then
abbrev pub arrival_then : Arrives → ℤ → ℤ
arrival_then (After seconds) departs = departs +ℤ pos seconds
arrival_then (At moment) departs = moment

-- the ride is one of the leg
abbrev pub IsOfLeg : Ride → Ride → Type 0
IsOfLeg leg ride = ride ≡ ride_at leg ride.departs ride.arrives

-- the ride is wanted, has this deadline, and is one of the leg
abbrev pub IsLegRide : Wanted → Ride → Ride → Deadline → Type 0
IsLegRide wanted leg ride deadline = IsWantedRide wanted ride deadline × IsOfLeg leg ride

-- the leg has no start, boards at the place, and alights at a stop or at the destination
pub record IsLegOf (wanted : Wanted) (leg : Ride) : Type 0 where
  pub no_start : leg.start ≡ None
  pub boards : leg.board ≡ wanted.place
  pub alights : IsStop leg.alight ⊎ (leg.alight ≡ wanted.destination)

-- The run has rides of the leg alone that are wanted, and covers all of them.
pub record IsKeptRun (wanted : Wanted) (leg : Ride) (kept : Run) : Type 0 where
  pub some : 0 < kept.count
  pub departs : LeavesInRange kept
  pub single : HasOneAtMoment kept
  pub each : (departs arrives : ℤ) → IsInRun kept departs arrives
      → IsReachable wanted (ride_at leg departs arrives)
      × IsBookable wanted.feed.now wanted.days.now (ride_at leg departs arrives) wanted.asked
  pub covers : (ride : Ride) (deadline : Deadline) → IsLegRide wanted leg ride deadline
      → IsCoveredBy wanted.feed.now wanted.days.now leg kept ride.arrives deadline

-- the same leg to another place
abbrev pub to_place : Ride → Place → Ride
to_place leg alight = record leg { alight = alight }

-- The ride is wanted, has this deadline, and is one of the leg to some place.
abbrev pub IsRowsRide : Wanted → Ride → Ride → Deadline → Type 0
IsRowsRide wanted leg ride deadline =
    IsWantedRide wanted ride deadline × IsOfLeg (to_place leg ride.alight) ride

-- the trip with this number runs on the day
abbrev pub RunsThen : Wanted → ℕ → ℤ → Type 0
RunsThen wanted t day =
    (trip : Trip) → slice_get wanted.feed.now.trips t ≡ Some trip
    → IsRunning wanted.feed.now wanted.days.now trip day

-- The leg has no start, boards at the place on a day on which its trip runs, and one of its records
-- has a window.
pub record IsRowsLeg (wanted : Wanted) (leg : Ride) : Type 0 where
  pub no_start : leg.start ≡ None
  pub boards : leg.board ≡ wanted.place
  pub rows : HasWindowRow wanted.feed.now leg.trip leg.from_row leg.to_row
  pub runs : RunsThen wanted leg.trip leg.day

-- the record of the trip names this
abbrev pub HasSpot : Feed → ℕ → ℕ → Spot → Type 0
HasSpot feed t r at =
    (trip : Trip) × (row : Row) × (slice_get feed.trips t ≡ Some trip)
    × (slice_get trip.rows r ≡ Some row) × (row.spot ≡ at)

-- the feed has this trip, and the trip this record
abbrev pub HasRecord : Feed → ℕ → ℕ → Row → Type 0
HasRecord feed t r row =
    (trip : Trip) × (slice_get feed.trips t ≡ Some trip) × (slice_get trip.rows r ≡ Some row)

-- The ride is wanted and has this deadline, and one of its records has a window.
abbrev pub IsWindowRide : Wanted → Ride → Deadline → Type 0
IsWindowRide wanted ride deadline =
    IsWantedRide wanted ride deadline
    × HasWindowRow wanted.feed.now ride.trip ride.from_row ride.to_row

-- the ride boards at this record of the trip
abbrev pub BoardsAt : ℕ → ℕ → Ride → Type 0
BoardsAt t r ride = (ride.trip ≡ t) × (ride.from_row ≡ r)

-- the ride boards at this record of the trip on the day
abbrev pub BoardsOn : ℕ → ℕ → ℤ → Ride → Type 0
BoardsOn t r day ride = BoardsAt t r ride × (ride.day ≡ day)

-- the ride boards with a departure of the list that names this
pub record BoardsWith (departures : List Departure) (named : ℕ) (ride : Ride) : Type 0 where
  pub departure : Departure
  pub listed : Contains departures departure
  pub at_named : departure.named ≡ named
  pub boards : BoardsAt departure.trip departure.row ride

-- the ride boards with a departure of the list
abbrev pub BoardsWithAny : List Departure → Ride → Type 0
BoardsWithAny departures ride =
    (departure : Departure) × Contains departures departure
    × BoardsAt departure.trip departure.row ride

-- the leg from the departure on the day to this record, to no other place yet
abbrev pub leg_from : Wanted → Departure → ℤ → ℕ → Ride
leg_from wanted departure day to_row = record {
  trip = departure.trip;
  day = day;
  start = None;
  from_row = departure.row;
  to_row = to_row;
  board = wanted.place;
  alight = wanted.place;
  departs = pos 0;
  arrives = pos 0;
}

-- each departure of the list is at a record of the feed
abbrev pub AreAtRecords : Feed → List Departure → Type 0
AreAtRecords feed departures =
    (departure : Departure) → Contains departures departure
    → (row : Row) × HasRecord feed departure.trip departure.row row

-- the record at which the ride boards names this
abbrev pub BoardsFrom : Feed → Spot → Ride → Type 0
BoardsFrom feed at ride = HasSpot feed ride.trip ride.from_row at

-- The ride is wanted and has this deadline, and both of its records have times.
abbrev pub IsTimedOffer : Wanted → Ride → Deadline → Type 0
IsTimedOffer wanted ride deadline =
    IsWantedRide wanted ride deadline
    × HasTimedRow wanted.feed.now ride.trip ride.from_row
    × HasTimedRow wanted.feed.now ride.trip ride.to_row

-- the first and the last second of a service day at which one may leave a record
abbrev pub first_second : Timing → ℕ
first_second (timing.Times arrives departs) = departs
first_second (timing.Window start end) = start

abbrev pub last_second : Timing → ℕ
last_second (timing.Times arrives departs) = departs
last_second (timing.Window start end) = end
