-- Records with windows, and the rides from or to them.
use Rattle.std.specs.Prelude.{◌≡◌, ◌≢◌, ℕ, ◌+◌, ◌*◌, ◌<◌, ◌≤◌, ℤ, pos, ◌+ℤ◌, Option, Some, None, slice_get}
use Rattle.flex_model.specs.declared.feed.Feed.{Feed}
use Rattle.flex_model.specs.declared.moment.DayTable.{DayTable}
use Rattle.flex_model.specs.declared.place.Place.{Place}
use Rattle.flex_model.specs.declared.ride.Arrives.{Arrives as Arrival}
use Rattle.flex_model.specs.declared.ride.Arrives.TheVariants.{After, At}
use Rattle.flex_model.specs.declared.ride.Ride.{Ride}
use Rattle.flex_model.specs.declared.times.Times.{Times}
use Rattle.flex_model.specs.declared.trip.Row.{Row}
use Rattle.flex_model.specs.declared.trip.Timing.{Timing}
use Rattle.flex_model.specs.declared.trip.Timing.TheVariants as timing
use Rattle.flex_model.specs.declared.trip.Trip.{Trip}
use Rattle.flex_model.specs.declared.trip.Way.TheVariants.{No}
use Rattle.flex_model.specs.Place.{Serves}
use Rattle.flex_model.specs.Ride.{Arrives, HasTimes, Leaves}
use Rattle.flex_trips.specs.declared.departures.Departures.{Departures}

-- the feed has this trip, and the trip has these two records, of which at least one has a window
pub record HasWindowRow (feed : Feed) (t from to : ℕ) : Type 0 where
  pub trip : Trip
  pub of_trip : slice_get feed.trips t ≡ Some trip
  pub boarding : Row
  pub at_boarding : slice_get trip.rows from ≡ Some boarding
  pub alighting : Row
  pub at_alighting : slice_get trip.rows to ≡ Some alighting
  pub window : HasTimes boarding.timing × HasTimes alighting.timing → ⊥

-- one may board at the one record and place, and alight at the other
pub record MayRide (feed : Feed) (times : Times) (boarding alighting : Row)
    (board alight : Place) : Type 0 where
  pub boards : Serves feed times boarding.spot board
  pub picks_up : boarding.pickup ≢ No
  pub alights : Serves feed times alighting.spot alight
  pub drops_off : alighting.drop_off ≢ No

-- the ride, which has no start, leaves and arrives as the records say
abbrev pub HasTiming : Times → DayTable → Ride → Timing → Timing → Type 0
HasTiming times days ride boarding alighting =
    Leaves days ride (pos 0) boarding × Arrives times days ride (pos 0) boarding alighting

-- the second of the day begins a minute
abbrev pub IsWholeMinute : ℕ → Type 0
IsWholeMinute second = (minute : ℕ) × (second ≡ 60 * minute)

-- one may leave the record at this second of the day: at its departure, or on a whole minute of its
-- window
abbrev pub LeavesAt : Timing → ℕ → Type 0
LeavesAt (timing.Times arrives departs) second = second ≡ departs
LeavesAt (timing.Window start end) second =
    IsWholeMinute second × (start ≤ second) × (second ≤ end)

-- from when on one may reach the record to alight there, in seconds of the day
abbrev pub earliest_arrival : Timing → ℕ
earliest_arrival (timing.Times arrives departs) = 0
earliest_arrival (timing.Window start end) = start

-- until when one may reach it
abbrev pub latest_arrival : Timing → ℕ
latest_arrival (timing.Times arrives departs) = arrives
latest_arrival (timing.Window start end) = end

-- one may leave the one record at this second of the day, and reaches the other in time
abbrev pub IsDeparture : ℕ → Timing → Timing → ℕ → Type 0
IsDeparture seconds boarding alighting second =
    LeavesAt boarding second
    × (earliest_arrival alighting ≤ second + seconds)
    × (second + seconds ≤ latest_arrival alighting)

-- one of the departures, at this second of the day
abbrev pub IsAmong : Option Departures → ℕ → Type 0
IsAmong None second = ⊥
IsAmong (Some departures) second =
    (k : ℕ) × (k < departures.count) × (second ≡ departures.first + 60 * k)

-- when rides of a day that begins then arrive: at the arrival of the record, or after the direct
-- time within its window
abbrev pub arrival_of : ℤ → ℕ → Timing → Arrival
arrival_of base seconds (timing.Times arrives departs) = At (base +ℤ pos arrives)
arrival_of base seconds (timing.Window start end) = After seconds
