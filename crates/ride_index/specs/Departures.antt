-- Departures of trips, and the lists of them by which rides from a place are found.
--
-- A departure is a record of a trip at which one may board. There are six kinds: records with times
-- of trips that frequencies.txt doesn't name, the same of trips that it names, the first again where
-- the trip has a window, and records with a window that name a stop, a group or a zone. A trip with starts and a window has no rides, and so no
-- departure. A list has those of one kind, in the order of the numbers that they name, and for each
-- number in the order of the records' times of the service day, which for a trip with starts are those
-- before any shift. It knows no service days: on which of them a trip runs is asked when it is used.
--
-- GTFS Schedule reference, stop_times.txt (stop_id, location_group_id, location_id, departure_time,
-- start_pickup_drop_off_window, pickup_type) and frequencies.txt. The lists are this project's own.
use Rattle.std.specs.Prelude.{◌≡◌, ◌≢◌, ◌↔◌, ℕ, ◌<◌, ◌≤◌, Bool, false, IsTrue, ◌&&◌, ◌||◌, nat_lt, nat_eq, List, Some, All, AllPairs, Contains, slice_get}
use Rattle.flex_model.specs.declared.feed.Feed.{Feed}
use Rattle.flex_model.specs.declared.trip.Row.{Row}
use Rattle.flex_model.specs.declared.trip.Spot.{Spot}
use Rattle.flex_model.specs.declared.trip.Spot.TheVariants as spot
use Rattle.flex_model.specs.declared.trip.Timing.{Timing}
use Rattle.flex_model.specs.declared.trip.Timing.TheVariants as timing
use Rattle.flex_model.specs.declared.trip.Trip.{Trip}
use Rattle.flex_model.specs.declared.trip.Way.TheVariants.{No}
use Rattle.flex_model.specs.Ride.{HasTimes}
use Rattle.ride_index.specs.declared.departure.Departure.{Departure}
use Rattle.ride_index.specs.declared.departure.DepartureKind.{DepartureKind}
use Rattle.ride_index.specs.declared.departure.DepartureKind.TheVariants.{Once, AtStarts, BesideWindow, StopWindow, GroupWindow, ZoneWindow}

-- what a record of the kind names, by its number
abbrev pub spot_of : DepartureKind → ℕ → Spot
spot_of Once number = spot.Stop number
spot_of AtStarts number = spot.Stop number
spot_of BesideWindow number = spot.Stop number
spot_of StopWindow number = spot.Stop number
spot_of GroupWindow number = spot.Group number
spot_of ZoneWindow number = spot.Zone number

-- one may board at a record of the kind at this time of the service day, or from then on
abbrev pub LeavesFrom : DepartureKind → Timing → ℕ → Type 0
LeavesFrom Once t time = (arrives : ℕ) × (t ≡ timing.Times arrives time)
LeavesFrom AtStarts t time = (arrives : ℕ) × (t ≡ timing.Times arrives time)
LeavesFrom BesideWindow t time = (arrives : ℕ) × (t ≡ timing.Times arrives time)
LeavesFrom StopWindow t time = (end : ℕ) × (t ≡ timing.Window time end)
LeavesFrom GroupWindow t time = (end : ℕ) × (t ≡ timing.Window time end)
LeavesFrom ZoneWindow t time = (end : ℕ) × (t ≡ timing.Window time end)

-- one may board at the record, which is of the kind, names this and is left at this time, or from
-- then on
pub record IsBoardedAt (kind : DepartureKind) (row : Row) (named departs : ℕ) : Type 0 where
  pub at_spot : row.spot ≡ spot_of kind named
  pub timed : LeavesFrom kind row.timing departs
  pub picks_up : row.pickup ≢ No

-- the departure is one of these records of the trip with this number
pub record IsAmong (kind : DepartureKind) (rows : List Row) (number : ℕ)
    (departure : Departure) : Type 0 where
  pub of_trip : departure.trip ≡ number
  pub row : Row
  pub at_row : slice_get rows departure.row ≡ Some row
  pub boarded : IsBoardedAt kind row departure.named departure.departs

-- The trip has rides from records of the kind: at starts that frequencies.txt gives, where no record
-- has a window, or without such starts.
abbrev pub RunsSo : DepartureKind → Trip → Type 0
RunsSo Once trip = trip.frequent ≡ false
RunsSo AtStarts trip = IsTrue trip.frequent × All (λ row. HasTimes row.timing) trip.rows
RunsSo BesideWindow trip =
    (trip.frequent ≡ false) × (All (λ row. HasTimes row.timing) trip.rows → ⊥)
RunsSo StopWindow trip = trip.frequent ≡ false
RunsSo GroupWindow trip = trip.frequent ≡ false
RunsSo ZoneWindow trip = trip.frequent ≡ false

-- the departure is at a record with times of this trip of the feed
pub record IsTimedDeparture (feed : Feed) (trip : Trip) (departure : Departure) : Type 0 where
  pub of_trip : slice_get feed.trips departure.trip ≡ Some trip
  pub row : Row
  pub at_row : slice_get trip.rows departure.row ≡ Some row
  pub at_stop : row.spot ≡ spot.Stop departure.named
  pub timed : (arrives : ℕ) × (row.timing ≡ timing.Times arrives departure.departs)
  pub picks_up : row.pickup ≢ No

-- the departure is one of the kind
pub record IsDeparture (feed : Feed) (kind : DepartureKind) (departure : Departure) : Type 0 where
  pub trip : Trip
  pub of_trip : slice_get feed.trips departure.trip ≡ Some trip
  pub runs_so : RunsSo kind trip
  pub among : IsAmong kind trip.rows departure.trip departure

-- the departure is from a lesser number than this one, or from this one and before this time
abbrev pub comes_before : ℕ → ℕ → Departure → Bool
comes_before named time departure =
    nat_lt departure.named named
    || (nat_eq departure.named named && nat_lt departure.departs time)

-- by what their records name, and for each number by their times
abbrev pub AreInOrder : List Departure → Type 0
AreInOrder departures = AllPairs (λ a b. comes_before a.named a.departs b ≡ false) departures

-- the list has the feed's departures of the kind, and no others
abbrev pub HasDepartures : Feed → DepartureKind → List Departure → Type 0
HasDepartures feed kind departures =
    (departure : Departure) → Contains departures departure ↔ IsDeparture feed kind departure

-- at a record that names this, no earlier than the one time and before the other
pub record IsWithin (named from until : ℕ) (departure : Departure) : Type 0 where
  pub at_named : departure.named ≡ named
  pub from_then : from ≤ departure.departs
  pub until_then : departure.departs < until
