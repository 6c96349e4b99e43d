-- Boardings of a round whose rides are held, and rides that they make needless.
--
-- A boarding carries the deadline and the walk of the rides before it. A ride is needless where an
-- earlier boarding, with no earlier a deadline and no longer a walk, has a ride without a booking that
-- alights at the same place at the same moment. This project's own.
use Rattle.std.specs.Prelude.{◌≡◌, ◌⊎◌, ℕ, ◌<◌, ◌≤◌, ℤ, pos, ◌+ℤ◌, ◌≤ℤ◌, Option, Some, List, ◌++◌, Contains, slice_get}
use Rattle.flex_model.specs.declared.feed.Feed.{Feed}
use Rattle.flex_model.specs.declared.moment.DayTable.{DayTable}
use Rattle.flex_model.specs.declared.moment.Deadline.{Deadline}
use Rattle.flex_model.specs.declared.place.Place.TheVariants as place
use Rattle.flex_model.specs.declared.ride.Ride.{Ride}
use Rattle.flex_model.specs.declared.times.Times.{Times}
use Rattle.flex_model.specs.declared.trip.Row.{Row}
use Rattle.flex_model.specs.declared.trip.Spot.TheVariants as spot
use Rattle.flex_model.specs.declared.trip.Timing.TheVariants as timing
use Rattle.flex_model.specs.declared.trip.Way.TheVariants.{Book, Free}
use Rattle.flex_model.specs.Booking.{HasBooking}
use Rattle.flex_model.specs.Deadline.{IsNoLater}
use Rattle.flex_model.specs.Ride.{IsPermittedRide}
use Rattle.ride_index.specs.declared.boarded.BoardingPoint.{BoardingPoint}
use Rattle.ride_index.specs.declared.boarded.Carried.{Carried}
use Rattle.ride_index.specs.declared.boarded.Note.{Note}
use Rattle.ride_index.specs.declared.offered_run.OfferedRun.{OfferedRun}
use Rattle.ride_index.specs.declared.wanted.Wanted.{Wanted}
use Rattle.ride_index.specs.OfferedRuns.{IsCovered, IsWantedRide, nth_deadline, nth_ride}

-- a is booked no earlier and walks no farther than b
pub record IsAsGood (a b : Carried) : Type 0 where
  pub booked : IsNoLater b.deadline a.deadline
  pub short : a.walk ≤ b.walk

-- One can board at the record from the point without booking. Times of the trip count from the moment
-- zero.
pub record CanBoard (row : Row) (zero : ℤ) (point : BoardingPoint) : Type 0 where
  pub stop : ℕ
  pub departs : ℕ
  pub at_stop : row.spot ≡ spot.Stop stop
  pub at_place : point.place ≡ place.Stop stop
  pub timed : (arrives : ℕ) × (row.timing ≡ timing.Times arrives departs)
  pub free : row.pickup ≡ Free
  pub leaves : point.earliest ≤ℤ (zero +ℤ pos departs)

-- no drop-off after the record with this number has to be booked
abbrev pub AreFreeAfter : List Row → ℕ → Type 0
AreFreeAfter rows r = (at : ℕ) (row : Row) (rule : Option ℕ) → r < at
    → slice_get rows at ≡ Some row → row.drop_off ≡ Book rule → ⊥

-- The point carries no less, and can be boarded at the one record, which is no later than the other.
-- Nothing has to be booked from there on.
pub record IsBoardedAt (rows : List Row) (at r : ℕ) (zero : ℤ) (point : BoardingPoint)
    (carried : Carried) : Type 0 where
  pub early : at ≤ r
  pub as_good : IsAsGood point.carried carried
  pub row : Row
  pub at_row : slice_get rows at ≡ Some row
  pub boards : CanBoard row zero point
  pub free : AreFreeAfter rows r

-- The note with this number tells such a point and record.
pub record IsNoted (boarded : List BoardingPoint × List Note) (number : ℕ) (rows : List Row) (r : ℕ)
    (zero : ℤ) (carried : Carried) : Type 0 where
  pub note : Note
  pub is_note : slice_get boarded.1 number ≡ Some note
  pub point : BoardingPoint
  pub is_point : slice_get boarded.0 note.point ≡ Some point
  pub boarded_at : IsBoardedAt rows note.row r zero point carried

-- A point that carries no less has a ride without a booking that alights at the same place and moment.
pub record IsNeedless (feed : Feed) (times : Times) (days : DayTable) (points : List BoardingPoint)
    (carried : Carried) (ride : Ride) : Type 0 where
  pub point : BoardingPoint
  pub among : Contains points point
  pub as_good : IsAsGood point.carried carried
  pub other : Ride
  pub permitted : IsPermittedRide feed times days other
  pub boards : other.board ≡ point.place
  pub leaves : point.earliest ≤ℤ other.departs
  pub alights : other.alight ≡ ride.alight
  pub arrives : other.arrives ≡ ride.arrives
  pub free : (rule : Option ℕ) → HasBooking feed other rule → ⊥

-- The list gained rides with the first property alone, and all of them but some with the second.
pub record GainsBut (P R : Ride → Type 0) (before after : List Ride) : Type 0 where
  pub kept : (ride : Ride) → Contains before ride → Contains after ride
  pub each : (ride : Ride) → Contains after ride → Contains before ride ⊎ P ride
  pub whole : (ride : Ride) → P ride → Contains after ride ⊎ R ride

-- the rides that are wanted from the point, by the same limit
abbrev pub wanted_at : Wanted → BoardingPoint → Wanted
wanted_at wanted point = record wanted { place = point.place; earliest = point.earliest }

-- From an earlier point that carries no less a ride is wanted that alights at the same place. It can be
-- booked no less late and arrives no later.
pub record IsCoveredBefore (wanted : Wanted) (points : List BoardingPoint) (carried : Carried)
    (ride : Ride) (deadline : Deadline) : Type 0 where
  pub point : BoardingPoint
  pub among : Contains points point
  pub as_good : IsAsGood point.carried carried
  pub other : Ride
  pub its : Deadline
  pub is_wanted : IsWantedRide (wanted_at wanted point) other its
  pub alights : other.alight ≡ ride.alight
  pub booked : IsNoLater deadline its
  pub arrives : other.arrives ≤ℤ ride.arrives

-- The runs have rides with the first property alone, each with its deadline, and cover all of them but
-- some with the second.
pub record AreOffersBut (P R : Ride → Deadline → Type 0) (runs : List OfferedRun) : Type 0 where
  pub each : (run : OfferedRun) (k : ℕ) → Contains runs run → k < run.count
      → P (nth_ride run k) (nth_deadline run k)
  pub whole : (ride : Ride) (deadline : Deadline) → P ride deadline
      → IsCovered runs ride deadline ⊎ R ride deadline

-- Such offers were added to the list.
abbrev pub GainsOffersBut : (Ride → Deadline → Type 0) → (Ride → Deadline → Type 0)
    → List OfferedRun → List OfferedRun → Type 0
GainsOffersBut P R before after =
    (added : List OfferedRun) × (after ≡ before ++ added) × AreOffersBut P R added

-- The runs have wanted rides alone, and cover all that no earlier point covers.
abbrev pub AreOfferedAfter : Wanted → List BoardingPoint → Carried → List OfferedRun → Type 0
AreOfferedAfter wanted points carried runs =
    AreOffersBut (IsWantedRide wanted) (IsCoveredBefore wanted points carried) runs

-- the point from which rides are wanted
abbrev pub point_of : Wanted → Carried → BoardingPoint
point_of wanted carried = record {
  place = wanted.place;
  earliest = wanted.earliest;
  carried = carried;
}
