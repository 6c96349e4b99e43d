-- The rides between records with times.
--
-- From a departure on a service day, and where its trip runs at starts with a start, there is at most
-- one such ride to each later record of the trip.
--
-- This project's own.
use Rattle.std.specs.Prelude.{◌≡◌, ◌≢◌, ℕ, ◌<◌, ◌≤◌, ℤ, pos, ◌+ℤ◌, ◌≤ℤ◌, Option, Some, List, All, AllPairs, slice_get}
use Rattle.flex_model.specs.declared.feed.Feed.{Feed}
use Rattle.flex_model.specs.declared.moment.DayTable.{DayTable}
use Rattle.flex_model.specs.declared.place.Place.TheVariants as place
use Rattle.flex_model.specs.declared.ride.Ride.{Ride}
use Rattle.flex_model.specs.declared.times.Times.{Times}
use Rattle.flex_model.specs.declared.trip.Row.{Row}
use Rattle.flex_model.specs.declared.trip.Spot.TheVariants as spot
use Rattle.flex_model.specs.declared.trip.Timing.TheVariants as timing
use Rattle.flex_model.specs.declared.trip.Way.TheVariants.{No}
use Rattle.flex_model.specs.Ride.{IsPermittedRide}
use Rattle.flex_model.specs.SoundFeed.{DoesNotFall, IsSoundTiming}
use Rattle.fixed_trips.specs.Timed.{HasTimedRow}
use Rattle.ride_index.specs.declared.departure.Departure.{Departure}

-- times of a trip of 336 hours after it are moments that the code's numbers can hold
pub record IsZero (zero : ℤ) : Type 0 where
  pub low : pos 0 ≤ℤ (zero +ℤ pos 5000000000)
  pub high : zero ≤ℤ pos 30000000000

-- where the records have times, these don't fall along them
pub record AreSoundRows (rows : List Row) : Type 0 where
  pub each : All (λ row. IsSoundTiming row.spot row.timing) rows
  pub times : AllPairs (λ a b. DoesNotFall a.timing b.timing) rows

-- the record has times, names this stop and is reached at this time of the service day
pub record IsReachedAt (row : Row) (stop arrives : ℕ) : Type 0 where
  pub at_stop : row.spot ≡ spot.Stop stop
  pub timed : (departs : ℕ) × (row.timing ≡ timing.Times arrives departs)

-- the ride that boards with the departure and leaves then, before it is known where it alights
abbrev pub boarded_with : Departure → ℤ → Option ℕ → ℤ → Ride
boarded_with departure day start departs = record {
  trip = departure.trip;
  day = day;
  start = start;
  from_row = departure.row;
  to_row = departure.row;
  board = place.Stop departure.named;
  alight = place.Stop departure.named;
  departs = departs;
  arrives = departs;
}

-- the same ride, which is left at this record and stop and arrives then
abbrev pub left_at : Ride → ℕ → ℕ → ℤ → Ride
left_at boarded to_row stop arrives = record boarded {
  to_row = to_row;
  alight = place.Stop stop;
  arrives = arrives;
}

-- The same ride, which alights at the record with this number. Times of the trip count from the moment
-- zero.
pub record AlightsAt (row : Row) (boarded : Ride) (zero : ℤ) (to_row : ℕ)
    (ride : Ride) : Type 0 where
  pub stop : ℕ
  pub arrives : ℕ
  pub reached : IsReachedAt row stop arrives
  pub drops_off : row.drop_off ≢ No
  pub is : ride ≡ left_at boarded to_row stop (zero +ℤ pos arrives)

-- The same ride, which alights at a later record with times by the limit.
pub record IsAlighting (rows : List Row) (boarded : Ride) (zero limit : ℤ)
    (ride : Ride) : Type 0 where
  pub row : Row
  pub at_row : slice_get rows ride.to_row ≡ Some row
  pub later : boarded.from_row < ride.to_row
  pub alights : AlightsAt row boarded zero ride.to_row ride
  pub in_time : ride.arrives ≤ℤ limit

-- The ride leaves with the departure on the day, its trip starting so, alights at a record with times
-- and arrives by the limit.
pub record IsRideWith (feed : Feed) (times : Times) (days : DayTable) (departure : Departure)
    (day : ℤ) (start : Option ℕ) (limit : ℤ) (ride : Ride) : Type 0 where
  pub permitted : IsPermittedRide feed times days ride
  pub of_trip : ride.trip ≡ departure.trip
  pub on_day : ride.day ≡ day
  pub starts_so : ride.start ≡ start
  pub boards : ride.from_row ≡ departure.row
  pub alights : HasTimedRow feed ride.trip ride.to_row
  pub arrives : ride.arrives ≤ℤ limit

-- The ride leaves with the departure on the day at a start that is no less than the one time and less
-- than the other, alights at a record with times and arrives by the limit.
pub record IsRideBetween (feed : Feed) (times : Times) (days : DayTable) (departure : Departure)
    (day : ℤ) (from until : ℕ) (limit : ℤ) (ride : Ride) : Type 0 where
  pub start : ℕ
  pub low : from ≤ start
  pub high : start < until
  pub ride_with : IsRideWith feed times days departure day (Some start) limit ride

-- The ride leaves with the departure on the day at a start of its trip, no earlier than the moment,
-- alights at a record with times and arrives by the limit.
pub record IsRideAtStart (feed : Feed) (times : Times) (days : DayTable) (departure : Departure)
    (day earliest limit : ℤ) (ride : Ride) : Type 0 where
  pub start : ℕ
  pub ride_with : IsRideWith feed times days departure day (Some start) limit ride
  pub leaves : earliest ≤ℤ ride.departs

-- The ride is permitted, boards at the stop, leaves no earlier than the one moment and arrives by the
-- other. Both of its records have times.
pub record IsTimedRide (feed : Feed) (times : Times) (days : DayTable) (stop : ℕ)
    (earliest limit : ℤ) (ride : Ride) : Type 0 where
  pub permitted : IsPermittedRide feed times days ride
  pub at_stop : ride.board ≡ place.Stop stop
  pub boards : HasTimedRow feed ride.trip ride.from_row
  pub alights : HasTimedRow feed ride.trip ride.to_row
  pub leaves : earliest ≤ℤ ride.departs
  pub arrives : ride.arrives ≤ℤ limit
