-- Records with times, and the rides between them.
use Rattle.std.specs.Prelude.{◌≡◌, ◌≢◌, ℕ, ℤ, Option, Some, slice_get}
use Rattle.flex_model.specs.declared.feed.Feed.{Feed}
use Rattle.flex_model.specs.declared.moment.DayTable.{DayTable}
use Rattle.flex_model.specs.declared.place.Place.{Place}
use Rattle.flex_model.specs.declared.ride.Arrives.TheVariants.{At}
use Rattle.flex_model.specs.declared.ride.Run.{Run}
use Rattle.flex_model.specs.declared.times.Times.{Times}
use Rattle.flex_model.specs.declared.trip.Row.{Row}
use Rattle.flex_model.specs.declared.trip.Spot.{Spot}
use Rattle.flex_model.specs.declared.trip.Spot.TheVariants as spot
use Rattle.flex_model.specs.declared.trip.Timing.{Timing}
use Rattle.flex_model.specs.declared.trip.Trip.{Trip}
use Rattle.flex_model.specs.declared.trip.Way.TheVariants.{No}
use Rattle.flex_model.specs.Place.{Serves}
use Rattle.flex_model.specs.Ride.{Arrives, HasTimes, Leaves, RunsOn, StartsRightly}
use Rattle.flex_model.specs.Run.{Leg, ride_of}
use Rattle.flex_model.specs.ServiceDay.{IsTravelDay}

abbrev pub NamesStop : Spot → Type 0
NamesStop at = (stop : ℕ) × (at ≡ spot.Stop stop)

-- the feed has this trip, the trip has this record, and the record has times
abbrev pub HasTimedRow : Feed → ℕ → ℕ → Type 0
HasTimedRow feed t r =
    (trip : Trip) × (row : Row) × (slice_get feed.trips t ≡ Some trip)
    × (slice_get trip.rows r ≡ Some row) × HasTimes row.timing

-- the day is a travel day on which the trip's service runs, and a ride of the trip can start so
pub record MayRun
    (feed : Feed) (days : DayTable) (trip : Trip) (day : ℤ) (start : Option ℕ) : Type 0 where
  pub on_travel_day : IsTravelDay days day
  pub runs : RunsOn feed trip day
  pub starts : StartsRightly trip start

-- one may board at the one record and place, and alight at the other
pub record MayRide
    (feed : Feed) (times : Times) (boarding alighting : Row) (board alight : Place) : Type 0 where
  pub boards : Serves feed times boarding.spot board
  pub picks_up : boarding.pickup ≢ No
  pub alights : Serves feed times alighting.spot alight
  pub drops_off : alighting.drop_off ≢ No

-- the ride of the leg that leaves and arrives then does so as the records say, shifted by so much
abbrev pub HasTiming : Times → DayTable → Leg → ℤ → Timing → Timing → ℤ → ℤ → Type 0
HasTiming times days leg by boarding alighting departs arrives =
    Leaves days (ride_of leg departs arrives) by boarding
    × Arrives times days (ride_of leg departs arrives) by boarding alighting

-- the run has one ride, which arrives at a moment
abbrev pub IsSingle : Run → Type 0
IsSingle run = (run.count ≡ 1) × (last : ℤ) × (run.arrives ≡ At last)
