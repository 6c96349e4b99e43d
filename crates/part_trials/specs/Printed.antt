-- What the tests of answers print: one ride on the one trip of a feed with two stops.
use Rattle.std.specs.Prelude.{◌≡◌, ◌≢◌, ℕ, Bool, List, [], ◌∷◌, Some, length, slice_get}
use Rattle.flex_model.specs.declared.answer.Answer.{Answer}
use Rattle.flex_model.specs.declared.feed.Feed.{Feed}
use Rattle.flex_model.specs.declared.moment.Deadline.TheVariants.{Never}
use Rattle.flex_model.specs.declared.place.Stop.{Stop}
use Rattle.flex_model.specs.declared.ride.Ride.{Ride}
use Rattle.flex_model.specs.declared.times.Times.{Times}
use Rattle.flex_model.specs.declared.trip.Trip.{Trip}
use Rattle.query_io.specs.Printable.{IsPrintableRide}

-- the feed's stop of this number has an id
abbrev pub HasStop : Feed → ℕ → Type 0
HasStop feed s = (stop : Stop) × (slice_get feed.stops s ≡ Some stop) × (stop.id ≢ [])

-- two stops, and a trip with two records, all with ids
pub record HasOneTrip (is_frequent : Bool) (feed : Feed) : Type 0 where
  pub trip : Trip
  pub of_trip : slice_get feed.trips 0 ≡ Some trip
  pub id : trip.id ≢ []
  pub rows : length trip.rows ≡ 2
  pub frequent : trip.frequent ≡ is_frequent
  pub from : HasStop feed 0
  pub to : HasStop feed 1

-- the ride can be printed, whatever the times are
abbrev pub IsPrinted : Feed → Ride → Type 0
IsPrinted feed ride = (times : Times) → IsPrintableRide feed times ride

-- a journey of one ride with this walk, whose booking never closes
abbrev pub one_answer : Ride → ℕ → Answer
one_answer ride walk = record {
  triple = record { deadline = Never; arrival = ride.arrives; transfers = 0; walk = walk };
  rides = ride ∷ [];
}
