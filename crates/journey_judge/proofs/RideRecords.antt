-- What a test of a ride's trip and records says of the ride.
use Rattle.std.proofs.Common.{◌↔◌, IsTrue, Bool}
use Rattle.flex_model.specs.declared.feed.Feed.{Feed}
use Rattle.flex_model.specs.declared.ride.Ride.{Ride}
use Rattle.flex_model.specs.declared.trip.Row.{Row}
use Rattle.flex_model.specs.declared.trip.Trip.{Trip}
use Rattle.flex_model.specs.Flaw.{IsBetween, OnRecords}
use Rattle.flex_model.proofs.Flaws.{of_records}

-- a ride with these records passes a test that they pass
pub just_on : (feed : Feed) (ride : Ride) (P : Trip → Row → Row → Type 0) (trip : Trip) (boarding alighting : Row) → IsBetween feed ride trip boarding alighting
    → (test : Bool) → IsTrue test ↔ P trip boarding alighting → IsTrue test ↔ OnRecords feed ride P
just_on feed ride P trip boarding alighting between test passes = (
  λ t. (trip, boarding, alighting, between, passes.0 t),
  λ on. passes.1 (of_records feed ride P trip boarding alighting between on),
)
