use Rattle.std.proofs.Common.{Contains, take}
use Rattle.ride_index.specs.OfferedRuns.{GainsOffersOf, IsWantedRide}
use Rattle.ride_index.proofs.offers.add_offers_of_rides.Given as goal

abbrev pub invariant-loop-ride : goal.invariant-loop-ride
invariant-loop-ride l =
    GainsOffersOf (λ x deadline. IsWantedRide l.wanted x deadline × Contains (take l.ride-index l.rides) x) l.fn.into.items l.into.items
