use Rattle.std.proofs.Common.{ℕ, ◌<◌}
use Rattle.flex_model.specs.declared.trip.Spot.TheVariants as spot
use Rattle.ride_index.specs.Legs.{BoardsFrom, IsWindowRide}
use Rattle.ride_index.specs.OfferedRuns.{GainsOffersOf}
use Rattle.ride_index.proofs.place_offers.add_offers_of_each_zone.Given as goal

abbrev pub invariant-loop-zone : goal.invariant-loop-zone
invariant-loop-zone l =
    GainsOffersOf (λ ride deadline. IsWindowRide l.wanted ride deadline × ((z : ℕ) × (z < l.zone) × BoardsFrom l.wanted.feed.now (spot.Zone z) ride)) l.fn.into.items l.into.items
