use Rattle.std.proofs.Common.{Contains, take}
use Rattle.flex_model.specs.declared.trip.Spot.TheVariants as spot
use Rattle.ride_index.specs.Legs.{BoardsFrom, IsWindowRide}
use Rattle.ride_index.specs.declared.members.Member.{Member}
use Rattle.ride_index.specs.OfferedRuns.{GainsOffersOf}
use Rattle.ride_index.proofs.place_offers.add_offers_of_groups.Given as goal

abbrev pub invariant-loop-member : goal.invariant-loop-member
invariant-loop-member l =
    GainsOffersOf (λ ride deadline. IsWindowRide l.wanted ride deadline × ((m : Member) × Contains (take l.member-index l.members) m × BoardsFrom l.wanted.feed.now (spot.Group m.named) ride)) l.fn.into.items l.into.items
