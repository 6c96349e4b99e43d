use Rattle.std.proofs.Common.{take}
use Rattle.ride_index.specs.Legs.{BoardsWithAny, IsWindowRide}
use Rattle.ride_index.specs.OfferedRuns.{GainsOffersOf}
use Rattle.ride_index.proofs.boardings.add_offers_of.Given as goal

abbrev pub invariant-loop-departure : goal.invariant-loop-departure
invariant-loop-departure l =
    GainsOffersOf (λ ride deadline. IsWindowRide l.wanted ride deadline × BoardsWithAny (take l.departure-index l.departures) ride) l.fn.into.items l.into.items
