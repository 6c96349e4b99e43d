use Rattle.std.specs.Prelude.{◌<ℤ◌, ◌+ℤ◌, pos}
use Rattle.ride_index.specs.Legs.{BoardsAt, IsWindowRide}
use Rattle.ride_index.specs.OfferedRuns.{GainsOffersOf}
use Rattle.ride_index.proofs.boardings.add_offers_with.Given as goal

abbrev pub invariant-loop-ahead : goal.invariant-loop-ahead
invariant-loop-ahead l =
    GainsOffersOf (λ ride deadline. (IsWindowRide l.wanted ride deadline × BoardsAt l.departure.trip l.departure.row ride) × (ride.day <ℤ (l.first +ℤ pos l.ahead))) l.fn.into.items l.into.items
