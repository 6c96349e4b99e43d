use Rattle.std.proofs.Common.{◌<◌}
use Rattle.ride_index.specs.Legs.{BoardsOn, IsWindowRide}
use Rattle.ride_index.specs.OfferedRuns.{GainsOffersOf}
use Rattle.ride_index.proofs.boardings.add_offers_to_rows.Given as goal

abbrev pub invariant-loop-to_row : goal.invariant-loop-to_row
invariant-loop-to_row l =
    GainsOffersOf (λ ride deadline. (IsWindowRide l.wanted ride deadline × BoardsOn l.departure.trip l.departure.row l.day ride) × (ride.to_row < l.to_row)) l.fn.into.items l.into.items
