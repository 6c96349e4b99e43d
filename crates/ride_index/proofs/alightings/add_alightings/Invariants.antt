use Rattle.std.proofs.Common.{◌<◌}
use Rattle.ride_index.specs.TimedRides.{IsAlighting}
use Rattle.ride_index.proofs.RideLists.{Gained}
use Rattle.ride_index.proofs.alightings.add_alightings.Given as goal

abbrev pub invariant-loop-to_row : goal.invariant-loop-to_row
invariant-loop-to_row l =
    Gained (λ ride. IsAlighting l.rows l.boarded l.zero l.limit ride × (ride.to_row < l.to_row)) l.fn.found.items l.found.items
