use Rattle.ride_index.proofs.DepartureLists.{IsEarly}
use Rattle.ride_index.proofs.RideLists.{Gained}
use Rattle.ride_index.proofs.listing.add_rows.Given as goal

abbrev pub invariant-loop-at : goal.invariant-loop-at
invariant-loop-at l = Gained (IsEarly l.kind l.rows l.trip l.at) l.fn.found.items l.found.items
