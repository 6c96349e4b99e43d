use Rattle.ride_index.proofs.NeededRides.{AreFreeTo}
use Rattle.ride_index.proofs.boarded.are_free_after.Given as goal

abbrev pub invariant-loop-at : goal.invariant-loop-at
invariant-loop-at l = AreFreeTo l.rows l.row l.at
