-- The slabs have the edges so far.
use Rattle.zone_test.specs.Slabs.{AreSlabsBelow}
use Rattle.zone_test.proofs.slabs.slabs_of.Given as goal

abbrev pub invariant-loop-at : goal.invariant-loop-at
invariant-loop-at l = AreSlabsBelow l.corners l.bounds l.at l.slabs.items
