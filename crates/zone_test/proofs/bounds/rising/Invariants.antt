-- The bounds so far rise.
use Rattle.zone_test.specs.Slabs.{AreBounds}
use Rattle.zone_test.proofs.bounds.rising.Given as goal

abbrev pub invariant-loop-at : goal.invariant-loop-at
invariant-loop-at l = AreBounds l.bounds
