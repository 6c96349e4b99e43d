-- So many slabs are there already.
use Rattle.std.proofs.Common.{◌≡◌, [], replicate}
use Rattle.zone_test.proofs.slabs.empty_slabs.Given as goal

abbrev pub invariant-loop-at : goal.invariant-loop-at
invariant-loop-at l = l.slabs.items ≡ replicate l.at []
