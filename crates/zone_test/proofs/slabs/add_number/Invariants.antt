-- The slabs before this one have the number.
use Rattle.zone_test.proofs.AddedNumbers.{IsUpTo}
use Rattle.zone_test.proofs.slabs.add_number.Given as goal

abbrev pub invariant-loop-at : goal.invariant-loop-at
invariant-loop-at l = IsUpTo l.initial.slabs.items l.number l.first l.at l.slabs.items
