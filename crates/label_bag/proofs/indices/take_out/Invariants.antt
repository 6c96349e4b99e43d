-- The covered ones of the entries that were looked at are out.
use Rattle.std.proofs.Common.{◌≤◌, length}
use Rattle.label_bag.specs.Bag.{IsWithout}
use Rattle.label_bag.proofs.indices.take_out.Given as goal

abbrev pub invariant-loop-left : goal.invariant-loop-left
invariant-loop-left g l = record {
  from : l.from ≤ l.left;
  to : l.left ≤ l.to;
  room : l.left ≤ length l.entries.items;
  out : IsWithout l.initial.entries.items l.pair l.left l.entries.items;
}

abbrev pub decreases-loop-left : goal.decreases-loop-left
decreases-loop-left g l = l.left
