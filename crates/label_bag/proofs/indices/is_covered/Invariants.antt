-- No entry that was looked at covers the pair.
use Rattle.std.proofs.Common.{◌≤◌}
use Rattle.label_bag.proofs.Searches.{NoneCovers}
use Rattle.label_bag.proofs.indices.is_covered.Given as goal

abbrev pub invariant-loop-left : goal.invariant-loop-left
invariant-loop-left g l = record { within : l.left ≤ l.initial.left; none : NoneCovers l.entries l.pair l.left l.initial.left }

abbrev pub decreases-loop-left : goal.decreases-loop-left
decreases-loop-left g l = l.left
