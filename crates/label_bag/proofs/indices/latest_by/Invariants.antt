-- The latest deadline of the entries that were looked at.
use Rattle.std.proofs.Common.{◌≤◌}
use Rattle.label_bag.proofs.Latest.{IsLatestOf}
use Rattle.label_bag.proofs.indices.latest_by.Given as goal

abbrev pub invariant-loop-left : goal.invariant-loop-left
invariant-loop-left g l = record { within : l.left ≤ l.initial.left; latest : IsLatestOf l.entries l.left l.initial.left l.best }

abbrev pub decreases-loop-left : goal.decreases-loop-left
decreases-loop-left g l = l.left
