use Rattle.std.proofs.Common.{◌-◌}
use Rattle.json_text.proofs.Content.{IsSearching}
use Rattle.json_text.proofs.members.first_named.Given as goal

abbrev pub invariant-loop-child : goal.invariant-loop-child
invariant-loop-child l = IsSearching l.rows l.text l.name l.first l.child l.end

abbrev pub decreases-loop-child : goal.decreases-loop-child
decreases-loop-child l = l.end - l.child
