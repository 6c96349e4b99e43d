use Rattle.std.proofs.Common.{◌≡◌, ◌++◌, take}
use Rattle.feed_meaning.specs.Tables.{faults_at}
use Rattle.feed_meaning.proofs.faults.add_faults.Given as goal

abbrev pub invariant-loop-rule : goal.invariant-loop-rule
invariant-loop-rule l = l.faults ≡ l.initial.faults ++ faults_at l.file l.row (take l.rule-index l.rules)
