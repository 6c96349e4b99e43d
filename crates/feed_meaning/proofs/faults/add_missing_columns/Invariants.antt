use Rattle.std.proofs.Common.{◌≡◌, ◌++◌, take}
use Rattle.feed_tables.specs.Records.{header_of}
use Rattle.feed_meaning.proofs.MissingColumns.{faults_of_names}
use Rattle.feed_meaning.proofs.faults.add_missing_columns.Given as goal

abbrev pub invariant-loop-name : goal.invariant-loop-name
invariant-loop-name l = l.faults ≡ l.initial.faults ++ faults_of_names l.file (header_of l.table) (take l.name-index l.needed)
