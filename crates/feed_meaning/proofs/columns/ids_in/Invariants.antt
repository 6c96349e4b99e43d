use Rattle.std.proofs.Common.{◌≡◌, [], fold, map}
use Rattle.feed_tables.specs.Records.{header_of}
use Rattle.feed_meaning.specs.Tables.{value_named}
use Rattle.feed_meaning.specs.Noted.{noted}
use Rattle.feed_meaning.proofs.columns.ids_in.Given as goal

abbrev pub invariant-loop-row : goal.invariant-loop-row
invariant-loop-row l = l.ids ≡ fold noted [] (map (λ row. value_named (header_of l.table) row.fields l.name) l.yielded)
