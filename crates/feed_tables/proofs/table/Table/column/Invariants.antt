use Rattle.std.proofs.Common.{◌≡◌, ◌<◌, ℕ, false, get_or, []}
use Rattle.std.specs.Str.{bytes_eq}
use Rattle.feed_tables.proofs.table.Table.column.Given as goal

abbrev pub invariant-loop-column : goal.invariant-loop-column
invariant-loop-column l = (k : ℕ) → k < l.column → bytes_eq l.name (get_or l.self-inside.pool k []) ≡ false
