use Rattle.std.proofs.Common.{ℕ, ◌<◌, get_or}
use Rattle.flex_model.specs.declared.trip.Row.{Row}
use Rattle.fixed_trips.specs.Patterns.{IsPatternRow}
use Rattle.fixed_trips.proofs.numbering.are_pattern_rows.Given as goal

abbrev pub invariant-loop-row : goal.invariant-loop-row
invariant-loop-row l = (k : ℕ) (d : Row) → k < l.row-index → IsPatternRow (get_or l.rows k d)
