use Rattle.std.proofs.Common.{◌≡◌, drop}
use Rattle.std.specs.List.{list_any}
use Rattle.feed_tables.specs.Refusals.{is_given}
use Rattle.feed_tables.proofs.table.has_given.Given as goal

abbrev pub invariant-loop-index : goal.invariant-loop-index
invariant-loop-index l = list_any is_given (drop l.from l.pool) ≡ list_any is_given (drop l.index l.pool)
