use Rattle.std.proofs.Common.{◌≡◌, map}
use Rattle.feed_tables.specs.Records.{header_of}
use Rattle.feed_meaning.specs.Tables.{entry_of}
use Rattle.feed_meaning.specs.TimesValue.{point_of}
use Rattle.place_times.proofs.point_records.points_of.Given as goal

abbrev pub invariant-loop-row : goal.invariant-loop-row
invariant-loop-row l = l.points ≡ map point_of (map (λ e. e.values) (map (entry_of (header_of l.table)) l.yielded))
