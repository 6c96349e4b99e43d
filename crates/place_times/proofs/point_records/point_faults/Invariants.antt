use Rattle.std.proofs.Common.{◌≡◌, [], fold, map}
use Rattle.flex_model.specs.declared.fault.InputFile.TheVariants as Files
use Rattle.feed_tables.specs.Records.{header_of}
use Rattle.feed_meaning.specs.Noted.{noted}
use Rattle.feed_meaning.specs.Tables.{entry_of, record_faults}
use Rattle.feed_meaning.specs.TimesFaults.{point_rules}
use Rattle.place_times.proofs.point_records.point_faults.Given as goal

abbrev pub invariant-loop-row : goal.invariant-loop-row
invariant-loop-row l = record {
  faults : l.faults ≡ record_faults Files.Points point_rules (map (entry_of (header_of l.table)) l.yielded);
  ids : l.ids ≡ fold noted [] (map (λ e. e.values "point_id") (map (entry_of (header_of l.table)) l.yielded));
}
