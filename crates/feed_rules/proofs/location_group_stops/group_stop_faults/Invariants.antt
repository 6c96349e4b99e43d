use Rattle.std.proofs.Common.{◌≡◌, map}
use Rattle.flex_model.specs.declared.fault.InputFile.TheVariants as Files
use Rattle.feed_tables.specs.Records.{header_of}
use Rattle.feed_meaning.specs.FeedRules.{group_stop_rules}
use Rattle.feed_meaning.specs.Tables.{entry_of, record_faults}
use Rattle.feed_rules.proofs.location_group_stops.group_stop_faults.Given as goal

abbrev pub invariant-loop-row : goal.invariant-loop-row
invariant-loop-row l = l.faults ≡ record_faults Files.LocationGroupStops group_stop_rules (map (entry_of (header_of l.table)) l.yielded)
