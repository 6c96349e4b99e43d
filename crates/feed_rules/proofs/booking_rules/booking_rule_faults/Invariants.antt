use Rattle.std.proofs.Common.{◌≡◌, [], fold, map}
use Rattle.flex_model.specs.declared.fault.InputFile.TheVariants as Files
use Rattle.feed_tables.specs.Records.{header_of}
use Rattle.feed_meaning.specs.FeedRules.{booking_rules}
use Rattle.feed_meaning.specs.Tables.{entry_of, record_faults}
use Rattle.feed_meaning.specs.Noted.{noted}
use Rattle.feed_rules.proofs.booking_rules.booking_rule_faults.Given as goal

abbrev pub invariant-loop-row : goal.invariant-loop-row
invariant-loop-row l = record {
  faults : l.faults ≡ record_faults Files.BookingRules booking_rules (map (entry_of (header_of l.table)) l.yielded);
  ids : l.ids ≡ fold noted [] (map (λ e. e.values "booking_rule_id") (map (entry_of (header_of l.table)) l.yielded));
}
