use Rattle.std.proofs.Common.{◌≡◌, map}
use Rattle.flex_model.specs.declared.fault.InputFile.TheVariants as Files
use Rattle.feed_tables.specs.Records.{header_of}
use Rattle.feed_meaning.specs.FeedRules.{transfer_rules}
use Rattle.feed_meaning.specs.Tables.{entry_of, record_faults}
use Rattle.feed_rules.specs.Transfers.{AreStopsMet, changes}
use Rattle.feed_rules.proofs.transfers.transfer_faults.Given as goal

abbrev pub invariant-loop-row : goal.invariant-loop-row
invariant-loop-row l = record {
  faults : l.faults ≡ record_faults Files.Transfers transfer_rules (map (entry_of (header_of l.table)) l.yielded);
  met : AreStopsMet l.met.keys (changes (map (λ x. x.values) (map (entry_of (header_of l.table)) l.yielded)));
}
