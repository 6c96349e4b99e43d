use Rattle.std.proofs.Common.{◌≡◌, map}
use Rattle.std.specs.Prelude.{nat_eq}
use Rattle.flex_model.specs.declared.fault.InputFile.TheVariants as Files
use Rattle.feed_tables.specs.Records.{header_of}
use Rattle.field_text.specs.Grammars.{id, time}
use Rattle.feed_meaning.specs.FeedRules.{frequency_rules}
use Rattle.feed_meaning.specs.Rules.{both}
use Rattle.feed_meaning.specs.Tables.{entry_of, record_faults}
use Rattle.feed_rules.proofs.PairFacts.{AreMet}
use Rattle.feed_rules.proofs.frequencies.frequency_faults.Given as goal

abbrev pub invariant-loop-row : goal.invariant-loop-row
invariant-loop-row l = record {
  faults : l.faults ≡ record_faults Files.Frequencies frequency_rules (map (entry_of (header_of l.table)) l.yielded);
  met : AreMet nat_eq (λ s. both (id (s "trip_id")) (time (s "start_time"))) l.met.keys (map (λ x. x.values) (map (entry_of (header_of l.table)) l.yielded));
}
