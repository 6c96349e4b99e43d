use Rattle.std.proofs.Common.{◌≡◌, map}
use Rattle.std.specs.Prelude.{nat_eq}
use Rattle.flex_model.specs.declared.fault.InputFile.TheVariants as Files
use Rattle.feed_tables.specs.Records.{header_of}
use Rattle.field_text.specs.Grammars.{id}
use Rattle.feed_meaning.specs.FeedRules.{sequence, stop_time_rules}
use Rattle.feed_meaning.specs.Rules.{both}
use Rattle.feed_meaning.specs.Tables.{entry_of, record_faults}
use Rattle.feed_rules.proofs.PairFacts.{AreMet}
use Rattle.feed_rules.proofs.stop_times.stop_time_faults.Given as goal

abbrev pub invariant-loop-row : goal.invariant-loop-row
invariant-loop-row l = record {
  faults : l.faults ≡ record_faults Files.StopTimes stop_time_rules (map (entry_of (header_of l.table)) l.yielded);
  met : AreMet nat_eq (λ v. both (id (v "trip_id")) (sequence (v "stop_sequence"))) l.met.keys (map (λ x. x.values) (map (entry_of (header_of l.table)) l.yielded));
}
