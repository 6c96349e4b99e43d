use Rattle.std.proofs.Common.{◌≡◌, map}
use Rattle.feed_tables.specs.Records.{header_of}
use Rattle.feed_meaning.specs.Tables.{entry_of, record_faults}
use Rattle.feed_meaning.specs.TimesFaults.{span_rules}
use Rattle.place_times.specs.Pairs.{pairs_of}
use Rattle.place_times.proofs.PairFacts.{AreMet}
use Rattle.place_times.proofs.span_records.span_faults.Given as goal

abbrev pub invariant-loop-row : goal.invariant-loop-row
invariant-loop-row l = record {
  faults : l.faults ≡ record_faults l.file (span_rules l.most) (map (entry_of (header_of l.table)) l.yielded);
  met : AreMet (pairs_of l.met.keys) (map (λ x. x.values) (map (entry_of (header_of l.table)) l.yielded));
}
