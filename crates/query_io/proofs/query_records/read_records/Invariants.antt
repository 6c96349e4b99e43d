use Rattle.std.proofs.Common.{◌≡◌, [], fold, map}
use Rattle.flex_model.specs.declared.fault.InputFile.TheVariants as Files
use Rattle.feed_tables.specs.Records.{header_of}
use Rattle.feed_meaning.specs.QueryFaults.{query_rules}
use Rattle.feed_meaning.specs.Tables.{entry_of, record_faults}
use Rattle.feed_meaning.specs.TimesValue.{query_of}
use Rattle.feed_meaning.specs.Noted.{noted}
use Rattle.query_io.proofs.query_records.read_records.Given as goal

abbrev pub invariant-loop-row : goal.invariant-loop-row
invariant-loop-row l = record {
  faults : l.faults ≡ record_faults Files.Queries (query_rules l.feed l.times) (map (entry_of (header_of l.table)) l.yielded);
  met : l.met ≡ fold noted [] (map (λ e. e.values "query_id") (map (entry_of (header_of l.table)) l.yielded));
  queries : l.faults ≡ [] → l.queries ≡ map (λ e. query_of l.feed l.times e.values) (map (entry_of (header_of l.table)) l.yielded);
}
