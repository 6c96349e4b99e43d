use Rattle.std.proofs.Common.{◌≡◌, map, take}
use Rattle.std.specs.Option.{option_to_list}
use Rattle.flex_model.specs.declared.fault.InputFile.TheVariants as Files
use Rattle.feed_tables.specs.Records.{header_of}
use Rattle.feed_meaning.specs.FeedRules.{agency_rules}
use Rattle.feed_meaning.specs.Tables.{entry_of, record_faults}
use Rattle.feed_rules.proofs.agency.agency_faults.Given as goal

abbrev pub invariant-loop-row : goal.invariant-loop-row
invariant-loop-row l = record {
  faults : l.faults ≡ record_faults Files.Agency agency_rules (map (entry_of (header_of l.table)) l.yielded);
  first : map (λ text. text.now) (option_to_list l.first) ≡ map (λ e. e "agency_timezone") (take 1 (map (λ x. x.values) (map (entry_of (header_of l.table)) l.yielded)));
}
