use Rattle.std.proofs.Common.{◌≡◌, map}
use Rattle.std.specs.List.{flat_map}
use Rattle.flex_model.specs.declared.fault.InputFile.TheVariants as Files
use Rattle.feed_tables.specs.Records.{header_of}
use Rattle.feed_meaning.specs.FeedLinks as FeedLinks
use Rattle.feed_meaning.specs.FeedLinks.{Tables}
use Rattle.feed_meaning.specs.Tables.{entry_of, faults_at}
use Rattle.feed_rules.specs.Links.{StandFor}
use Rattle.feed_rules.proofs.other_links.group_stop_link_faults.Given as goal

abbrev pub invariant-loop-row : goal.invariant-loop-row
invariant-loop-row l =
    (tables : Tables) → StandFor l.ids tables
    → l.faults ≡ flat_map (λ e. faults_at Files.LocationGroupStops e.row (FeedLinks.group_stop_links tables e.values)) (map (entry_of (header_of l.group_stops)) l.yielded)
