use Rattle.std.proofs.Common.{◌≡◌, map}
use Rattle.std.specs.List.{flat_map}
use Rattle.flex_model.specs.declared.fault.InputFile.TheVariants as Files
use Rattle.feed_tables.specs.Records.{header_of}
use Rattle.feed_meaning.specs.FeedLinks as FeedLinks
use Rattle.feed_meaning.specs.FeedLinks.{Tables}
use Rattle.feed_meaning.specs.Tables.{entry_of, faults_at}
use Rattle.feed_rules.specs.Links.{HaveGroupIds, StandFor}
use Rattle.feed_rules.proofs.other_links.group_link_faults.Given as goal

abbrev pub invariant-loop-row : goal.invariant-loop-row
invariant-loop-row l =
    (tables : Tables) → StandFor l.ids tables → HaveGroupIds Files.LocationGroups (map (entry_of (header_of l.groups)) l.yielded)
    → l.faults ≡ flat_map (λ e. faults_at Files.LocationGroups e.row (FeedLinks.group_links tables e.values)) (map (entry_of (header_of l.groups)) l.yielded)
