use Rattle.std.proofs.Common.{◌≡◌, map, take}
use Rattle.std.specs.List.{flat_map}
use Rattle.flex_model.specs.declared.fault.InputFile.TheVariants.{Locations}
use Rattle.feed_meaning.specs.FeedLinks.{Tables, location_links}
use Rattle.feed_meaning.specs.Tables.{faults_at}
use Rattle.feed_rules.specs.Links.{StandFor}
use Rattle.feed_rules.specs.Zones.{HaveZoneIds, zone_entry}
use Rattle.feed_rules.proofs.zone_links.zone_link_faults.Given as goal

abbrev pub invariant-loop-zone : goal.invariant-loop-zone
invariant-loop-zone l =
    (tables : Tables) → StandFor l.ids tables → HaveZoneIds l.zone-items
    → l.faults ≡ flat_map (λ e. faults_at Locations e.row (location_links tables e.values)) (map zone_entry (take l.zone-index l.zone-items))
