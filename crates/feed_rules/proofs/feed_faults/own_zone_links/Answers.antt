use Rattle.std.proofs.Common.{◌≡◌, [], List, None, Some, map, ap, ◌∙◌}
use Rattle.std.specs.List.{flat_map}
use Rattle.std.specs.Option.{option_map}
use Rattle.std.proofs.lemmas.Result.{IfOk-weaker}
use Rattle.flex_model.specs.declared.fault.Fault.{Fault}
use Rattle.flex_model.specs.declared.fault.InputFile.TheVariants.{Locations}
use Rattle.feed_meaning.specs.FeedFaults.{Geo, link_faults, tables}
use Rattle.feed_meaning.specs.FeedLinks.{Tables, location_links}
use Rattle.feed_meaning.specs.Folder.{Folder}
use Rattle.feed_meaning.specs.Tables.{faults_at}
use Rattle.feed_rules.specs.Folders.{ReadsFolder, found_zones}
use Rattle.feed_rules.specs.Levels.{level_one}
use Rattle.feed_rules.specs.Links.{StandFor}
use Rattle.feed_rules.specs.Zones.{HaveZoneIds, TellsZones, zone_entry}
use Rattle.feed_rules.proofs.KeptTables.{read_zone_links, unread_zone_links, zones_have_ids}
use Rattle.feed_rules.proofs.feed_faults.own_zone_links.Goals as goal

pub returns-in-Some : goal.returns-in-Some
returns-in-Some c =
    let raw = c.args.raw.now in
    let ids = c.args.ids.now in
    let o = c.zones.result in
    let zones = c.in-Some.zones.now in
    let there : o ≡ Some c.in-Some.zones = cc in
    let read = ap (option_map (λ z. z.now)) there in
    let P : List Fault → Type 0 = λ faults. (others : Tables) → StandFor ids others → HaveZoneIds zones
    → faults ≡ flat_map (λ e. faults_at Locations e.row (location_links others e.values)) (map zone_entry zones) in
    let Q : List Fault → Type 0 = λ faults. (geo : Geo) (folder : Folder) → ReadsFolder raw folder → TellsZones geo (folder Locations) (found_zones raw) → level_one raw ≡ []
    → StandFor ids (tables geo folder) → faults ≡ link_faults geo folder Locations in
    IfOk-weaker c.zone_link_faults.result P Q
    (λ faults own geo folder reads tells none stand.
    own (tables geo folder) stand (zones_have_ids geo raw folder reads tells o c.zones.ensures.found none zones read)
    ∙ read_zone_links geo raw folder reads tells o c.zones.ensures.found zones read)
    c.zone_link_faults.ensures

pub returns-in-None : goal.returns-in-None
returns-in-None c = λ geo folder reads tells none stand.
    let unread : c.zones.result ≡ None = cc in
    c.new.ensures ∙ unread_zone_links geo c.args.raw.now folder reads tells c.zones.result c.zones.ensures.found (ap (option_map (λ z. z.now)) unread)
