use Rattle.std.proofs.Common.{◌≡◌, [], fold, map}
use Rattle.std.proofs.lemmas.Result.{IfOk-weaker}
use Rattle.flex_model.specs.declared.fault.InputFile.TheVariants.{Locations}
use Rattle.feed_meaning.specs.FeedLinks.{Tables}
use Rattle.feed_meaning.specs.Indexes.{HasIds}
use Rattle.feed_meaning.specs.Noted.{noted}
use Rattle.feed_rules.specs.Zones.{zone_values}
use Rattle.feed_rules.proofs.ZoneIds.{known_zones, no_known_zones}
use Rattle.feed_rules.proofs.known_ids.known_zones.Goals as goal

pub returns-in-Some : goal.returns-in-Some
returns-in-Some c =
    let zones = c.in-Some.zones in
    IfOk-weaker c.zone_ids.result (λ ids. ids ≡ fold noted [] (map (λ zone. zone.id) zones.now))
    (λ ids. (tables : Tables) → tables Locations ≡ zone_values c.args.zones → HasIds ids tables Locations "id")
    (λ ids. known_zones c.args.zones zones ids c.in-Some.is) c.zone_ids.ensures

pub returns-in-None : goal.returns-in-None
returns-in-None c = no_known_zones c.args.zones c.new.result c.in-None.is c.new.ensures
