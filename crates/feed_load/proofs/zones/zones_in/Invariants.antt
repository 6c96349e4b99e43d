use Rattle.std.proofs.Common.{◌≡◌, map, take}
use Rattle.feed_meaning.specs.FeedValue.{zone_of}
use Rattle.geo_json.specs.Zones.{feature_in}
use Rattle.feed_load.proofs.zones.zones_in.Given as goal

-- the earlier zones
abbrev pub invariant-loop-zone : goal.invariant-loop-zone
invariant-loop-zone l = l.own ≡ map (zone_of l.stops) (map feature_in (take l.zone-index l.zones))
