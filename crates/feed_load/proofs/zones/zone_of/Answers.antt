use Rattle.std.proofs.Common.{◌∙◌}
use Rattle.feed_load.proofs.ZoneLists.{served_places, zone_is}
use Rattle.feed_load.proofs.zones.zone_of.Goals as goal

pub returns : goal.returns
returns c =
    zone_is c.args.stops.now c.args.zone.now c.in_ok-id.id c.in_ok-polygons.polygons c.in_ok-served.served (c.in_ok-id.ensures ∙ c.as_str.ensures.bytes) c.in_ok-polygons.ensures
    (served_places c.args.zone.now.polygons c.args.stops.now c.in_ok-served.served c.in_ok-served.ensures.0 c.in_ok-served.ensures.1)
