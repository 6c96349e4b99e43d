use Rattle.std.proofs.Common.{refl}
use Rattle.flex_model.specs.declared.fault.InputFile.TheVariants as Files
use Rattle.feed_rules.proofs.known_ids.place_ids.Goals as goal

pub returns : goal.returns
returns c = λ tables is. record {
  stops = c.in_ok-stops.ensures tables Files.Stops "stop_id" refl is.stops;
  stations = c.in_ok-stations.ensures tables is.stops;
  groups = c.in_ok-groups.ensures tables Files.LocationGroups "location_group_id" refl is.groups;
  zones = c.in_ok-zones.ensures tables is.zones;
}
