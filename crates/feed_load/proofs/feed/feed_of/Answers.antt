use Rattle.std.proofs.Common.{◌<◌, ◌^◌, All, length, map, refl, sym, ◌∙◌, ap, subst}
use Rattle.flex_model.specs.SoundTimes.{AreIds}
use Rattle.flex_model.specs.SoundTimes.{IsOnGlobe}
use Rattle.flex_model.specs.declared.fault.InputFile.TheVariants.{Stops}
use Rattle.feed_meaning.specs.FeedValue.{feed_of_tables, service_of, stop_of, zone_of}
use Rattle.feed_load.specs.FeedTables.{tables_of, zone_features}
use Rattle.feed_load.proofs.FeedLists.{same_lists}
use Rattle.feed_load.proofs.ZoneLists.{sound_zones}
use Rattle.feed_load.proofs.feed.feed_of.Goals as goal

pub zones_of-requires-clause-polygons : goal.zones_of-requires-clause-polygons
zones_of-requires-clause-polygons c =
    let t = c.args.tables in
    sound_zones (feed_of_tables (tables_of t) (zone_features t.zones)) (map stop_of (tables_of t Stops)) t.zones c.requires.sound.each_zone

pub zones_of-requires-clause-on_globe : goal.zones_of-requires-clause-on_globe
zones_of-requires-clause-on_globe c = subst (All (λ stop. IsOnGlobe stop.at)) (sym c.in_ok-stops.ensures) c.requires.sound.stops_on_globe

pub zones_of-requires-clause-few : goal.zones_of-requires-clause-few
zones_of-requires-clause-few c = subst (λ stops. length stops < 2 ^ 32) (sym c.in_ok-stops.ensures) c.requires.sound.stops.few

pub groups_of-requires : goal.groups_of-requires
groups_of-requires c = record { groups = c.requires.accepted.group_ids; stops = subst AreIds (sym c.in_ok-ids.ensures.stops) c.requires.accepted.stop_ids }

pub all_services-requires : goal.all_services-requires
all_services-requires c = c.in_ok-ids.ensures.distinct

pub rules_of-requires : goal.rules_of-requires
rules_of-requires c = c.requires.accepted.counts

pub all_trips-requires : goal.all_trips-requires
all_trips-requires c = record { ids = c.requires.accepted.trip_ids; records = c.requires.accepted.records; headways = c.requires.accepted.headways }

pub returns : goal.returns
returns c =
    let t = c.args.tables in
    let tables = tables_of t in
    let ids = c.in_ok-ids.ensures in
    same_lists
    (record { stops = c.in_ok-stops.stops; zones = c.in_ok-zones.zones; groups = c.in_ok-groups.groups; services = c.in_ok-services.services; rules = c.in_ok-rules.rules; trips = c.in_ok-trips.trips; changes = c.in_ok-changes.changes })
    (feed_of_tables tables (zone_features t.zones)) c.in_ok-stops.ensures
    (c.in_ok-zones.ensures ∙ ap (λ s. map (zone_of s) (zone_features t.zones)) c.in_ok-stops.ensures)
    (c.in_ok-groups.ensures tables refl refl (sym ids.stops))
    (c.in_ok-services.ensures tables refl refl ∙ ap (map (service_of tables)) ids.services)
    (c.in_ok-rules.ensures tables refl (sym ids.services))
    (c.in_ok-trips.ensures tables (record {
      trips = refl;
      stop_times = refl;
      frequencies = refl;
      named = ids;
    }))
    (c.in_ok-changes.ensures tables refl (record {
      stops_are = c.in_ok-stops.ensures;
      ids_are = ids.stops;
      distinct = subst AreIds (sym ids.stops) c.requires.accepted.stop_ids;
    }) c.requires.accepted.changes)
