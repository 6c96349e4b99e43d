use Rattle.std.proofs.Common.{refl}
use Rattle.feed_load.specs.FeedTables.{tables_of}
use Rattle.feed_load.proofs.named_ids.feed_ids.Goals as goal

pub service_ids-requires : goal.service_ids-requires
service_ids-requires c = record { calendar = c.requires.calendar; dates = c.requires.dates }

pub returns : goal.returns
returns c =
    let t = c.args.tables in
    record {
      stops = c.in_ok-stops.ensures "stop_id" refl c.requires.stop_ids;
      zones = c.in_ok-zones.ensures c.requires.zone_ids;
      groups = c.in_ok-groups.ensures "location_group_id" refl c.requires.group_ids;
      booking_rules = c.in_ok-booking_rules.ensures "booking_rule_id" refl c.requires.booking_rule_ids;
      services = c.in_ok-services.ensures.found (tables_of t) refl refl;
      distinct = c.in_ok-services.ensures.distinct;
    }
