use Rattle.std.proofs.Common.{refl}
use Rattle.flex_model.specs.declared.fault.InputFile.TheVariants.{BookingRules, Calendar, CalendarDates, LocationGroups, Routes, Stops, Trips}
use Rattle.feed_rules.proofs.KeptTables.{linked, linked_zones}
use Rattle.feed_rules.proofs.feed_faults.link_tables.Goals as goal

pub returns : goal.returns
returns c geo folder reads tells none = record {
  routes = linked c.args.raw.now folder reads none Routes refl c.table.result c.table.ensures.found;
  calendar = linked c.args.raw.now folder reads none Calendar refl c.table-2.result c.table-2.ensures.found;
  dates = linked c.args.raw.now folder reads none CalendarDates refl c.table-3.result c.table-3.ensures.found;
  trips = linked c.args.raw.now folder reads none Trips refl c.table-4.result c.table-4.ensures.found;
  stops = linked c.args.raw.now folder reads none Stops refl c.table-5.result c.table-5.ensures.found;
  groups = linked c.args.raw.now folder reads none LocationGroups refl c.table-6.result c.table-6.ensures.found;
  booking_rules = linked c.args.raw.now folder reads none BookingRules refl c.table-7.result c.table-7.ensures.found;
  zones = linked_zones geo c.args.raw.now folder reads tells c.zones.result c.zones.ensures.found;
}
