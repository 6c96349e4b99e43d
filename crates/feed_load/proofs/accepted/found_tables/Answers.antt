use Rattle.std.proofs.Common.{refl}
use Rattle.flex_model.specs.declared.fault.InputFile.TheVariants.{Stops, Trips, StopTimes, Calendar, CalendarDates, LocationGroups, LocationGroupStops, BookingRules, Transfers, Frequencies}
use Rattle.feed_load.proofs.FoundTables.{features_are_zones, is_there, optional_is, table_is, zones_are}
use Rattle.feed_load.proofs.accepted.found_tables.Goals as goal

pub returns-in_err-trips : goal.returns-in_err-trips
returns-in_err-trips c = λ scan folder reads scans none.
    absurd (is_there c.features_are_few.ensures scan c.args.raw.now folder reads scans none Trips refl refl c.table.result c.table.ensures.found c.in_err-trips.was)

pub returns-in_err-stop_times : goal.returns-in_err-stop_times
returns-in_err-stop_times c = λ scan folder reads scans none.
    absurd (is_there c.features_are_few.ensures scan c.args.raw.now folder reads scans none StopTimes refl refl c.table-2.result c.table-2.ensures.found c.in_err-stop_times.was)

pub returns : goal.returns
returns c = λ scan folder reads scans none.
    let few = c.features_are_few.ensures in
    let raw = c.args.raw.now in
    record {
      stops = optional_is few scan raw folder reads scans none Stops refl c.table-3.result c.table-3.ensures.found;
      trips = table_is few scan raw folder reads scans none Trips refl c.in_ok-trips.trips c.in_ok-trips.ensures.found;
      stop_times = table_is few scan raw folder reads scans none StopTimes refl c.in_ok-stop_times.stop_times c.in_ok-stop_times.ensures.found;
      calendar = optional_is few scan raw folder reads scans none Calendar refl c.table-4.result c.table-4.ensures.found;
      dates = optional_is few scan raw folder reads scans none CalendarDates refl c.table-5.result c.table-5.ensures.found;
      zones = zones_are few scan raw folder reads scans none c.zones.result c.zones.ensures.found;
      groups = optional_is few scan raw folder reads scans none LocationGroups refl c.table-6.result c.table-6.ensures.found;
      group_stops = optional_is few scan raw folder reads scans none LocationGroupStops refl c.table-7.result c.table-7.ensures.found;
      booking_rules = optional_is few scan raw folder reads scans none BookingRules refl c.table-8.result c.table-8.ensures.found;
      transfers = optional_is few scan raw folder reads scans none Transfers refl c.table-9.result c.table-9.ensures.found;
      frequencies = optional_is few scan raw folder reads scans none Frequencies refl c.table-10.result c.table-10.ensures.found;
      features = features_are_zones few scan raw folder reads scans none c.zones.result c.zones.ensures.found;
    }
