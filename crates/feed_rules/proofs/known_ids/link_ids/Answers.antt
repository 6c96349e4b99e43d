use Rattle.std.proofs.Common.{refl}
use Rattle.flex_model.specs.declared.fault.InputFile.TheVariants as Files
use Rattle.feed_rules.proofs.known_ids.link_ids.Goals as goal

pub returns : goal.returns
returns c = λ tables is.
    let trips = c.in_ok-of_trips.ensures tables is in
    let places = c.in_ok-of_places.ensures tables is in
    record {
      routes = trips.routes;
      calendar = trips.calendar;
      dates = trips.dates;
      trips = c.in_ok-trips.ensures tables Files.Trips "trip_id" refl is.trips;
      stops = places.stops;
      stations = places.stations;
      groups = places.groups;
      zones = places.zones;
      booking_rules = c.in_ok-booking_rules.ensures tables Files.BookingRules "booking_rule_id" refl is.booking_rules;
    }
