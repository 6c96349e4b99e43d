use Rattle.std.proofs.Common.{refl}
use Rattle.flex_model.specs.declared.fault.InputFile.TheVariants as Files
use Rattle.feed_rules.proofs.known_ids.trip_ids.Goals as goal

pub returns : goal.returns
returns c = λ tables is. record {
  routes = c.in_ok-routes.ensures tables Files.Routes "route_id" refl is.routes;
  calendar = c.in_ok-calendar.ensures tables Files.Calendar "service_id" refl is.calendar;
  dates = c.in_ok-dates.ensures tables Files.CalendarDates "service_id" refl is.dates;
}
