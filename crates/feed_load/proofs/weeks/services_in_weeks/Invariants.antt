use Rattle.std.proofs.Common.{◌≡◌, [], fold, map}
use Rattle.feed_tables.specs.Records.{header_of}
use Rattle.feed_meaning.specs.FeedValue.{service_of}
use Rattle.feed_meaning.specs.Noted.{noted}
use Rattle.feed_load.specs.Calendars.{calendars}
use Rattle.feed_load.specs.TableValues.{values_under}
use Rattle.feed_load.proofs.weeks.services_in_weeks.Given as goal

abbrev pub invariant-loop-row : goal.invariant-loop-row
invariant-loop-row l = record {
  met : l.met ≡ fold noted [] (map (λ r. r "service_id") (values_under (header_of l.calendar) l.yielded));
  services : l.services.items ≡ map (service_of (calendars (values_under (header_of l.calendar) l.yielded) [])) l.ids;
}
