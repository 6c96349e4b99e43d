use Rattle.std.proofs.Common.{◌≡◌, map}
use Rattle.feed_tables.specs.Records.{header_of}
use Rattle.feed_meaning.specs.FeedValue.{service_of}
use Rattle.feed_rules.specs.Links.{records_in}
use Rattle.feed_load.specs.Calendars.{calendars}
use Rattle.feed_load.specs.TableValues.{values_under}
use Rattle.feed_load.proofs.weekly.dated_services.Given as goal

abbrev pub invariant-loop-row : goal.invariant-loop-row
invariant-loop-row l = l.services.items ≡ map (service_of (calendars (records_in l.fn.calendar) (values_under (header_of l.dates) l.yielded))) l.ids
