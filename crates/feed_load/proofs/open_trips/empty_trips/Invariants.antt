use Rattle.std.proofs.Common.{◌≡◌, map}
use Rattle.feed_tables.specs.Records.{header_of}
use Rattle.feed_load.specs.OpenTrips.{empty_trip}
use Rattle.feed_load.specs.TableValues.{values_under}
use Rattle.feed_load.proofs.open_trips.empty_trips.Given as goal

abbrev pub invariant-loop-row : goal.invariant-loop-row
invariant-loop-row l = l.trips.items ≡ map (empty_trip l.service_ids) (values_under (header_of l.table) l.yielded)
