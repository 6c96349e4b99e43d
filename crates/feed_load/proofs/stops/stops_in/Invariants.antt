use Rattle.std.proofs.Common.{◌≡◌, map}
use Rattle.feed_tables.specs.Records.{header_of}
use Rattle.feed_meaning.specs.FeedValue.{stop_of}
use Rattle.feed_load.specs.TableValues.{values_under}
use Rattle.feed_load.proofs.stops.stops_in.Given as goal

abbrev pub invariant-loop-row : goal.invariant-loop-row
invariant-loop-row l = l.stops ≡ map stop_of (values_under (header_of l.table) l.yielded)
