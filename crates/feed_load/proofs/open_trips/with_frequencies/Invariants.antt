use Rattle.std.proofs.Common.{◌≡◌, map}
use Rattle.feed_tables.specs.Records.{header_of}
use Rattle.feed_load.specs.OpenTrips.{with_frequencies}
use Rattle.feed_load.specs.TableValues.{values_under}
use Rattle.feed_load.proofs.open_trips.with_frequencies.Given as goal

abbrev pub invariant-loop-row : goal.invariant-loop-row
invariant-loop-row l =
    l.trips.items ≡ map (with_frequencies (values_under (header_of l.frequencies) l.yielded)) l.initial.trips.items
