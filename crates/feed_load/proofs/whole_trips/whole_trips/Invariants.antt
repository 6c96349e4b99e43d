use Rattle.std.specs.List.{AllZip}
use Rattle.feed_load.specs.WholeTrips.{IsWhole}
use Rattle.feed_load.proofs.whole_trips.whole_trips.Given as goal

abbrev pub invariant-loop-trip : goal.invariant-loop-trip
invariant-loop-trip l = AllZip IsWhole l.yielded l.trips
