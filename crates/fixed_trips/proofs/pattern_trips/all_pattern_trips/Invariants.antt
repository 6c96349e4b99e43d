use Rattle.fixed_trips.proofs.PatternTrips.{HasEarly}
use Rattle.fixed_trips.proofs.pattern_trips.all_pattern_trips.Given as goal

abbrev pub invariant-loop-trip : goal.invariant-loop-trip
invariant-loop-trip l = HasEarly l.patterns l.trip l.trips.items
