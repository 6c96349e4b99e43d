-- The sort moves the trips, and loses none.
use Rattle.fixed_trips.proofs.PatternTrips.{moved_trips}
use Rattle.fixed_trips.proofs.pattern_trips.pattern_trips_of.Goals as goal

pub returns-clause-trips : goal.returns-clause-trips
returns-clause-trips c =
    moved_trips c.args.patterns.now c.in_ok-all_pattern_trips.field-0.items c.in_ok-in_order.field-0 c.in_ok-in_order.ensures.moved c.in_ok-all_pattern_trips.ensures
