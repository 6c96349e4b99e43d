-- What stands between the two places has the pattern.
use Rattle.fixed_trips.proofs.PatternTrips.{stands_between}
use Rattle.fixed_trips.proofs.pattern_trips.trips_with.Goals as goal

pub returns : goal.returns
returns c = λ trip.
    stands_between c.args.trips.now c.args.pattern c.count_before-start.result c.count_up_to-end.result
    c.count_before-start.ensures.bound c.count_up_to-end.ensures.bound c.count_before-start.ensures.point c.count_up_to-end.ensures.point trip
