-- What stands between the two places is of the stop and between the times.
use Rattle.ride_index.proofs.DepartureOrder.{stands_between}
use Rattle.ride_index.proofs.departures.slice_between.Goals as goal

pub returns : goal.returns
returns c = λ departure.
    stands_between c.args.departures.now c.args.named c.args.from c.args.until c.count_before-start.result c.count_before-end.result
    c.count_before-start.ensures.bound c.count_before-end.ensures.bound c.count_before-start.ensures.point c.count_before-end.ensures.point departure
