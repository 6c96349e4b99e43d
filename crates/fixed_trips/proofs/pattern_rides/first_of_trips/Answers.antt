-- Trip by trip.
use Rattle.std.proofs.Common.{◌≡◌, get_or, w64, to_z, of_z, subst, arith}
use Rattle.std.proofs.lemmas.Int.{to_z-of_z}
use Rattle.std.proofs.lemmas.List.{take_all, take_more}
use Rattle.fixed_trips.specs.PatternParts.{IsRideOfOne}
use Rattle.fixed_trips.specs.Patterns.{IsFirst}
use Rattle.fixed_trips.proofs.PatternRides.{next_of_trips}
use Rattle.fixed_trips.proofs.pattern_rides.first_of_trips.Goals as goal

pub loop-number-preserved : goal.loop-number-preserved
loop-number-preserved c = λ times.
    let trips = c.args.trips.now in
    let n = c.loop-number.number in
    next_of_trips c.args.feed.now times c.args.days.now trips n (get_or trips n _) c.args.from_row c.args.to_row (to_z w64 (of_z w64 c.args.earliest)) c.loop-number.found c.first_of_trip-ride.result c.earlier-found.result
    (take_more trips n _ (omega (arith, c.loop-number-test.true))) (c.loop-number.invariant times) (c.first_of_trip-ride.ensures times) c.earlier-found.ensures

pub returns : goal.returns
returns c = λ times.
    let trips = c.args.trips.now in
    let earliest : to_z w64 (of_z w64 c.args.earliest) ≡ c.args.earliest = to_z-of_z w64 c.args.earliest c.ranges.earliest in
    subst (λ e. IsFirst (IsRideOfOne c.args.feed.now times c.args.days.now trips c.args.from_row c.args.to_row e) c.loop-number.found) earliest
    (subst (λ ms. IsFirst (IsRideOfOne c.args.feed.now times c.args.days.now ms c.args.from_row c.args.to_row (to_z w64 (of_z w64 c.args.earliest))) c.loop-number.found)
    (take_all c.loop-number.number trips c.loop-number-test.false) (c.loop-number.invariant times))
