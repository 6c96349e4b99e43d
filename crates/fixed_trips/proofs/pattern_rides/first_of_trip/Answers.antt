-- Travel day by travel day.
use Rattle.std.proofs.Common.{◌≡◌, ◌+ℤ◌, pos, w32, w64, to_z, of_z, sym, subst, arith}
use Rattle.std.proofs.lemmas.Int.{ints, to_z-of_z}
use Rattle.fixed_trips.specs.PatternParts.{IsRideOfTrip}
use Rattle.fixed_trips.specs.Patterns.{IsFirst}
use Rattle.fixed_trips.proofs.PatternRides.{TravelsFrom, all_days, day_fits, first_is_low, next_day}
use Rattle.fixed_trips.proofs.pattern_rides.first_of_trip.Goals as goal

pub loop-day-preserved : goal.loop-day-preserved
loop-day-preserved c =
    let days = c.args.days.now in
    let d = to_z w32 c.loop-day.day-bits in
    let from = c.loop-day.invariant.0 in
    let first = to_z w32 (of_z w32 c.first_travel_day-first.result) in
    let same : first ≡ c.first_travel_day-first.result = to_z-of_z w32 c.first_travel_day-first.result (record { sfits = c.first_travel_day-first.type_inv }) in
    let travel : TravelsFrom days first = subst (TravelsFrom days) (sym same) c.first_travel_day-first.ensures in
    let bounds = first_is_low days first c.requires.days travel in
    let low = bounds.0 in
    let high = bounds.1 in
    let end : to_z w32 (of_z w32 (first +ℤ pos 22)) ≡ first +ℤ pos 22 = day_fits (first +ℤ pos 22) (omega (arith, ints, low)) (omega (arith, ints, high)) in
    let next : to_z w32 (of_z w32 (d +ℤ pos 1)) ≡ d +ℤ pos 1 = day_fits (d +ℤ pos 1) (omega (arith, ints, low, from)) (omega (arith, ints, high, end, c.loop-day-test.true)) in (
      omega (arith, ints, from, next),
      λ times.
          next_day c.args.feed.now times days c.args.trip c.args.from_row c.args.to_row (to_z w64 (of_z w64 c.args.earliest)) d (to_z w32 (of_z w32 (d +ℤ pos 1)))
          c.loop-day.found c.ride_on-ride.result c.from_then.result c.earlier-found.result next (c.loop-day.invariant.1 times) (c.ride_on-ride.ensures times) c.from_then.ensures c.earlier-found.ensures,
    )

pub returns : goal.returns
returns c = λ times.
    let days = c.args.days.now in
    let d = to_z w32 c.loop-day.day-bits in
    let first = to_z w32 (of_z w32 c.first_travel_day-first.result) in
    let same : first ≡ c.first_travel_day-first.result = to_z-of_z w32 c.first_travel_day-first.result (record { sfits = c.first_travel_day-first.type_inv }) in
    let travel : TravelsFrom days first = subst (TravelsFrom days) (sym same) c.first_travel_day-first.ensures in
    let bounds = first_is_low days first c.requires.days travel in
    let low = bounds.0 in
    let high = bounds.1 in
    let end : to_z w32 (of_z w32 (first +ℤ pos 22)) ≡ first +ℤ pos 22 = day_fits (first +ℤ pos 22) (omega (arith, ints, low)) (omega (arith, ints, high)) in
    let earliest : to_z w64 (of_z w64 c.args.earliest) ≡ c.args.earliest = to_z-of_z w64 c.args.earliest c.ranges.earliest in
    subst (λ e. IsFirst (IsRideOfTrip c.args.feed.now times days c.args.trip c.args.from_row c.args.to_row e) c.loop-day.found) earliest
    (all_days c.args.feed.now times days c.args.trip c.args.from_row c.args.to_row (to_z w64 (of_z w64 c.args.earliest)) first d c.loop-day.found travel
    (omega (arith, ints, end, c.loop-day-test.false)) (c.loop-day.invariant.1 times))
