use Rattle.std.proofs.Common.{◌<ℤ◌, ◌≤ℤ◌}
use Rattle.flex_model.specs.declared.times.Times.{Times}
use Rattle.fixed_trips.specs.PatternParts.{IsRideOfTrip}
use Rattle.fixed_trips.specs.Patterns.{IsFirst}
use Rattle.fixed_trips.proofs.pattern_rides.first_of_trip.Given as goal

abbrev pub invariant-loop-day : goal.invariant-loop-day
invariant-loop-day l =
    (l.first ≤ℤ l.day)
    × ((times : Times) → IsFirst (λ ride. IsRideOfTrip l.feed times l.days l.trip l.from_row l.to_row l.earliest ride × (ride.day <ℤ l.day)) l.found)
