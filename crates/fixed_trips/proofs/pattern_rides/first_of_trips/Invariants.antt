use Rattle.std.proofs.Common.{take}
use Rattle.flex_model.specs.declared.times.Times.{Times}
use Rattle.fixed_trips.specs.PatternParts.{IsRideOfOne}
use Rattle.fixed_trips.specs.Patterns.{IsFirst}
use Rattle.fixed_trips.proofs.pattern_rides.first_of_trips.Given as goal

abbrev pub invariant-loop-number : goal.invariant-loop-number
invariant-loop-number l =
    (times : Times) → IsFirst (IsRideOfOne l.feed times l.days (take l.number l.trips) l.from_row l.to_row l.earliest) l.found
