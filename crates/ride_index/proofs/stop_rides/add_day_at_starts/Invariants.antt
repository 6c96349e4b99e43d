use Rattle.flex_model.specs.declared.times.Times.{Times}
use Rattle.ride_index.specs.TimedRides.{IsRideAtStart}
use Rattle.ride_index.proofs.RideLists.{Gained}
use Rattle.ride_index.proofs.StopRides.{IsOfFirst}
use Rattle.ride_index.proofs.stop_rides.add_day_at_starts.Given as goal

abbrev pub invariant-loop-departure : goal.invariant-loop-departure
invariant-loop-departure l =
    (times : Times) → Gained (IsOfFirst (λ d. IsRideAtStart l.feed times l.days d l.day l.earliest l.limit) l.departures l.departure-index) l.fn.found.items l.found.items
