use Rattle.std.specs.Prelude.{◌≡◌, None}
use Rattle.flex_model.specs.declared.times.Times.{Times}
use Rattle.ride_index.specs.Boarded.{GainsBut, IsNeedless}
use Rattle.ride_index.specs.TimedRides.{IsRideWith}
use Rattle.ride_index.proofs.StopRides.{IsOfFirst}
use Rattle.ride_index.proofs.stop_rides.add_day_once.Given as goal

abbrev pub invariant-loop-departure : goal.invariant-loop-departure
invariant-loop-departure l = record {
  points : l.boarded.0 ≡ l.fn.boarded.0;
  rides : (times : Times) → GainsBut (IsOfFirst (λ d. IsRideWith l.feed times l.days d l.day None l.limit) l.departures l.departure-index)
      (IsNeedless l.feed times l.days l.fn.boarded.0 l.carried) l.fn.found.items l.found.items;
}
