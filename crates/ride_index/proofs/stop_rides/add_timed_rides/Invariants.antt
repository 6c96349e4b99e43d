use Rattle.std.specs.Prelude.{◌≡◌, ◌<ℤ◌, ◌+ℤ◌, pos}
use Rattle.flex_model.specs.declared.times.Times.{Times}
use Rattle.ride_index.specs.Boarded.{GainsBut, IsNeedless}
use Rattle.ride_index.specs.TimedRides.{IsTimedRide}
use Rattle.ride_index.proofs.stop_rides.add_timed_rides.Given as goal

abbrev pub invariant-loop-ahead : goal.invariant-loop-ahead
invariant-loop-ahead l = record {
  points : l.boarded.0 ≡ l.fn.boarded.0;
  rides : (times : Times) → GainsBut (λ ride. IsTimedRide l.feed times l.days l.stop l.earliest l.limit ride × (ride.day <ℤ (l.first +ℤ pos l.ahead)))
      (IsNeedless l.feed times l.days l.fn.boarded.0 l.carried) l.fn.found.items l.found.items;
}
