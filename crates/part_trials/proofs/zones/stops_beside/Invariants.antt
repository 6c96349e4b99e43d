use Rattle.std.proofs.Common.{◌≡◌, All, length}
use Rattle.flex_model.specs.SoundTimes.{IsOnGlobe}
use Rattle.part_trials.proofs.zones.stops_beside.Given as goal

abbrev pub invariant-loop-step : goal.invariant-loop-step
invariant-loop-step l = record {
  on_globe : All (λ stop. IsOnGlobe stop.at) l.stops;
  many : length l.stops ≡ l.step;
}
