use Rattle.std.proofs.Common.{All}
use Rattle.flex_model.specs.SoundTimes.{IsOnGlobe}
use Rattle.part_trials.proofs.zones.descend.Given as goal

abbrev pub invariant-loop-step : goal.invariant-loop-step
invariant-loop-step l = All IsOnGlobe l.corners
