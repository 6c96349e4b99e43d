use Rattle.std.proofs.Common.{All}
use Rattle.flex_model.specs.SoundTimes.{IsOnGlobe}
use Rattle.part_trials.proofs.zones.teeth.Given as goal

abbrev pub invariant-loop-tooth : goal.invariant-loop-tooth
invariant-loop-tooth l = All IsOnGlobe l.corners
