use Rattle.std.proofs.Common.{All}
use Rattle.flex_model.specs.SoundTimes.{IsOnGlobe}
use Rattle.part_trials.proofs.zones.ring.Given as goal

abbrev pub invariant-loop-corner : goal.invariant-loop-corner
invariant-loop-corner l = All IsOnGlobe l.list
