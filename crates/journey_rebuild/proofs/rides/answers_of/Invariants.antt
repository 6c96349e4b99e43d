use Rattle.std.proofs.Common.{◌≡◌, map, take}
use Rattle.journey_rebuild.specs.Answers.{answer_of}
use Rattle.journey_rebuild.proofs.rides.answers_of.Given as goal

abbrev pub invariant-loop-best : goal.invariant-loop-best
invariant-loop-best l = l.answers ≡ map answer_of (take l.best-index l.finals)
