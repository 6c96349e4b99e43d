use Rattle.journey_judge.proofs.FlawOrder.{PassesUpTo}
use Rattle.journey_judge.proofs.ride.judge_ride.Given as goal

abbrev pub invariant-loop-flaw : goal.invariant-loop-flaw
invariant-loop-flaw l = PassesUpTo l.feed l.times l.days l.ride l.flaw-index
