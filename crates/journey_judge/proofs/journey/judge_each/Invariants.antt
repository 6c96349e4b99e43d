use Rattle.journey_judge.proofs.WalkTallies.{AreTallied}
use Rattle.journey_judge.proofs.journey.judge_each.Given as goal

abbrev pub invariant-loop-k : goal.invariant-loop-k
invariant-loop-k l = AreTallied l.feed l.times l.days l.query l.rides l.k l.whole
