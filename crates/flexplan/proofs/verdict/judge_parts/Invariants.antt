use Rattle.flexplan.proofs.Verdicts.{AreValidTo}
use Rattle.flexplan.proofs.verdict.judge_parts.Given as goal

abbrev pub invariant-loop-i : goal.invariant-loop-i
invariant-loop-i l = AreValidTo l.input.feed l.input.times l.input.zone l.input.queries l.parts l.i
