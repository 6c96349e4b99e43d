use Rattle.cert_check.specs.Answers.{IsUnbeatenBelow}
use Rattle.cert_check.proofs.answers.better.Given as goal

abbrev pub invariant-loop-j : goal.invariant-loop-j
invariant-loop-j l = IsUnbeatenBelow l.answers l.at l.triple l.j
