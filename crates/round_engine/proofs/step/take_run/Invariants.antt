use Rattle.round_engine.proofs.Steps.{IsRunTaken}
use Rattle.round_engine.proofs.step.take_run.Given as goal

abbrev pub invariant-loop-number : goal.invariant-loop-number
invariant-loop-number l = IsRunTaken l.task l.earlier l.boarding l.run l.initial.round l.initial.ends l.round l.ends l.number
