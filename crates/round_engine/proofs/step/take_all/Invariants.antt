use Rattle.round_engine.proofs.Steps.{AreTaken}
use Rattle.round_engine.proofs.step.take_all.Given as goal

abbrev pub invariant-loop-run : goal.invariant-loop-run
invariant-loop-run l = AreTaken l.task l.earlier l.boarding l.runs l.initial.round l.initial.ends l.round l.ends l.run-index
