use Rattle.round_engine.proofs.GainedBoardings.{AreLabelsDone}
use Rattle.round_engine.proofs.boarding.board_after_all.Given as goal

abbrev pub invariant-loop-entry : goal.invariant-loop-entry
invariant-loop-entry l = AreLabelsDone l.task l.entries l.initial.into.items l.into.items l.entry-index
