use Rattle.round_engine.proofs.GainedBoardings.{AreBagsDone}
use Rattle.round_engine.proofs.boarding.next_boardings.Given as goal

abbrev pub invariant-loop-at : goal.invariant-loop-at
invariant-loop-at l = AreBagsDone l.task l.last l.marked l.initial.into.items l.into.items l.at-index
