use Rattle.round_engine.specs.Boardings.{GainsBoardings, IsWalkBoarded}
use Rattle.round_engine.proofs.GainedBoardings.{AreDone}
use Rattle.round_engine.proofs.boarding.board_after_walks.Given as goal

abbrev pub invariant-loop-span : goal.invariant-loop-span
invariant-loop-span l = AreDone (GainsBoardings l.task 0) (IsWalkBoarded l.task) l.walks l.initial.into.items l.into.items l.span-index
