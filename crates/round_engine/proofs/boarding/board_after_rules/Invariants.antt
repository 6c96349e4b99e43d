use Rattle.round_engine.specs.Boardings.{GainsBoardings, IsRuleBoarded}
use Rattle.round_engine.specs.Chain.{round_of}
use Rattle.round_engine.proofs.GainedBoardings.{AreDone}
use Rattle.round_engine.proofs.boarding.board_after_rules.Given as goal

abbrev pub invariant-loop-row : goal.invariant-loop-row
invariant-loop-row l = AreDone (GainsBoardings l.task (round_of l.label)) (IsRuleBoarded l.task l.label) l.rows l.initial.into.items l.into.items l.row-index
