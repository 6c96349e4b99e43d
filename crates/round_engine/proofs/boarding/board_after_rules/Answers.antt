use Rattle.std.proofs.Common.{rules}
use Rattle.round_engine.specs.Boardings.{GainsBoardings, IsRuleBoarded}
use Rattle.round_engine.specs.Chain.{round_of}
use Rattle.round_engine.proofs.GainedBoardings.{all_done, done_more, gained_more, none_done, none_gained, rule_stays}
use Rattle.round_engine.proofs.boarding.board_after_rules.Goals as goal

pub loop-row-init : goal.loop-row-init
loop-row-init c =
    none_done (GainsBoardings c.args.task.now (round_of c.args.label.now)) (IsRuleBoarded c.args.task.now c.args.label.now) c.args.rows.now c.args.into.now.items
    (none_gained c.args.task.now (round_of c.args.label.now) c.args.into.now.items)

pub loop-row-preserved : goal.loop-row-preserved
loop-row-preserved c =
    done_more (GainsBoardings c.args.task.now (round_of c.args.label.now)) (IsRuleBoarded c.args.task.now c.args.label.now) c.args.rows.now
    (gained_more c.args.task.now (round_of c.args.label.now)) (rule_stays c.args.task.now c.args.label.now)
    c.args.into.now.items c.loop-row.into.items c.board_after_rule.new.into.items c.loop-row.row-index _ (search rules)
    c.loop-row.invariant c.in_ok-board_after_rule.ensures.gains c.in_ok-board_after_rule.ensures.boarded

pub returns-clause-boarded : goal.returns-clause-boarded
returns-clause-boarded c =
    all_done (GainsBoardings c.args.task.now (round_of c.args.label.now)) (IsRuleBoarded c.args.task.now c.args.label.now) c.args.rows.now c.args.into.now.items c.loop-row.into.items
    c.loop-row.row-index (search rules) c.loop-row.invariant

pub board_after_rule-requires-clause-row : goal.board_after_rule-requires-clause-row
board_after_rule-requires-clause-row c = (c.requires.rows c.loop-row.row-index _ (search rules)).among
