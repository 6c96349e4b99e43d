use Rattle.std.proofs.Common.{rules, ℕ, slice_index_or, sym, subst}
use Rattle.round_engine.specs.Boardings.{AreLabelsOf, GainsBoardings, IsBagBoarded}
use Rattle.round_engine.proofs.GainedBoardings.{bag_done, bags_done, no_bag_done}
use Rattle.round_engine.proofs.boarding.next_boardings.Goals as goal

pub loop-at-init : goal.loop-at-init
loop-at-init c = no_bag_done c.args.task.now c.args.last.now c.marked-marked.result.now c.args.into.now.items

pub board_after_all-requires-clause-labels : goal.board_after_all-requires-clause-labels
board_after_all-requires-clause-labels c =
    let at = slice_index_or c.marked-marked.result.now c.loop-at.at-index 0 in
    (c.requires.labels.0, subst (AreLabelsOf c.args.task.now c.requires.labels.0) (sym c.labels.ensures.labels) (c.requires.labels.1 at))

pub loop-at-preserved : goal.loop-at-preserved
loop-at-preserved c =
    bag_done c.args.task.now c.args.last.now c.marked-marked.result.now c.requires.labels c.args.into.now.items c.loop-at.into.items c.board_after_all.new.into.items
    c.loop-at.at-index 0 (search rules) c.loop-at.invariant
    (subst (λ bag. (k : ℕ) → AreLabelsOf c.args.task.now k bag → GainsBoardings c.args.task.now k c.loop-at.into.items c.board_after_all.new.into.items) c.labels.ensures.labels c.in_ok-board_after_all.ensures.gains)
    (subst (IsBagBoarded c.args.task.now c.board_after_all.new.into.items) c.labels.ensures.labels c.in_ok-board_after_all.ensures.boarded)

pub returns-clause-boarded : goal.returns-clause-boarded
returns-clause-boarded c =
    bags_done c.args.task.now c.args.last.now c.marked-marked.result.now c.marked-marked.ensures.whole c.args.into.now.items c.loop-at.into.items
    c.loop-at.at-index (search rules) c.loop-at.invariant
