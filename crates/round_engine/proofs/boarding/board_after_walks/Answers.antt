use Rattle.std.proofs.Common.{rules}
use Rattle.round_engine.specs.Boardings.{GainsBoardings, IsWalkBoarded}
use Rattle.round_engine.proofs.GainedBoardings.{all_done, done_more, gained_more, none_done, none_gained, walk_stays}
use Rattle.round_engine.proofs.boarding.board_after_walks.Goals as goal

pub loop-span-init : goal.loop-span-init
loop-span-init c =
    none_done (GainsBoardings c.args.task.now 0) (IsWalkBoarded c.args.task.now) c.args.walks.now c.args.into.now.items (none_gained c.args.task.now 0 c.args.into.now.items)

pub loop-span-preserved : goal.loop-span-preserved
loop-span-preserved c =
    done_more (GainsBoardings c.args.task.now 0) (IsWalkBoarded c.args.task.now) c.args.walks.now (gained_more c.args.task.now 0) (walk_stays c.args.task.now)
    c.args.into.now.items c.loop-span.into.items c.board_after_walk.new.into.items c.loop-span.span-index _ (search rules)
    c.loop-span.invariant c.in_ok-board_after_walk.ensures.gains c.in_ok-board_after_walk.ensures.boarded

pub returns-clause-boarded : goal.returns-clause-boarded
returns-clause-boarded c =
    all_done (GainsBoardings c.args.task.now 0) (IsWalkBoarded c.args.task.now) c.args.walks.now c.args.into.now.items c.loop-span.into.items
    c.loop-span.span-index (search rules) c.loop-span.invariant

pub board_after_walk-requires-clause-span : goal.board_after_walk-requires-clause-span
board_after_walk-requires-clause-span c = (c.requires.walks c.loop-span.span-index _ (search rules)).among
