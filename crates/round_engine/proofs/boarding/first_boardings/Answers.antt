use Rattle.round_engine.proofs.AllBoardings.{all_first, walks_away}
use Rattle.round_engine.proofs.GainedBoardings.{boarded_on, gained_more}
use Rattle.round_engine.proofs.boarding.first_boardings.Goals as goal

pub board_after_walks-requires-clause-walks : goal.board_after_walks-requires-clause-walks
board_after_walks-requires-clause-walks c =
    walks_away c.args.task.now c.as_slice.result.now c.spans_from-walks.result.now c.as_slice.ensures c.spans_from-walks.ensures

pub returns-clause-gains : goal.returns-clause-gains
returns-clause-gains c =
    gained_more c.args.task.now 0 c.args.into.now.items c.board_first.new.into.items c.board_after_walks.new.into.items
    c.in_ok-board_first.ensures.gains c.in_ok-board_after_walks.ensures.gains

pub returns-clause-boarded : goal.returns-clause-boarded
returns-clause-boarded c =
    all_first c.args.task.now c.as_slice.result.now c.spans_from-walks.result.now c.as_slice.ensures c.spans_from-walks.ensures
    c.board_after_walks.new.into.items
    (boarded_on c.args.task.now 0 c.board_first.new.into.items c.board_after_walks.new.into.items _ _ _ _
    c.in_ok-board_after_walks.ensures.gains c.in_ok-board_first.ensures.boarded)
    c.in_ok-board_after_walks.ensures.boarded
