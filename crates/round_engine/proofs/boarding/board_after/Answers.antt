use Rattle.round_engine.specs.Chain.{place_of, round_of}
use Rattle.round_engine.proofs.AllBoardings.{everywhere}
use Rattle.round_engine.proofs.GainedBoardings.{boarded_on, gained_more}
use Rattle.round_engine.proofs.boarding.board_after.Goals as goal

pub returns-clause-gains : goal.returns-clause-gains
returns-clause-gains c =
    gained_more c.args.task.now (round_of c.args.label.now) c.args.into.now.items c.board_within.new.into.items c.board_elsewhere.new.into.items
    c.in_ok-board_within.ensures.gains c.in_ok-board_elsewhere.ensures.gains

pub returns-clause-boarded : goal.returns-clause-boarded
returns-clause-boarded c =
    everywhere c.args.task.now c.args.label.now c.board_elsewhere.new.into.items
    (λ seconds change. boarded_on c.args.task.now (round_of c.args.label.now) c.board_within.new.into.items c.board_elsewhere.new.into.items (place_of c.args.label.now) _ _ _
    c.in_ok-board_elsewhere.ensures.gains (c.in_ok-board_within.ensures.boarded seconds change))
    c.in_ok-board_elsewhere.ensures.boarded
