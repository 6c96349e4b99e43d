use Rattle.round_engine.specs.Chain.{place_of, round_of}
use Rattle.round_engine.proofs.AllBoardings.{all_elsewhere, none_from_points, rules_after}
use Rattle.round_engine.proofs.GainedBoardings.{none_gained}
use Rattle.round_engine.proofs.boarding.board_elsewhere.Goals as goal

pub returns-in_default : goal.returns-in_default
returns-in_default c = record {
  gains = none_gained c.args.task.now (round_of c.args.label.now) c.args.into.now.items;
  boarded = λ place seconds other h. absurd (none_from_points c.args.task.now.feed.now (place_of c.args.label.now) place seconds c.in_default.not-Stop h);
}

pub board_after_rules-requires-clause-rows : goal.board_after_rules-requires-clause-rows
board_after_rules-requires-clause-rows c =
    rules_after c.args.task.now c.args.label.now c.in-Stop.stop c.changes_from.result.now c.in-Stop.is c.changes_from.ensures

pub returns-clause-boarded : goal.returns-clause-boarded
returns-clause-boarded c =
    all_elsewhere c.args.task.now c.args.label.now c.in-Stop.stop c.changes_from.result.now c.in-Stop.is c.changes_from.ensures
    c.board_after_rules.new.into.items c.in_ok-board_after_rules.ensures.boarded
