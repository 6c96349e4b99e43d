use Rattle.std.proofs.Common.{refl, subst}
use Rattle.std.proofs.lemmas.Option.{none-some, same_Some}
use Rattle.round_engine.specs.Boardings.{IsBoardedAfter}
use Rattle.round_engine.specs.Chain.{place_of, round_of}
use Rattle.round_engine.proofs.GainedBoardings.{none_gained}
use Rattle.round_engine.proofs.boarding.board_within.Goals as goal

pub returns-in_default : goal.returns-in_default
returns-in_default c = record {
  gains = none_gained c.args.task.now (round_of c.args.label.now) c.args.into.now.items;
  boarded = λ seconds h. absurd (none-some seconds ((c.in_default.ensures seconds).0 h));
}

pub board_then-requires-clause-change : goal.board_then-requires-clause-change
board_then-requires-clause-change c = (c.in-Some.ensures c.in-Some.seconds).1 refl

pub returns-clause-boarded : goal.returns-clause-boarded
returns-clause-boarded c = λ seconds h.
    subst (IsBoardedAfter c.args.task.now c.args.label.now c.board_then.new.into.items (place_of c.args.label.now))
    (same_Some c.in-Some.seconds seconds ((c.in-Some.ensures seconds).0 h)) c.in_ok-board_then.ensures.boarded
