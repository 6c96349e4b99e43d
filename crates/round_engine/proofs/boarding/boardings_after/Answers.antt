use Rattle.std.proofs.Common.{All, length, sym, subst}
use Rattle.std.proofs.lemmas.List.Elements.{All-nil}
use Rattle.round_engine.specs.Attained.{IsBoarding}
use Rattle.round_engine.proofs.AllBoardings.{all_next, labels_of_last, last_is}
use Rattle.round_engine.proofs.boarding.boardings_after.Goals as goal

pub next_boardings-requires-clause-labels : goal.next_boardings-requires-clause-labels
next_boardings-requires-clause-labels c =
    let is = last_is c.args.earlier.now c.in-Some.last.now c.in-Some.ensures.value in
    (length c.args.earlier.now, labels_of_last c.args.task.now c.args.earlier.now c.requires.entries c.in-Some.last.now is.0 is.1)

pub returns-in_ok-next_boardings-in-Some-clause-sound : goal.returns-in_ok-next_boardings-in-Some-clause-sound
returns-in_ok-next_boardings-in-Some-clause-sound c =
    let is = last_is c.args.earlier.now c.in-Some.last.now c.in-Some.ensures.value in
    let gains = c.in_ok-next_boardings-in-Some.ensures.gains (length c.args.earlier.now)
    (labels_of_last c.args.task.now c.args.earlier.now c.requires.entries c.in-Some.last.now is.0 is.1) in
    gains.sound (subst (All (IsBoarding c.args.task.now (length c.args.earlier.now))) (sym c.requires.none) (All-nil (IsBoarding c.args.task.now (length c.args.earlier.now))))

pub returns-in_ok-next_boardings-in-Some-clause-next : goal.returns-in_ok-next_boardings-in-Some-clause-next
returns-in_ok-next_boardings-in-Some-clause-next c = λ some.
    let is = last_is c.args.earlier.now c.in-Some.last.now c.in-Some.ensures.value in
    all_next c.args.task.now c.args.earlier.now c.requires.entries c.in-Some.last.now is.0 is.1 c.next_boardings.new.into.items c.in_ok-next_boardings-in-Some.ensures.boarded
