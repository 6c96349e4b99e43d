use Rattle.std.proofs.Common.{◌≡◌, ◌+◌, List, [], All, length, replicate, sym, ◌∙◌, ap, subst}
use Rattle.round_engine.specs.Attained.{IsBoarding, IsRoundState}
use Rattle.round_engine.specs.Bags.{BagsGrow, Entry, GainsAtLast}
use Rattle.round_engine.specs.Ridden.{AreRidden}
use Rattle.round_engine.proofs.States.{round_begins, round_ends}
use Rattle.round_engine.proofs.engine.next_round.Goals as goal

pub ride_on-requires-clause-state : goal.ride_on-requires-clause-state
ride_on-requires-clause-state c =
    let task = c.args.task.now in
    let e : c.in_ok-round.round ≡ replicate {A = List Entry} (length task.feed.now.stops + 1) [] =
    c.in_ok-round.ensures ∙ ap (λ these. replicate {A = List Entry} (length these + 1) []) c.as_slice.ensures in
    subst (λ r. IsRoundState task c.args.earlier.now r c.open.new.self) (sym e)
    (subst (λ x. IsRoundState task c.args.earlier.now (replicate {A = List Entry} (length task.feed.now.stops + 1) []) x) (sym c.in_ok-open.ensures)
    (round_begins task c.args.earlier.now c.args.ends.now c.requires.state c.requires.few))

pub ride_on-requires-clause-boardings : goal.ride_on-requires-clause-boardings
ride_on-requires-clause-boardings c =
    subst (All (IsBoarding c.args.task.now (length c.args.earlier.now))) (sym c.as_slice-2.ensures.value) c.in_ok-boardings_after.ensures.sound

pub returns : goal.returns
returns c =
    let task = c.args.task.now in
    round_ends task c.requires.task c.args.earlier.now c.args.ends.now c.ride_on.new.round c.ride_on.new.ends c.boardings_after.new.into.items
    c.requires.state c.requires.few c.in_ok-boardings_after.ensures.first c.in_ok-boardings_after.ensures.next
    (subst (All (AreRidden task c.args.earlier.now c.ride_on.new.round c.ride_on.new.ends)) c.as_slice-2.ensures.value c.in_ok-ride_on.ensures.ridden)
    c.in_ok-ride_on.ensures.step.state
    (subst (λ x. BagsGrow x c.ride_on.new.ends) c.in_ok-open.ensures c.in_ok-ride_on.ensures.step.ends_grow)
    (subst (λ x. GainsAtLast x c.ride_on.new.ends) c.in_ok-open.ensures c.in_ok-ride_on.ensures.step.at_last)
