use Rattle.std.proofs.Common.{◌+◌, ◌<◌, length, sym, ◌∙◌, ap, subst}
use Rattle.std.proofs.lemmas.Bool.{false≢true}
use Rattle.round_engine.specs.Attained.{IsHeldNow, IsLabel, number_of}
use Rattle.round_engine.specs.Made.{made_pair}
use Rattle.round_engine.proofs.MadeLabels.{made_label}
use Rattle.round_engine.proofs.Numbers.{number_within}
use Rattle.flex_model.proofs.Extensions.{alights_at}
use Rattle.round_engine.proofs.Steps.{label_added}
use Rattle.round_engine.proofs.step.take_in.Goals as goal

pub is_held-requires-clause-earlier : goal.is_held-requires-clause-earlier
is_held-requires-clause-earlier c =
    let task = c.args.task.now in
    let sound = c.requires.task in
    let offer = c.args.offer.now in
    let place = alights_at task.feed.now task.times.now task.days.now task.query.now sound.feed offer.ride offer.deadline c.requires.offer.on_the_way in
    let within : c.number_in-at.result < length task.feed.now.stops + 1 =
    subst (λ n. n < length task.feed.now.stops + 1) (sym c.number_in-at.ensures) (number_within task sound offer.ride.alight place) in
    λ k d lt. subst (λ n. c.number_in-at.result < n) (sym (c.requires.state.widths k d lt)) within

pub is_held-requires-clause-round : goal.is_held-requires-clause-round
is_held-requires-clause-round c =
    let task = c.args.task.now in
    let sound = c.requires.task in
    let offer = c.args.offer.now in
    let place = alights_at task.feed.now task.times.now task.days.now task.query.now sound.feed offer.ride offer.deadline c.requires.offer.on_the_way in
    let within : c.number_in-at.result < length task.feed.now.stops + 1 =
    subst (λ n. n < length task.feed.now.stops + 1) (sym c.number_in-at.ensures) (number_within task sound offer.ride.alight place) in
    subst (λ n. c.number_in-at.result < n) (sym c.requires.state.width) within

pub returns-then-is_held-clause-held : goal.returns-then-is_held-clause-held
returns-then-is_held-clause-held c =
    subst (λ n. IsHeldNow c.args.earlier.now c.args.round.now c.args.ends.now n (made_pair c.args.boarding.now c.args.offer.now)) c.number_in-at.ensures
    (subst (λ p. IsHeldNow c.args.earlier.now c.args.round.now c.args.ends.now c.number_in-at.result p) c.pair_after-pair.ensures
    (c.is_held.ensures.held c.if-is_held.true))

pub end_from-requires-clause-label : goal.end_from-requires-clause-label
end_from-requires-clause-label c =
    subst (λ k. IsLabel c.args.task.now k c.in_ok-label.label.now) (sym c.requires.state.count)
    (made_label c.args.task.now c.requires.task (length c.args.earlier.now) c.args.boarding.now c.args.offer.now c.in_ok-label.label.now
    c.requires.boarding c.requires.offer c.requires.state.few c.in_ok-label.ensures)

pub offer-requires : goal.offer-requires
offer-requires c =
    let task = c.args.task.now in
    let sound = c.requires.task in
    let offer = c.args.offer.now in
    let place = alights_at task.feed.now task.times.now task.days.now task.query.now sound.feed offer.ride offer.deadline c.requires.offer.on_the_way in
    let within : c.number_in-at.result < length task.feed.now.stops + 1 =
    subst (λ n. n < length task.feed.now.stops + 1) (sym c.number_in-at.ensures) (number_within task sound offer.ride.alight place) in
    subst (λ n. c.number_in-at.result < n) (sym c.requires.state.width) within

pub returns-clause-step : goal.returns-clause-step
returns-clause-step c =
    let made = c.in_ok-label.ensures in
    label_added c.args.task.now c.args.earlier.now c.args.round.now c.args.ends.now c.offer.new.self c.end_from.new.ends
    c.number_in-at.result c.pair_after-pair.result c.in_ok-label.label c.requires.state
    (made_label c.args.task.now c.requires.task (length c.args.earlier.now) c.args.boarding.now c.args.offer.now c.in_ok-label.label.now
    c.requires.boarding c.requires.offer c.requires.state.few c.in_ok-label.ensures)
    (made.pair ∙ sym c.pair_after-pair.ensures)
    (ap (number_of (length c.args.task.now.feed.now.stops)) made.place ∙ sym c.number_in-at.ensures)
    c.in_ok-end_from.ensures.ends c.in_ok-end_from.ensures.grow c.in_ok-end_from.ensures.at_last c.in_ok-end_from.ensures.kept
    (λ kept. false≢true (sym c.if-is_held.false ∙ c.is_held.ensures.ended kept)) c.offer.ensures.offer
