use Rattle.std.proofs.Common.{rules, ◌+◌, ◌≤◌, length, subst, arith}
use Rattle.flex_model.specs.Deadline.{IsNoLater, lesser}
use Rattle.round_engine.specs.Attained.{IsHeldNow, number_of}
use Rattle.round_engine.specs.Chain.{deadline_up_to}
use Rattle.round_engine.specs.Made.{made_pair}
use Rattle.round_engine.specs.Offers.{nth_offer}
use Rattle.round_engine.proofs.ModestOffers.{modest_offer}
use Rattle.round_engine.proofs.Steps.{IsRunTaken, run_more, run_rest}
use Rattle.round_engine.proofs.step.take_run.Goals as goal

pub loop-number-preserved : goal.loop-number-preserved
loop-number-preserved c =
    let task = c.args.task.now in
    run_more task c.args.earlier.now c.args.round.now c.args.ends.now c.loop-number.round c.loop-number.ends c.take_in.new.round c.take_in.new.ends
    c.loop-number.number c.args.boarding.now c.args.run.now c.loop-number.invariant c.in_ok-take_in.ensures.step
    (subst (λ o. IsHeldNow c.args.earlier.now c.take_in.new.round c.take_in.new.ends (number_of (length task.feed.now.stops) o.ride.alight) (made_pair c.args.boarding.now o))
    c.offer_at-offer.ensures c.in_ok-take_in.ensures.held)

pub returns-then-is_last_booked-clause-step : goal.returns-then-is_last_booked-clause-step
returns-then-is_last_booked-clause-step c =
    let task = c.args.task.now in
    let taken : IsRunTaken task c.args.earlier.now c.args.boarding.now c.args.run.now c.args.round.now c.args.ends.now c.take_in.new.round c.take_in.new.ends (c.loop-number.number + 1) =
    run_more task c.args.earlier.now c.args.round.now c.args.ends.now c.loop-number.round c.loop-number.ends c.take_in.new.round c.take_in.new.ends
    c.loop-number.number c.args.boarding.now c.args.run.now c.loop-number.invariant c.in_ok-take_in.ensures.step
    (subst (λ o. IsHeldNow c.args.earlier.now c.take_in.new.round c.take_in.new.ends (number_of (length task.feed.now.stops) o.ride.alight) (made_pair c.args.boarding.now o))
    c.offer_at-offer.ensures c.in_ok-take_in.ensures.held) in
    taken.step

pub returns-then-is_last_booked-clause-held : goal.returns-then-is_last_booked-clause-held
returns-then-is_last_booked-clause-held c =
    let task = c.args.task.now in
    let boarding = c.args.boarding.now in
    run_rest task c.args.earlier.now c.args.round.now c.args.ends.now c.loop-number.round c.loop-number.ends c.take_in.new.round c.take_in.new.ends
    c.loop-number.number c.args.boarding.now c.args.run.now
    (run_more task c.args.earlier.now c.args.round.now c.args.ends.now c.loop-number.round c.loop-number.ends c.take_in.new.round c.take_in.new.ends
    c.loop-number.number c.args.boarding.now c.args.run.now c.loop-number.invariant c.in_ok-take_in.ensures.step
    (subst (λ o. IsHeldNow c.args.earlier.now c.take_in.new.round c.take_in.new.ends (number_of (length task.feed.now.stops) o.ride.alight) (made_pair boarding o))
    c.offer_at-offer.ensures c.in_ok-take_in.ensures.held))
    (subst (λ o. IsNoLater (lesser (deadline_up_to boarding.parent) c.args.run.now.latest) (lesser (deadline_up_to boarding.parent) o.deadline))
    c.offer_at-offer.ensures (c.is_last_booked.ensures c.if-is_last_booked.true))

pub returns-clause-held : goal.returns-clause-held
returns-clause-held c = λ k lt.
    let t : c.args.run.now.count ≤ c.loop-number.number = search rules in
    c.loop-number.invariant.held k (omega arith)

pub offer_at-offer-requires : goal.offer_at-offer-requires
offer_at-offer-requires c =
    modest_offer c.args.task.now c.requires.task c.args.boarding.now (nth_offer c.args.run.now c.loop-number.number)
    (c.requires.offers c.loop-number.number (search rules))
