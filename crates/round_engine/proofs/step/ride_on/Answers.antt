use mir.Syntax.{w64}
use mir.Val.{of_z, to_z}
use Rattle.std.proofs.Common.{rules, ◌≡◌, ◌<◌, pos, ◌++◌, ◌∷◌, [], None, All, Contains, length, slice_index_or, sym, ◌∙◌, ap, subst, arith}
use Rattle.std.proofs.lemmas.Int.{to_z-of_z}
use Rattle.std.proofs.lemmas.List.{get_or_default}
use Rattle.flex_model.specs.Journey.{limit}
use Rattle.flex_model.specs.declared.place.Place.TheVariants.{Stop}
use Rattle.flex_model.proofs.Found.{none_contained}
use Rattle.ride_index.specs.declared.boarded.BoardingPoint.{BoardingPoint}
use Rattle.ride_index.specs.Boarded.{AreOfferedAfter, point_of}
use Rattle.ride_index.specs.OfferedRuns.{IsSoundWanted}
use Rattle.round_engine.specs.declared.boarding.Boarding.{Boarding}
use Rattle.round_engine.specs.Limits.{IsInAny, IsLimitOver}
use Rattle.round_engine.specs.Offers.{wanted_from}
use Rattle.round_engine.specs.Ridden.{AreRidden, IsPointRidden, carried_to, point_at}
use Rattle.round_engine.proofs.Steps.{AreRiddenTo, IsRunFrom, IsRunHeld, all_ridden, no_step, points_more, points_on, runs_from_boarding, ridden_more}
use Rattle.round_engine.proofs.step.ride_on.Goals as goal

abbrev nowhere : Boarding
nowhere = record { place = Stop 0; earliest = pos 0; walk = 0; parent = None }

pub loop-boarding-init : goal.loop-boarding-init
loop-boarding-init c = record {
  taken = record { step = no_step c.args.task.now c.args.earlier.now c.args.round.now c.args.ends.now c.requires.state; ridden = λ j d lt. absurd (omega arith) };
  points = λ point among. absurd (none_contained point (subst (λ ps. Contains ps point) c.in_ok-boarded.ensures.none among));
}

pub offers_after-requires-clause-wanted : goal.offers_after-requires-clause-wanted
offers_after-requires-clause-wanted c =
    subst IsSoundWanted (sym c.wanted_at-wanted.ensures) (record {
      feed = c.requires.task.feed;
      times = c.requires.task.times;
      days = c.requires.task.days;
      active = c.requires.lookups.active;
    })

pub take_all-requires-clause-state : goal.take_all-requires-clause-state
take_all-requires-clause-state c = c.loop-boarding.invariant.taken.step.state

pub take_all-requires-clause-offers : goal.take_all-requires-clause-offers
take_all-requires-clause-offers c =
    let task = c.args.task.now in
    let active = c.args.lookups.now.active in
    let runs = c.offers_after.new.into.items in
    let least = c.limit_after-limit.result in
    let points = c.loop-boarding.boarded.0 in
    let b : Boarding = slice_index_or c.args.boardings.now c.loop-boarding.boarding-index nowhere in
    subst (All (IsRunFrom task b)) (sym c.as_slice.ensures.value)
    (runs_from_boarding task active b runs points least c.limit_after-limit.ensures.low
    (subst (λ l. AreOfferedAfter (wanted_from task active b.place b.earliest l) points (carried_to b) runs) (to_z-of_z w64 least (record { sfits = c.limit_after-limit.type_inv }))
    (subst (λ m. AreOfferedAfter (wanted_from task active b.place m (to_z w64 (of_z w64 least))) points (carried_to b) runs) (to_z-of_z w64 b.earliest (search rules))
    (subst (λ w. AreOfferedAfter w points (carried_to b) runs) c.wanted_at-wanted.ensures
    (subst (λ k. AreOfferedAfter c.wanted_at-wanted.result points k runs) c.carried_by-carried.ensures c.in_ok-offers_after.ensures.offers)))))

pub loop-boarding-preserved : goal.loop-boarding-preserved
loop-boarding-preserved c =
    let task = c.args.task.now in
    let earlier = c.args.earlier.now in
    let active = c.args.lookups.now.active in
    let runs = c.offers_after.new.into.items in
    let least = c.limit_after-limit.result in
    let points = c.loop-boarding.boarded.0 in
    let b : Boarding = slice_index_or c.args.boardings.now c.loop-boarding.boarding-index nowhere in
    let lt : c.loop-boarding.boarding-index < length c.args.boardings.now = search rules in
    let step = c.in_ok-take_all.ensures.step in
    let on = points_on task earlier c.loop-boarding.round c.loop-boarding.ends c.take_all.new.round c.take_all.new.ends points step c.loop-boarding.invariant.points in
    let limited = subst (λ k. IsLimitOver (IsInAny c.loop-boarding.ends) k.deadline k.walk (limit task.query.now) least) c.carried_by-carried.ensures c.limit_after-limit.ensures in
    let back = to_z-of_z w64 b.earliest (search rules) in
    let new : AreRidden task earlier c.take_all.new.round c.take_all.new.ends b =
    all_ridden task active earlier c.take_all.new.round c.take_all.new.ends b runs least c.loop-boarding.ends points step.ends_grow on limited
    (subst (λ l. AreOfferedAfter (wanted_from task active b.place b.earliest l) points (carried_to b) runs) (to_z-of_z w64 least (record { sfits = c.limit_after-limit.type_inv }))
    (subst (λ m. AreOfferedAfter (wanted_from task active b.place m (to_z w64 (of_z w64 least))) points (carried_to b) runs) back
    (subst (λ w. AreOfferedAfter w points (carried_to b) runs) c.wanted_at-wanted.ensures
    (subst (λ k. AreOfferedAfter c.wanted_at-wanted.result points k runs) c.carried_by-carried.ensures c.in_ok-offers_after.ensures.offers))))
    (subst (All (IsRunHeld task earlier c.take_all.new.round c.take_all.new.ends b)) c.as_slice.ensures.value c.in_ok-take_all.ensures.held) in
    let after : c.offers_after.new.boarded.0 ≡ points ++ point_at b ∷ [] =
    c.in_ok-offers_after.ensures.points
    ∙ ap (λ w. points ++ point_of w c.carried_by-carried.result ∷ []) c.wanted_at-wanted.ensures
    ∙ ap (λ k. points ++ point_of (wanted_from task active b.place (to_z w64 (of_z w64 b.earliest)) (to_z w64 (of_z w64 least))) k ∷ []) c.carried_by-carried.ensures
    ∙ ap (λ m. points ++ point_of (wanted_from task active b.place m (to_z w64 (of_z w64 least))) (carried_to b) ∷ []) back in
    record {
      taken = ridden_more task earlier c.args.round.now c.args.ends.now c.loop-boarding.round c.loop-boarding.ends c.take_all.new.round c.take_all.new.ends
          c.loop-boarding.boarding-index c.args.boardings.now b lt c.loop-boarding.invariant.taken step
          (get_or_default c.args.boardings.now c.loop-boarding.boarding-index nowhere b lt) new;
      points = subst (λ ps. (point : BoardingPoint) → Contains ps point → IsPointRidden task earlier c.take_all.new.round c.take_all.new.ends point) (sym after)
          (points_more task earlier c.take_all.new.round c.take_all.new.ends points b on new);
    }

pub returns-clause-step : goal.returns-clause-step
returns-clause-step c = c.loop-boarding.invariant.taken.step

pub returns-clause-ridden : goal.returns-clause-ridden
returns-clause-ridden c =
    let e : c.loop-boarding.boarding-index ≡ length c.args.boardings.now = search rules in
    let all = subst (AreRiddenTo c.args.task.now c.args.earlier.now c.args.boardings.now c.args.round.now c.args.ends.now c.loop-boarding.round c.loop-boarding.ends) e c.loop-boarding.invariant.taken in
    all.ridden
