-- The tests of the rides and then of the end, in their order.
use Rattle.std.proofs.Common.{◌+◌, ◌-◌, ◌*◌, ◌<◌, ◌≤◌, ◌+ℤ◌, ◌≤ℤ◌, pos, Err, get_or, length, refl, sym, ◌∙◌, ap, subst, to_z, of_z, w64, arith}
use Rattle.std.proofs.lemmas.Bool.Decides.{nat_tests}
use Rattle.std.proofs.lemmas.Int.{ints}
use Rattle.std.proofs.lemmas.Option.{none-some, same_Some, slice_get-get_or}
use Rattle.std.proofs.lemmas.Result.{err_from_is_err_and}
use Rattle.flex_model.specs.declared.answer.Triple.{Triple}
use Rattle.flex_model.specs.declared.flaw.JourneyFlaw.TheVariants.{NoEgress, TooLate}
use Rattle.flex_model.specs.Flaw.{IsFirstJourneyFlaw}
use Rattle.flex_model.specs.Journey.{IsLast, limit}
use Rattle.journey_judge.proofs.JourneyTests.{by_then, no_ride, not_by}
use Rattle.journey_judge.proofs.JudgedJourneys.{flaw_is_first, flaw_is_no_triple, triple_is_attained, triple_is_no_flaw}
use Rattle.journey_judge.proofs.ShortWalks.{counted_egress_short}
use Rattle.journey_judge.proofs.journey.judge_journey.Goals as goal

-- a ride fails

pub returns-in_err-tally-clause-ok : goal.returns-in_err-tally-clause-ok
returns-in_err-tally-clause-ok c =
    let p = err_from_is_err_and c.from_residual.result c.from_residual.ensures.1 in
    flaw_is_no_triple c.args.feed.now c.args.times.now c.args.days.now c.args.query.now c.args.rides.now c.from_residual.result p.0 p.1
    (subst (IsFirstJourneyFlaw c.args.feed.now c.args.times.now c.args.days.now c.args.query.now c.args.rides.now) (sym p.2) c.in_err-tally.ensures)

pub returns-in_err-tally-clause-flaw : goal.returns-in_err-tally-clause-flaw
returns-in_err-tally-clause-flaw c =
    let p = err_from_is_err_and c.from_residual.result c.from_residual.ensures.1 in
    flaw_is_first c.args.feed.now c.args.times.now c.args.days.now c.args.query.now c.args.rides.now c.from_residual.result p.0 p.1
    (subst (IsFirstJourneyFlaw c.args.feed.now c.args.times.now c.args.days.now c.args.query.now c.args.rides.now) (sym p.2) c.in_err-tally.ensures)

-- there is no egress

no_egress : (c : goal.In_default) → IsFirstJourneyFlaw c.args.feed.now c.args.times.now c.args.days.now c.args.query.now c.args.rides.now NoEgress
no_egress c =
    let rides = c.args.rides.now in
    let last = get_or rides (length rides - 1) no_ride in
    let some : 0 < length rides = grind (arith, nat_tests) in
    let is_last : IsLast rides last = slice_get-get_or rides (length rides - 1) no_ride (omega arith) in
    (last, record { is_last = is_last; all = c.in_ok-tally.ensures.passes }, λ seconds h. none-some seconds (sym c.in_default.is ∙ (c.egress.ensures seconds).0 h))

pub returns-in_default-clause-ok : goal.returns-in_default-clause-ok
returns-in_default-clause-ok c = flaw_is_no_triple c.args.feed.now c.args.times.now c.args.days.now c.args.query.now c.args.rides.now (Err NoEgress) NoEgress refl (no_egress c)

pub returns-in_default-clause-flaw : goal.returns-in_default-clause-flaw
returns-in_default-clause-flaw c = flaw_is_first c.args.feed.now c.args.times.now c.args.days.now c.args.query.now c.args.rides.now (Err NoEgress) NoEgress refl (no_egress c)

-- it is too late

too_late : (c : goal.In_default-after) → IsFirstJourneyFlaw c.args.feed.now c.args.times.now c.args.days.now c.args.query.now c.args.rides.now TooLate
too_late c =
    let rides = c.args.rides.now in
    let last = get_or rides (length rides - 1) no_ride in
    let some : 0 < length rides = grind (arith, nat_tests) in
    let is_last : IsLast rides last = slice_get-get_or rides (length rides - 1) no_ride (omega arith) in
    let seconds = c.in-Some.seconds in
    let egress = (c.egress.ensures seconds).1 c.in-Some.is in (
      last,
      seconds,
      record { is_last = is_last; all = c.in_ok-tally.ensures.passes },
      egress,
      λ ends.
          let same = same_Some seconds ends.0 (sym c.in-Some.is ∙ (c.egress.ensures ends.0).0 ends.1) in
          let by : (last.arrives +ℤ pos ends.0) ≤ℤ limit c.args.query.now = ends.2 in
          not_by _ _ c.after.result c.after.ensures c.in_default-after.is (omega (arith, ints, c.latest.ensures, same)),
    )

pub returns-in_default-after-clause-ok : goal.returns-in_default-after-clause-ok
returns-in_default-after-clause-ok c = flaw_is_no_triple c.args.feed.now c.args.times.now c.args.days.now c.args.query.now c.args.rides.now (Err TooLate) TooLate refl (too_late c)

pub returns-in_default-after-clause-flaw : goal.returns-in_default-after-clause-flaw
returns-in_default-after-clause-flaw c = flaw_is_first c.args.feed.now c.args.times.now c.args.days.now c.args.query.now c.args.rides.now (Err TooLate) TooLate refl (too_late c)

-- all is well

pub overflow_add-result : goal.overflow_add-result
overflow_add-result c =
    let egress = (c.egress.ensures c.in-Some.seconds).1 c.in-Some.is in
    let last = get_or c.args.rides.now (length c.args.rides.now - 1) no_ride in
    let short = counted_egress_short c.args.feed.now c.args.times.now c.args.query.now last.alight c.in-Some.seconds c.requires.times egress in
    let before : c.in_ok-tally.tally.walk ≤ 86400 * length c.args.rides.now = c.in_ok-tally.ensures.short in
    omega (arith, c.counted.ensures)

pub returns-clause-ok : goal.returns-clause-ok
returns-clause-ok c =
    let rides = c.args.rides.now in
    let tally = c.in_ok-tally.tally in
    let last = get_or rides (length rides - 1) no_ride in
    let some : 0 < length rides = grind (arith, nat_tests) in
    let is_last : IsLast rides last = slice_get-get_or rides (length rides - 1) no_ride (omega arith) in
    let egress = (c.egress.ensures c.in-Some.seconds).1 c.in-Some.is in
    let then = by_then _ _ c.after.result c.after.ensures c.in-Some-after.arrival c.in-Some-after.is in
    let triple : Triple = record {
      deadline = tally.deadline;
      arrival = to_z w64 (of_z w64 c.in-Some-after.arrival);
      transfers = length rides - 1;
      walk = tally.walk + c.counted.result;
    } in
    triple_is_attained c.args.feed.now c.args.times.now c.args.days.now c.args.query.now rides last c.in-Some.seconds some c.in_ok-tally.ensures.passes is_last egress
    (λ s h. sym (same_Some c.in-Some.seconds s (sym c.in-Some.is ∙ (c.egress.ensures s).0 h))) tally c.in_ok-tally.ensures
    triple (omega (arith, ints, then.0)) (omega (arith, ints, then.0, then.1, c.latest.ensures)) refl (omega arith) (ap (λ w. tally.walk + w) c.counted.ensures)

pub returns-clause-flaw : goal.returns-clause-flaw
returns-clause-flaw c =
    let rides = c.args.rides.now in
    let tally = c.in_ok-tally.tally in
    let last = get_or rides (length rides - 1) no_ride in
    let some : 0 < length rides = grind (arith, nat_tests) in
    let is_last : IsLast rides last = slice_get-get_or rides (length rides - 1) no_ride (omega arith) in
    let egress = (c.egress.ensures c.in-Some.seconds).1 c.in-Some.is in
    let then = by_then _ _ c.after.result c.after.ensures c.in-Some-after.arrival c.in-Some-after.is in
    let triple : Triple = record {
      deadline = tally.deadline;
      arrival = to_z w64 (of_z w64 c.in-Some-after.arrival);
      transfers = length rides - 1;
      walk = tally.walk + c.counted.result;
    } in
    triple_is_no_flaw c.args.feed.now c.args.times.now c.args.days.now c.args.query.now rides last c.in-Some.seconds some c.in_ok-tally.ensures.passes is_last egress
    (λ s h. sym (same_Some c.in-Some.seconds s (sym c.in-Some.is ∙ (c.egress.ensures s).0 h))) tally c.in_ok-tally.ensures
    triple (omega (arith, ints, then.0)) (omega (arith, ints, then.0, then.1, c.latest.ensures)) refl (omega arith) (ap (λ w. tally.walk + w) c.counted.ensures)
