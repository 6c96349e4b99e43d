-- With a notice in days the booking closes at a time of an earlier day, or at the departure.
use Rattle.std.proofs.Common.{◌≡◌, ◌↔◌, ◌≤◌, ◌≤ℤ◌, ◌+ℤ◌, ◌-ℤ◌, ◌*ℤ◌, ℤ, pos, Some, w32, w64, to_z, of_z, sym, ◌∙◌, ap, subst, arith}
use Rattle.std.proofs.lemmas.Int.{clamps, ints, to_z-of_z}
use Rattle.std.specs.Int.{int_min}
use Rattle.std.specs.Option.{option_map}
use Rattle.flex_model.specs.declared.booking.Notice.TheVariants.{Days}
use Rattle.flex_model.specs.Booking.{Closes}
use Rattle.flex_model.specs.SoundFeed.{IsSoundNotice}
use Rattle.booking_rules.specs.Openings.{IsMomentBack}
use Rattle.booking_rules.proofs.Fitting.{moment_fits}
use Rattle.booking_rules.proofs.RuleTimes.{days_close, minutes_close}
use Rattle.booking_rules.proofs.closings.closing_of.Goals as goal

pub returns-in-Ahead-clause-closings : goal.returns-in-Ahead-clause-closings
returns-in-Ahead-clause-closings c closing =
    let rule = c.in-Ahead in
    let departs = c.args.departs in
    let sound = subst (IsSoundNotice c.args.feed.now) rule.is c.requires.notice in
    let few : rule.least ≤ 1000000 = sound.0 in
    let from : pos 0 ≤ℤ departs = c.requires.departs.low in
    let to : departs ≤ℤ pos 10000000000 = c.requires.departs.high in
    let at = to_z w64 (of_z w64 (to_z w64 (of_z w64 departs) -ℤ to_z w64 (of_z w64 (pos 60 *ℤ to_z w64 (of_z w64 c.from.result))))) in
    subst (λ notice. Closes c.args.feed.now c.args.days.now notice c.args.day departs closing ↔ (Some at ≡ Some closing)) (sym rule.is)
    (minutes_close c.args.feed.now c.args.days.now c.args.day departs rule.least rule.opens at (omega (arith, ints, c.from.ensures)) closing)

pub returns-in_err-latest-in-Days-clause-closings : goal.returns-in_err-latest-in-Days-clause-closings
returns-in_err-latest-in-Days-clause-closings c closing =
    let feed = c.args.feed.now in
    let days = c.args.days.now in
    let rule = c.in-Days in
    let moments = subst (λ day. (m : ℤ) → IsMomentBack feed days rule.service day rule.last m ↔ (c.moment_back.result ≡ Some m)) (to_z-of_z w32 c.args.day c.ranges.day) c.moment_back.ensures.moments in
    let none = ap (option_map (λ m. int_min c.args.departs m)) c.in_err-latest-in-Days.was ∙ sym c.from_residual.ensures in
    subst (λ notice. Closes feed days notice c.args.day c.args.departs closing ↔ (c.from_residual.result ≡ Some closing)) (sym rule.is)
    (subst (λ r. Closes feed days (Days rule.last rule.first rule.service) c.args.day c.args.departs closing ↔ (r ≡ Some closing)) none
    (days_close feed days c.args.day c.args.departs rule.last rule.first rule.service c.moment_back.result moments closing))

pub returns-in_ok-latest-in-Days-clause-closings : goal.returns-in_ok-latest-in-Days-clause-closings
returns-in_ok-latest-in-Days-clause-closings c closing =
    let feed = c.args.feed.now in
    let days = c.args.days.now in
    let rule = c.in-Days in
    let latest = c.in_ok-latest-in-Days.latest in
    let departs = c.args.departs in
    let moments = subst (λ day. (m : ℤ) → IsMomentBack feed days rule.service day rule.last m ↔ (c.moment_back.result ≡ Some m)) (to_z-of_z w32 c.args.day c.ranges.day) c.moment_back.ensures.moments in
    let low : pos 0 ≤ℤ (latest +ℤ pos 100000) = c.in_ok-latest-in-Days.ensures.low in
    let high : latest ≤ℤ pos 20000000000 = c.in_ok-latest-in-Days.ensures.high in
    let from : pos 0 ≤ℤ departs = c.requires.departs.low in
    let to : departs ≤ℤ pos 10000000000 = c.requires.departs.high in
    let lesser : c.min.result ≡ int_min departs latest =
    subst (λ z. c.min.result ≡ int_min z latest) (to_z-of_z w64 departs c.ranges.departs)
    (subst (λ z. c.min.result ≡ int_min (to_z w64 (of_z w64 departs)) z) (moment_fits latest (omega (arith, ints)) high) c.min.ensures.value) in
    let fits : to_z w64 (of_z w64 c.min.result) ≡ c.min.result = moment_fits c.min.result (omega (arith, ints, clamps)) (omega (arith, ints, clamps)) in
    let some = ap (option_map (λ m. int_min departs m)) c.in_ok-latest-in-Days.was ∙ ap Some (sym (fits ∙ lesser)) in
    subst (λ notice. Closes feed days notice c.args.day departs closing ↔ (Some (to_z w64 (of_z w64 c.min.result)) ≡ Some closing)) (sym rule.is)
    (subst (λ r. Closes feed days (Days rule.last rule.first rule.service) c.args.day departs closing ↔ (r ≡ Some closing)) some
    (days_close feed days c.args.day departs rule.last rule.first rule.service c.moment_back.result moments closing))
