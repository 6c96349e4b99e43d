-- The departures of the day, where its begin and the direct time were found.
use Rattle.std.proofs.Common.{◌≡◌, ◌↔◌, ◌≤ℤ◌, ◌+ℤ◌, ℤ, ℕ, pos, Option, Some, w32, w64, to_z, of_z, refl, sym, ap, ◌∙◌, subst, arith}
use Rattle.std.proofs.lemmas.Int.{ints, to_z-of_z}
use Rattle.flex_model.specs.declared.moment.DayTable.{DayTable}
use Rattle.flex_model.specs.declared.place.Place.{Place}
use Rattle.flex_model.specs.declared.times.Times.{Times}
use Rattle.flex_model.specs.Run.{IsInRuns}
use Rattle.flex_model.specs.ServiceDay.{BeginsAt}
use Rattle.flex_model.specs.Times.{HasSeconds}
use Rattle.service_days.proofs.TableDays.{moment_fits}
use Rattle.flex_trips.specs.Windows.{arrival_of}
use Rattle.flex_trips.proofs.Timings.{in_run, no_begin, no_direct, timed}
use Rattle.flex_trips.proofs.timing.timed_run.Goals as goal

-- what was looked up of a day and of two places is told of the ride's
of_day : (days : DayTable) (day asked : ℤ) → asked ≡ day → (found : Option ℤ) → ((b : ℤ) → BeginsAt days asked b ↔ (found ≡ Some b)) → (b : ℤ) → BeginsAt days day b ↔ (found ≡ Some b)
of_day days day asked same found begins = subst (λ d. (b : ℤ) → BeginsAt days d b ↔ (found ≡ Some b)) same begins

of_places : (times : Times) (a b board alight : Place) → board ≡ a → alight ≡ b → (found : Option ℕ) → ((s : ℕ) → HasSeconds times.direct a b s ↔ (found ≡ Some s)) → (s : ℕ) → HasSeconds times.direct board alight s ↔ (found ≡ Some s)
of_places times a b board alight e f found takes =
    subst (λ x. (s : ℕ) → HasSeconds times.direct x alight s ↔ (found ≡ Some s)) (sym e)
    (subst (λ y. (s : ℕ) → HasSeconds times.direct a y s ↔ (found ≡ Some s)) (sym f) takes)

pub returns-in_err-base-clause-rides : goal.returns-in_err-base-clause-rides
returns-in_err-base-clause-rides c ride on from to =
    let begins = of_day c.args.days.now ride.day _ (to_z-of_z w32 c.args.day c.ranges.day ∙ sym on) c.begin.result c.begin.ensures.begins in (
      λ h. absurd (subst (λ run. IsInRuns run ride.departs ride.arrives) c.from_residual.ensures h),
      λ h. absurd (no_begin c.args.times.now c.args.days.now ride c.args.boarding c.args.alighting c.begin.result begins c.in_err-base.was h),
    )

pub returns-in_err-seconds-clause-rides : goal.returns-in_err-seconds-clause-rides
returns-in_err-seconds-clause-rides c ride on from to =
    let takes = of_places c.args.times.now c.args.board c.args.alight ride.board ride.alight from to c.direct.result c.direct.ensures in (
      λ h. absurd (subst (λ run. IsInRuns run ride.departs ride.arrives) c.from_residual-in_err-seconds.ensures h),
      λ h. absurd (no_direct c.args.times.now c.args.days.now ride c.direct.result takes c.args.boarding c.args.alighting c.requires.window c.in_err-seconds.was h),
    )

pub returns-in_err-departures-clause-rides : goal.returns-in_err-departures-clause-rides
returns-in_err-departures-clause-rides c ride on from to =
    let base = c.in_ok-base.base in
    let begins = of_day c.args.days.now ride.day _ (to_z-of_z w32 c.args.day c.ranges.day ∙ sym on) c.begin.result c.begin.ensures.begins in
    let takes = of_places c.args.times.now c.args.board c.args.alight ride.board ride.alight from to c.direct.result c.direct.ensures in
    let same = timed c.args.times.now c.args.days.now ride c.direct.result takes base ((begins base).1 c.in_ok-base.was) c.in_ok-seconds.seconds c.in_ok-seconds.was c.args.boarding c.args.alighting c.requires.window in (
      λ h. absurd (subst (λ run. IsInRuns run ride.departs ride.arrives) c.from_residual-in_err-departures.ensures h),
      λ h. let its = same.0 h in absurd ((c.in_err-departures.ensures.each its.0).1 its.1),
    )

pub returns-clause-rides : goal.returns-clause-rides
returns-clause-rides c ride on from to =
    let base = c.in_ok-base.base in
    let seconds = c.in_ok-seconds.seconds in
    let departures = c.in_ok-departures.departures in
    let begins = of_day c.args.days.now ride.day _ (to_z-of_z w32 c.args.day c.ranges.day ∙ sym on) c.begin.result c.begin.ensures.begins in
    let takes = of_places c.args.times.now c.args.board c.args.alight ride.board ride.alight from to c.direct.result c.direct.ensures in
    let same = timed c.args.times.now c.args.days.now ride c.direct.result takes base ((begins base).1 c.in_ok-base.was) seconds c.in_ok-seconds.was c.args.boarding c.args.alighting c.requires.window in
    let low : pos 0 ≤ℤ (base +ℤ pos 100000) = c.in_ok-base.ensures.low in
    let high : base ≤ℤ pos 10000000000 = c.in_ok-base.ensures.high in
    let whole : to_z w64 (of_z w64 base) ≡ base = moment_fits base (omega (arith, ints, high)) low in
    let first : to_z w64 (of_z w64 c.moment_of.result) ≡ base +ℤ pos departures.first = moment_fits c.moment_of.result c.moment_of.ensures.high c.moment_of.ensures.low ∙ c.moment_of.ensures.value ∙ ap (λ b. b +ℤ pos departures.first) whole in
    let arrives : c.arrival.result ≡ arrival_of base seconds c.args.alighting = subst (λ b. c.arrival.result ≡ arrival_of b seconds c.args.alighting) whole c.arrival.ensures in
    let there = in_run base seconds c.args.boarding c.args.alighting ride.departs ride.arrives departures c.in_ok-departures.ensures.each (record { first = to_z w64 (of_z w64 c.moment_of.result); count = departures.count; arrives = c.arrival.result }) first refl arrives in
    (λ h. same.1 (there.0 h), λ h. there.1 (same.0 h))
