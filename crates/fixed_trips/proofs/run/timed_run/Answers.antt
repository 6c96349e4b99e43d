-- The two moments are those of the records' times.
use Rattle.std.proofs.Common.{w32, sym, ◌∙◌, subst}
use Rattle.std.proofs.lemmas.Int.{to_z-of_z}
use Rattle.std.proofs.lemmas.Option.{none-some}
use Rattle.flex_model.specs.Ride.{IsShiftedMoment}
use Rattle.flex_model.specs.Run.{IsInRuns}
use Rattle.fixed_trips.proofs.Legs.{in_numbers, one_ride, shift_fits, shifted_fits, timing_parts}
use Rattle.fixed_trips.proofs.run.timed_run.Goals as goal

pub returns-in_err-first-clause-rides : goal.returns-in_err-first-clause-rides
returns-in_err-first-clause-rides c times leg departs arrives same =
    let days = c.args.days.now in
    let by = c.args.by in
    let moments = in_numbers days leg.day c.args.day by c.in-Times.departs c.shifted_moment.result same (to_z-of_z w32 c.args.day c.ranges.day) (shift_fits by c.requires.by) c.shifted_moment.ensures.moments in
    let parts = timing_parts times days leg by c.args.boarding c.args.alighting _ c.in-Times.departs c.in-Times-alighting.arrives _ departs arrives c.in-Times.is c.in-Times-alighting.is in (
      λ h. absurd (subst (λ run. IsInRuns run departs arrives) c.from_residual.ensures h),
      λ h. absurd (none-some departs (sym c.in_err-first.was ∙ (moments departs).0 (parts.0 h).0)),
    )

pub returns-in_err-last-clause-rides : goal.returns-in_err-last-clause-rides
returns-in_err-last-clause-rides c times leg departs arrives same =
    let days = c.args.days.now in
    let by = c.args.by in
    let moments = in_numbers days leg.day c.args.day by c.in-Times-alighting.arrives c.shifted_moment-2.result same (to_z-of_z w32 c.args.day c.ranges.day) (shift_fits by c.requires.by) c.shifted_moment-2.ensures.moments in
    let parts = timing_parts times days leg by c.args.boarding c.args.alighting _ c.in-Times.departs c.in-Times-alighting.arrives _ departs arrives c.in-Times.is c.in-Times-alighting.is in (
      λ h. absurd (subst (λ run. IsInRuns run departs arrives) c.from_residual-in_err-last.ensures h),
      λ h. absurd (none-some arrives (sym c.in_err-last.was ∙ (moments arrives).0 (parts.0 h).1)),
    )

pub returns-clause-rides : goal.returns-clause-rides
returns-clause-rides c times leg departs arrives same =
    let days = c.args.days.now in
    let by = c.args.by in
    let first = c.in_ok-first.first in
    let last = c.in_ok-last.last in
    let whole = to_z-of_z w32 c.args.day c.ranges.day in
    let full = shift_fits by c.requires.by in
    let firsts = in_numbers days leg.day c.args.day by c.in-Times.departs c.shifted_moment.result same whole full c.shifted_moment.ensures.moments in
    let lasts = in_numbers days leg.day c.args.day by c.in-Times-alighting.arrives c.shifted_moment-2.result same whole full c.shifted_moment-2.ensures.moments in
    let parts = timing_parts times days leg by c.args.boarding c.args.alighting _ c.in-Times.departs c.in-Times-alighting.arrives _ departs arrives c.in-Times.is c.in-Times-alighting.is in
    let ride = one_ride days leg.day by c.in-Times.departs c.in-Times-alighting.arrives _ _ departs arrives
    (subst (IsShiftedMoment days leg.day by c.in-Times.departs) (sym (shifted_fits first c.in_ok-first.ensures.low c.in_ok-first.ensures.high)) ((firsts first).1 c.in_ok-first.was))
    (subst (IsShiftedMoment days leg.day by c.in-Times-alighting.arrives) (sym (shifted_fits last c.in_ok-last.ensures.low c.in_ok-last.ensures.high)) ((lasts last).1 c.in_ok-last.was)) in
    (λ h. parts.1 (ride.0 h), λ h. ride.1 (parts.0 h))
