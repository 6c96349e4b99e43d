use Rattle.std.proofs.Common.{◌≡◌, ◌↔◌, ◌+ℤ◌, ◌≤ℤ◌, ℤ, pos, Some, w32, w64, to_z, of_z, sym, ◌∙◌, ap, subst, arith}
use Rattle.std.proofs.lemmas.Int.{ints, to_z-of_z}
use Rattle.std.proofs.lemmas.Option.{none-some}
use Rattle.flex_model.specs.ServiceDay.{IsMoment}
use Rattle.service_days.proofs.TableDays.{moment_fits}
use Rattle.fixed_trips.proofs.Legs.{near_bounds, none_shifted, shift_fits, shifted_fits, shifted_just_there}
use Rattle.fixed_trips.proofs.run.shifted_moment.Goals as goal

pub returns-clause-moments : goal.returns-clause-moments
returns-clause-moments c moment =
    let days = c.args.days.now in
    let by = c.args.by in
    let scheduled = c.in_ok-moment.field-0 in
    let moments = subst (λ day. (m : ℤ) → IsMoment days day c.args.time m ↔ (c.moment.result ≡ Some m)) (to_z-of_z w32 c.args.day c.ranges.day) c.moment.ensures.moments in
    let whole : to_z w64 (of_z w64 scheduled) ≡ scheduled = moment_fits scheduled c.in_ok-moment.ensures.high c.in_ok-moment.ensures.low in
    let full : to_z w64 (of_z w64 by) ≡ by = shift_fits by c.requires.by in
    let sum = to_z w64 (of_z w64 scheduled) +ℤ to_z w64 (of_z w64 by) in
    let low : pos 0 ≤ℤ (scheduled +ℤ pos 100000) = c.in_ok-moment.ensures.low in
    let high : scheduled ≤ℤ pos 20000000000 = c.in_ok-moment.ensures.high in
    let bounds = near_bounds by c.requires.by in
    let is : to_z w64 (of_z w64 sum) ≡ scheduled +ℤ by = shifted_fits sum (omega (arith, ints, bounds.0)) (omega (arith, ints, bounds.1)) ∙ ap (λ z. z +ℤ to_z w64 (of_z w64 by)) whole ∙ ap (λ z. scheduled +ℤ z) full in
    shifted_just_there days c.args.day by c.args.time scheduled (to_z w64 (of_z w64 sum)) ((moments scheduled).1 c.in_ok-moment.was) is moment

pub returns-in_err-moment-clause-moments : goal.returns-in_err-moment-clause-moments
returns-in_err-moment-clause-moments c moment =
    let days = c.args.days.now in
    let moments = subst (λ day. (m : ℤ) → IsMoment days day c.args.time m ↔ (c.moment.result ≡ Some m)) (to_z-of_z w32 c.args.day c.ranges.day) c.moment.ensures.moments in (
      λ p. absurd (none_shifted days c.args.day c.args.by c.args.time c.moment.result c.in_err-moment.was moments moment p),
      λ e. absurd (none-some moment (sym c.from_residual.ensures ∙ e)),
    )
