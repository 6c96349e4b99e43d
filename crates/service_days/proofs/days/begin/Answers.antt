-- The day begins at the base that stands at its index.
use Rattle.std.proofs.Common.{◌-ℤ◌, pos, to_z, of_z, w64, get_or, subst, sym, ap, arith}
use Rattle.std.proofs.lemmas.Int.{ints}
use Rattle.std.specs.Prelude.{nat_abs}
use Rattle.flex_model.specs.ServiceDay.{BeginsAt}
use Rattle.service_days.proofs.TableDays.{begins_at_base, begins_just_there, begin_bounds, moment_fits}
use Rattle.service_days.proofs.days.begin.Goals as goal

begins : (c : goal.After-result-1) → BeginsAt c.args.days.now c.args.day (to_z w64 (of_z w64 (get_or c.deref.result.now (nat_abs (to_z w64 (of_z w64 (to_z w64 (of_z w64 c.from.result) -ℤ to_z w64 (of_z w64 c.from-2.result))))) (pos 0))))
begins c =
    let z = to_z w64 (of_z w64 (to_z w64 (of_z w64 c.from.result) -ℤ to_z w64 (of_z w64 c.from-2.result))) in
    let base = get_or c.deref.result.now (nat_abs z) (pos 0) in
    let there : BeginsAt c.args.days.now c.args.day base =
    begins_at_base c.args.days.now c.args.day z base c.requires (omega (arith, ints, c.from.ensures, c.from-2.ensures)) (omega (arith, ints, c.if-index-lt0.false))
    (omega (arith, ints, c.if-index.false)) (ap (λ bases. get_or bases (nat_abs z) (pos 0)) c.deref.ensures) in
    let bounds = begin_bounds c.args.days.now c.args.day base c.requires there in
    subst (BeginsAt c.args.days.now c.args.day) (sym (moment_fits base (let high = bounds.0 in omega (arith, ints)) bounds.1)) there

pub returns-clause-begins : goal.returns-clause-begins
returns-clause-begins c = begins_just_there c.args.days.now c.args.day _ (begins c)

pub returns-clause-low : goal.returns-clause-low
returns-clause-low c = let bounds = begin_bounds c.args.days.now c.args.day _ c.requires (begins c) in bounds.1

pub returns-clause-high : goal.returns-clause-high
returns-clause-high c = let bounds = begin_bounds c.args.days.now c.args.day _ c.requires (begins c) in bounds.0
