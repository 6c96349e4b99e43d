use Rattle.std.proofs.Common.{◌≡◌, ◌↔◌, ℤ, w32, subst, ◌≤ℤ◌, ◌+ℤ◌, pos, Some, arith}
use Rattle.std.proofs.lemmas.Int.{ints, to_z-of_z}
use Rattle.flex_model.specs.ServiceDay.{BeginsAt}
use Rattle.service_days.proofs.TableDays.{moment_from_base}
use Rattle.service_days.proofs.days.moment.Goals as goal

begins_in_err : (c : goal.After-from_residual) → (base : ℤ) → BeginsAt c.args.days.now c.args.day base ↔ (c.begin.result ≡ Some base)
begins_in_err c = subst (λ day. (base : ℤ) → BeginsAt c.args.days.now day base ↔ (c.begin.result ≡ Some base)) (to_z-of_z w32 c.args.day c.ranges.day) c.begin.ensures.begins

begins : (c : goal.After-from) → (base : ℤ) → BeginsAt c.args.days.now c.args.day base ↔ (c.begin.result ≡ Some base)
begins c = subst (λ day. (base : ℤ) → BeginsAt c.args.days.now day base ↔ (c.begin.result ≡ Some base)) (to_z-of_z w32 c.args.day c.ranges.day) c.begin.ensures.begins

pub returns-in_err-begin-clause-moments : goal.returns-in_err-begin-clause-moments
returns-in_err-begin-clause-moments c m = (
  λ p. let none = c.in_err-begin.was in let some = (begins_in_err c p.0).0 p.1 in cc,
  λ e. let none = c.from_residual.ensures in cc,
)

pub returns-clause-moments : goal.returns-clause-moments
returns-clause-moments c =
    let base = c.in_ok-begin.field-0 in
    let low : pos 0 ≤ℤ (base +ℤ pos 100000) = c.in_ok-begin.ensures.low in
    let high : base ≤ℤ pos 10000000000 = c.in_ok-begin.ensures.high in
    moment_from_base c.args.days.now c.args.day c.args.time base _ ((begins c base).1 c.in_ok-begin.was) (omega (arith, ints, c.from.ensures))

pub returns-clause-low : goal.returns-clause-low
returns-clause-low c =
    let low : pos 0 ≤ℤ (c.in_ok-begin.field-0 +ℤ pos 100000) = c.in_ok-begin.ensures.low in
    let high : c.in_ok-begin.field-0 ≤ℤ pos 10000000000 = c.in_ok-begin.ensures.high in
    omega (arith, ints, c.from.ensures)

pub returns-clause-high : goal.returns-clause-high
returns-clause-high c =
    let low : pos 0 ≤ℤ (c.in_ok-begin.field-0 +ℤ pos 100000) = c.in_ok-begin.ensures.low in
    let high : c.in_ok-begin.field-0 ≤ℤ pos 10000000000 = c.in_ok-begin.ensures.high in
    omega (arith, ints, c.from.ensures, c.ranges.time.fits)
