-- A time without seconds is a whole number of minutes.
use Rattle.std.proofs.Common.{◌≡◌, ◌*◌, ◌/◌, ◌%◌, arith}
use Rattle.std.proofs.lemmas.Bool.Decides.{nat_tests}
use Rattle.journey_judge.proofs.windows.is_minute_of.Goals as goal

pub returns : goal.returns
returns c = (
  λ t.
      let whole : c.args.time % 60 ≡ 0 = grind (arith, nat_tests) in
      (c.args.time / 60, omega arith, omega arith, omega arith),
  λ h.
      let e : c.args.time ≡ 60 * h.0 = h.3 in
      let whole : c.args.time % 60 ≡ 0 = omega arith in
      grind (arith, nat_tests),
)
