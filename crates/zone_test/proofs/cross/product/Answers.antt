-- The product is less than 2^119.
use Rattle.std.proofs.Common.{◌≤◌, ◌^◌, ◌*ℤ◌, FitsSigned, arith, ap₂, mul-le-mul, subst, sym, unsigned_abs, ◌∙◌}
use Rattle.std.proofs.lemmas.Int.{fits_signed_from_abs, fits_signed_mul, to_z-of_z, unsigned_abs-mul}
use mir.Syntax.{w128}
use mir.Val.{of_z, to_z}
use Rattle.zone_test.proofs.cross.product.Goals as goal

pub returns-clause-value : goal.returns-clause-value
returns-clause-value c =
    let a = c.args.a.now in
    let b = c.args.b.now in
    let p : unsigned_abs a ≤ 2 ^ 59 = c.requires.a in
    let q : unsigned_abs b ≤ 2 ^ 59 = c.requires.b in
    let fits_a : FitsSigned w128 a = fits_signed_from_abs w128 a (omega arith) in
    let fits_b : FitsSigned w128 b = fits_signed_from_abs w128 b (omega arith) in
    ap₂ (λ x y. to_z w128 (of_z w128 (x *ℤ y))) (to_z-of_z w128 a fits_a) (to_z-of_z w128 b fits_b)
    ∙ to_z-of_z w128 (a *ℤ b) (fits_signed_mul w128 a b (2 ^ 59) (2 ^ 59) p q (omega arith))

pub returns-clause-bound : goal.returns-clause-bound
returns-clause-bound c =
    subst (λ z. unsigned_abs z ≤ 2 ^ 118) (sym (returns-clause-value c))
    (omega (arith, unsigned_abs-mul c.args.a.now c.args.b.now, mul-le-mul c.requires.a c.requires.b))
