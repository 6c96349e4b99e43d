use Rattle.std.proofs.Common.{rules, ◌≡◌, ◌⊎◌, inl, ◌≤ℤ◌, to_z, of_z, refl, sym, subst, arith}
use mir.Syntax.{w64}
use Rattle.std.proofs.lemmas.Int.{ints, to_z-of_z}
use Rattle.flex_model.specs.Answer.{triples}
use Rattle.cert_check.specs.Tasks.{IsCoveredFrom}
use Rattle.cert_check.proofs.HeldRides.{lowered_again}
use Rattle.cert_check.proofs.rides.covered_from.Goals as goal

pub loop-i-init : goal.loop-i-init
loop-i-init c = (omega (arith, ints), inl refl)

pub loop-i-preserved : goal.loop-i-preserved
loop-i-preserved c =
    let limit = to_z w64 (of_z w64 c.args.limit) in
    let lower = c.lowered-latest.result in
    subst (λ m. (m ≤ℤ limit) × ((m ≡ limit) ⊎ IsCoveredFrom (triples c.args.answers.now) c.args.boarded.now m))
    (sym (to_z-of_z w64 lower (search rules)))
    (lowered_again c.args.answers.now c.args.boarded.now limit (to_z w64 c.loop-i.latest-bits) lower c.loop-i.i c.index-answers-i.result
    c.loop-i-test.true c.loop-i.invariant c.lowered-latest.ensures.low c.lowered-latest.ensures.late)
