-- Moments and deadlines of the rides of a run can be held by the code's numbers.
use Rattle.std.proofs.Common.{◌≡◌, inl, inr, ℕ, ℤ, pos, ◌+ℤ◌, ◌≤ℤ◌, refl, ◌∙◌, ap, subst, arith}
use Rattle.std.proofs.lemmas.Int.{ints}
use Rattle.std.proofs.lemmas.Int.{by_lt_z}
use Rattle.flex_model.specs.declared.moment.Deadline.{Deadline}
use Rattle.flex_model.specs.declared.moment.Deadline.TheVariants.{At, Never}
use Rattle.flex_model.specs.Deadline.{IsNoLater, lesser}
use Rattle.flex_model.proofs.Orders.{lesser_is, lesser_right}
use Rattle.booking_rules.specs.Departures.{later}
use Rattle.cert_check.specs.Modest.{IsModestDeadline}

-- where the latest deadline is no later than the first, it is that of each ride
pub late : (closes latest : Deadline) (n : ℕ) → IsNoLater latest closes → lesser (later closes n) latest ≡ latest
late Never latest n le = refl
late (At a) Never n le = absurd le
late (At a) (At b) n le = elim (lesser_is (At (a +ℤ pos n)) (At b)) [
  | inl e ↦ (
      let low : IsNoLater (lesser (At (a +ℤ pos n)) (At b)) (At b) = lesser_right (At (a +ℤ pos n)) (At b) in
      let low' : (a +ℤ pos n) ≤ℤ b = subst (λ d. IsNoLater d (At b)) e low in
      let same : (a +ℤ pos n) ≡ b = omega (arith, ints) in
      e ∙ ap At same)
  | inr e ↦ e
]

-- where it is later than the first, the first one can be held
pub first_low : (first : ℤ) (latest : Deadline) (n : ℕ) → (IsNoLater latest (At first) → ⊥)
    → IsModestDeadline (lesser (later (At first) n) latest) → first ≤ℤ pos 30000000000
first_low first Never n not modest = (let low : (first +ℤ pos n) ≤ℤ pos 30000000000 = modest (first +ℤ pos n) refl in omega (arith, ints))
first_low first (At b) n not modest = elim (lesser_is (At (first +ℤ pos n)) (At b)) [
  | inl e ↦ (let low : (first +ℤ pos n) ≤ℤ pos 30000000000 = modest (first +ℤ pos n) e in omega (arith, ints))
  | inr e ↦ (let low : b ≤ℤ pos 30000000000 = modest b e in by_lt_z first b (λ lt. omega (arith, ints)) (λ le. absurd (not le)))
]
