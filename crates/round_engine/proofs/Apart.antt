-- Bags by number of transfers stay apart.
use Rattle.std.proofs.Common.{◌≡◌, inl, inr, Bool, true, false, ℕ, zero, suc, ◌+◌, ◌<◌, ◌≤◌, List, [], ◌∷◌, ◌++◌, Contains, length, refl, subst, arith}
use Rattle.std.proofs.lemmas.Bool.{cases_order}
use Rattle.flex_model.specs.declared.answer.Pair.{Pair}
use Rattle.flex_model.specs.Triple.{CoversPair}
use Rattle.round_engine.specs.Bags.{AreApartBags, Entry, IsKept, IsKeptByAny, IsOffer, bag_at}

-- a bag with an entry is one of the list
pub in_range : (bags : List (List Entry)) (i : ℕ) (x : Entry) → Contains (bag_at bags i) x → i < length bags
in_range [] i x c = (let lt = c.1 in absurd (omega arith))
in_range (bag ∷ bags) zero x c = omega arith
in_range (bag ∷ bags) (suc i) x c = (let lt = in_range bags i x c in omega arith)

-- an empty bag more holds nothing
pub in_more : (bags : List (List Entry)) (i : ℕ) (x : Entry) → Contains (bag_at (bags ++ [] ∷ []) i) x → Contains (bag_at bags i) x
in_more [] zero x c = c
in_more [] (suc i) x c = c
in_more (bag ∷ bags) zero x c = c
in_more (bag ∷ bags) (suc i) x c = in_more bags i x c

pub in_fewer : (bags : List (List Entry)) (i : ℕ) (x : Entry) → Contains (bag_at bags i) x → Contains (bag_at (bags ++ [] ∷ []) i) x
in_fewer [] i x c = (let lt = c.1 in absurd (omega arith))
in_fewer (bag ∷ bags) zero x c = c
in_fewer (bag ∷ bags) (suc i) x c = in_fewer bags i x c

pub apart_open : (bags : List (List Entry)) → AreApartBags bags → AreApartBags (bags ++ [] ∷ [])
apart_open bags apart t later a b lt ca cb covers = apart t later a b lt (in_more bags t a ca) (in_more bags later b cb) covers

pub apart_none : AreApartBags []
apart_none t later a b lt ca cb covers = (let within = ca.1 in absurd (omega arith))

pub same_offer : (at : ℕ) (entry : Entry) (bags : List (List Entry)) → IsOffer at entry bags bags
same_offer at entry bags = record { grows = record { count = refl; kept = λ i pair kept. kept }; came = λ i other c. inl c }

-- an offer to the last bag that no bag keeps leaves them apart
pub apart_offer : (old new : List (List Entry)) (at : ℕ) (entry : Entry) → AreApartBags old → IsOffer at entry old new → at + 1 ≡ length old
    → (IsKeptByAny old entry.0 → ⊥) → AreApartBags new
apart_offer old new at entry apart offer last not t later a b lt ca cb covers = elim (offer.came t a ca) [
  | inr is ↦ (let within = in_range new later b cb in let e = is.0 in let same = offer.grows.count in absurd (omega arith))
  | inl before ↦ elim (offer.came later b cb) [
    | inl behind ↦ apart t later a b lt before behind covers
    | inr is ↦ not (t, record { entry = a; among = before; covers = subst (λ x. CoversPair a.0 x.0) is.1 covers })
  ]
]

-- how far the bags were asked
pub asked_all : (bags : List (List Entry)) (pair : Pair) (n : ℕ) → ((j : ℕ) → j < n → IsKept (bag_at bags j) pair → ⊥) → length bags ≤ n
    → IsKeptByAny bags pair → ⊥
asked_all bags pair n none le kept =
    let k = kept.1 in
    let lt = in_range bags kept.0 k.entry k.among in
    none kept.0 (omega arith) k

pub asked_more : (bags : List (List Entry)) (pair : Pair) (n : ℕ) → ((j : ℕ) → j < n → IsKept (bag_at bags j) pair → ⊥)
    → (IsKept (bag_at bags n) pair → ⊥) → (j : ℕ) → j < n + 1 → IsKept (bag_at bags j) pair → ⊥
asked_more bags pair n none not j lt kept = elim (cases_order j n) [
  | inl e ↦ not (subst (λ m. IsKept (bag_at bags m) pair) e kept)
  | inr (inl less) ↦ none j less kept
  | inr (inr more) ↦ absurd (omega arith)
]

pub not_both : (b : Bool) → b ≡ true → b ≡ false → ⊥
not_both b p q = cc
