-- Orders and covering of pairs, as tests.
use Rattle.std.proofs.Common.{◌≡◌, inl, inr, ◌↔◌, Bool, true, false, IsTrue, ◌≤ℤ◌, refl, sym, arith}
use Rattle.std.proofs.lemmas.Int.{ints}
use Rattle.flex_model.specs.declared.answer.Pair.{Pair}
use Rattle.flex_model.specs.Triple.{CoversPair, IsPairBefore}
use Rattle.flex_model.proofs.Decisions.{decide_covers_pair}
use Rattle.flex_model.proofs.Orders.{IsPairBefore_irreflexive, IsPairBefore_trans, pairs_compared}

both : true ≡ false → ⊥
both e = cc

abbrev pub to_bool : {P : Type 0} → Dec P → Bool
to_bool (yes p) = true
to_bool (no n) = false

pub true_of : {P : Type 0} (d : Dec P) → P → to_bool d ≡ true
true_of (yes p) q = refl
true_of (no n) q = absurd (n q)

pub of_true : {P : Type 0} (d : Dec P) → to_bool d ≡ true → P
of_true (yes p) e = p
of_true (no n) e = absurd (both (sym e))

-- a test that holds just where the fact does
pub same_test : {P : Type 0} (d : Dec P) (b : Bool) → IsTrue b ↔ P → b ≡ to_bool d
same_test (yes p) true h = refl
same_test (yes p) false h = h.1 p
same_test (no n) true h = absurd (n (h.0 refl))
same_test (no n) false h = refl

-- of two pairs that agree in arrival and walk none stands before the other
not_same : (a b : Pair) → a.arrival ≡ b.arrival → a.walk ≡ b.walk → IsPairBefore a b → ⊥
not_same a b e f (inl lt) = omega (arith, ints)
not_same a b e f (inr h) = let lt = h.1 in omega arith

pub decide_before : (a b : Pair) → Dec (IsPairBefore a b)
decide_before a b = elim (pairs_compared a b) [
  | inl before ↦ yes before
  | inr (inl same) ↦ no (not_same a b same.0 same.1)
  | inr (inr after) ↦ no (λ before. IsPairBefore_irreflexive a (IsPairBefore_trans a b a before after))
]

pub decide_uncovered : (a b : Pair) → Dec (CoversPair a b → ⊥)
decide_uncovered a b = elim (decide_covers_pair a b) [ yes covers ↦ no (λ never. never covers) | no never ↦ yes never ]

-- what stands before a pair arrives no later
pub no_later : (a b : Pair) → IsPairBefore a b → a.arrival ≤ℤ b.arrival
no_later a b (inl lt) = omega (arith, ints)
no_later a b (inr h) = let e = h.0 in omega (arith, ints)

-- a pair doesn't cover one that stands before it
pub covers_none_before : (a b : Pair) → IsPairBefore a b → CoversPair b a → ⊥
covers_none_before a b (inl lt) covers = let le = covers.arrival in omega (arith, ints)
covers_none_before a b (inr h) covers = let lt = h.1 in let le = covers.walk in omega arith
