-- Permutations: of values under a function, and of lists in which the order of two items makes no difference.
use Rattle.std.proofs.Common.{◌≡◌, ◌≢◌, ℕ, ◌<◌, List, [], ◌∷◌, AllPairs, map, length, get_or, refl, sym, ◌∙◌, ap, subst, arith, ◌⊎◌, inl, inr}
use Rattle.std.specs.List.{swap}
use Rattle.std.specs.List.Sorted.{IsPermutation, SwapsInRange, apply_swaps}
use Rattle.std.proofs.Math.ListN.{set}
use Rattle.std.proofs.Math.ListN as Raw
use Rattle.std.proofs.lemmas.Bool.{cases_eq, cases_order}
use Rattle.std.proofs.lemmas.List.{length-map, map-set}
use Rattle.std.proofs.lemmas.List.Edits.{length-swap, swapped_from_swap}
use Rattle.std.proofs.lemmas.List.Sorted.{IsPermutation-keeps}

module _ {X Y : Type 0} (f : X → Y) where
  map-swap : (xs : List X) (i j : ℕ) → map f (swap xs i j) ≡ swap (map f xs) i j
  map-swap [] i j = refl
  map-swap (d ∷ ys) i j =
      map-set f (set (d ∷ ys) i (get_or (d ∷ ys) j d)) j (get_or (d ∷ ys) i d)
      ∙ ap (λ l. set l j (f (get_or (d ∷ ys) i d))) (map-set f (d ∷ ys) i (get_or (d ∷ ys) j d))
      ∙ ap (λ y. set (set (map f (d ∷ ys)) i y) j (f (get_or (d ∷ ys) i d))) (sym (Raw.get_or-map f (d ∷ ys) j d))
      ∙ ap (λ y. set (set (map f (d ∷ ys)) i (get_or (map f (d ∷ ys)) j (f d))) j y) (sym (Raw.get_or-map f (d ∷ ys) i d))

  map-apply_swaps : (xs : List X) (moves : List (ℕ × ℕ)) → map f (apply_swaps xs moves) ≡ apply_swaps (map f xs) moves
  map-apply_swaps xs [] = refl
  map-apply_swaps xs (m ∷ moves) = map-swap (apply_swaps xs moves) m.0 m.1 ∙ ap (λ l. swap l m.0 m.1) (map-apply_swaps xs moves)

  -- values in another order are those of items in another order
  pub record IsOrderOf (xs : List X) (ys : List Y) : Type 0 where
    pub items : List X
    pub moved : IsPermutation xs items
    pub values : map f items ≡ ys

  pub items_of : (xs : List X) (ys : List Y) → IsPermutation (map f xs) ys → IsOrderOf xs ys
  items_of xs ys p = record {
    items = apply_swaps xs p.moves;
    moved = record { moves = p.moves; below = subst (λ n. SwapsInRange n p.moves) (length-map xs f) p.below; is = refl };
    values = map-apply_swaps xs p.moves ∙ sym p.is;
  }

module _ {X : Type 0} (R : X → X → Type 0) (symmetric : (x y : X) → R x y → R y x) where
  -- what holds of each two items holds in either order
  either : (l : List X) → AllPairs R l → (i j : ℕ) (d : X) → i ≢ j → i < length l → j < length l → R (get_or l i d) (get_or l j d)
  either l all i j d differ low low' = elim (cases_order i j) [
    | inl same ↦ absurd (differ same)
    | inr (inl lt) ↦ all i j d lt low'
    | inr (inr lt) ↦ symmetric (get_or l j d) (get_or l i d) (all j i d lt low)
  ]

  -- where an item stood before a swap
  record StoodAt (l : List X) (a b i : ℕ) (d : X) : Type 0 where
    at : ℕ
    low : at < length l
    is : get_or (swap l a b) i d ≡ get_or l at d
    way : ((i ≡ a) × (at ≡ b)) ⊎ (((i ≢ a) × (i ≡ b) × (at ≡ a)) ⊎ ((i ≢ a) × (i ≢ b) × (at ≡ i)))

  stood : (l : List X) (a b i : ℕ) (d : X) → a < length l → b < length l → i < length l → StoodAt l a b i d
  stood l a b i d low_a low_b low =
      let s = swapped_from_swap l (swap l a b) a b d low_a low_b refl in
      elim (cases_eq i a) [
        | inl e ↦ record { at = b; low = low_b; is = ap (λ n. get_or (swap l a b) n d) e ∙ s.0; way = inl (e, refl) }
        | inr ne ↦ elim (cases_eq i b) [
          | inl e ↦ record { at = a; low = low_a; is = ap (λ n. get_or (swap l a b) n d) e ∙ s.1; way = inr (inl (ne, e, refl)) }
          | inr ne' ↦ record { at = i; low = low; is = s.2 i ne ne'; way = inr (inr (ne, ne', refl)) }
        ]
      ]

  apart : (a b i j x y : ℕ) → i < j → ((i ≡ a) × (x ≡ b)) ⊎ (((i ≢ a) × (i ≡ b) × (x ≡ a)) ⊎ ((i ≢ a) × (i ≢ b) × (x ≡ i)))
      → ((j ≡ a) × (y ≡ b)) ⊎ (((j ≢ a) × (j ≡ b) × (y ≡ a)) ⊎ ((j ≢ a) × (j ≢ b) × (y ≡ j))) → x ≢ y
  apart a b i j x y lt (inl p) (inl q) e = omega arith
  apart a b i j x y lt (inl p) (inr (inl q)) e = omega arith
  apart a b i j x y lt (inl p) (inr (inr q)) e = omega arith
  apart a b i j x y lt (inr (inl p)) (inl q) e = omega arith
  apart a b i j x y lt (inr (inl p)) (inr (inl q)) e = omega arith
  apart a b i j x y lt (inr (inl p)) (inr (inr q)) e = omega arith
  apart a b i j x y lt (inr (inr p)) (inl q) e = omega arith
  apart a b i j x y lt (inr (inr p)) (inr (inl q)) e = omega arith
  apart a b i j x y lt (inr (inr p)) (inr (inr q)) e = omega arith

  swapped : (l : List X) (a b : ℕ) → a < length l → b < length l → AllPairs R l → AllPairs R (swap l a b)
  swapped l a b low_a low_b all i j d lt low =
      let size = length-swap l a b in
      let s = stood l a b i d low_a low_b (omega (arith, size)) in
      let t = stood l a b j d low_a low_b (omega (arith, size)) in
      subst (λ x. R x (get_or (swap l a b) j d)) (sym s.is)
      (subst (R (get_or l s.at d)) (sym t.is) (either l all s.at t.at d (apart a b i j s.at t.at lt s.way t.way) s.low t.low))

  pub AllPairs-permutation : (xs ys : List X) → IsPermutation xs ys → AllPairs R xs → AllPairs R ys
  AllPairs-permutation xs ys p all = IsPermutation-keeps xs (AllPairs R) all (λ l a b low_a low_b h. swapped l a b low_a low_b h) ys p
