-- Bounds from south to north, and the slabs of latitudes between them.
use borrow.Author.Differences.{le-false, le-true}
use Rattle.std.proofs.Common.{◌≡◌, inl, inr, ℕ, zero, suc, ◌-◌, ◌<◌, ◌≤◌, ℤ, ◌≤ℤ◌, int_le, Bool, true, false, cond, List, [], ◌∷◌, ◌++◌, length, get_or, slice_index_or, count_by, refl, sym, ap, subst, arith}
use Rattle.std.specs.List.Sorted.{IsPartitionPoint, IsPartitionedBy}
use Rattle.std.proofs.lemmas.Bool.{cases_lt, cases_order}
use Rattle.std.proofs.lemmas.Int.{ints}
use Rattle.std.proofs.lemmas.List.Quantifiers.{all_pairs_push}
use Rattle.std.proofs.lemmas.List.Sums.{count_by-le-length, sum_by-cons}
use Rattle.zone_test.specs.Slabs.{AreBounds, slab_of}

-- what isn't north of a latitude isn't north of one farther north
pub le_above : (x a b : ℤ) → int_le x a ≡ true → a ≤ℤ b → int_le x b ≡ true
le_above x a b e h = elim (int_le x b) as (λ v. int_le x b ≡ v → v ≡ true) [
  | true ↦ λ f. refl
  | false ↦ λ f. (let over = le-false x b f in let under = le-true x a e in absurd (omega (arith, ints)))
] refl

le_below : (a b n : ℤ) → a ≤ℤ b → int_le b n ≡ true → int_le a n ≡ true
le_below a b n h e = elim (int_le a n) as (λ v. int_le a n ≡ v → v ≡ true) [
  | true ↦ λ f. refl
  | false ↦ λ f. (let over = le-false a n f in let under = le-true b n e in absurd (omega (arith, ints)))
] refl

-- the bounds that aren't north of a latitude stand first
pub bounds_part : (bounds : List ℤ) (lat : ℤ) → AreBounds bounds → IsPartitionedBy (λ bound. int_le bound lat) bounds
bounds_part bounds lat rise i j d le within holds = elim (cases_order i j) [
  | inl same ↦ subst (λ k. int_le (slice_index_or bounds k d) lat ≡ true) (sym same) holds
  | inr (inl less) ↦ le_below (slice_index_or bounds i d) (slice_index_or bounds j d) lat (rise i j d less within) holds
  | inr (inr more) ↦ absurd (omega arith)
]

-- where a test passes just for the first n, n pass it
count_first : (p : ℤ → Bool) (xs : List ℤ) (n : ℕ) → ((k : ℕ) (d : ℤ) → k < n → p (get_or xs k d) ≡ true)
    → ((k : ℕ) (d : ℤ) → n ≤ k → k < length xs → p (get_or xs k d) ≡ false) → n ≤ length xs → n ≡ count_by p xs
count_first p [] n passes fails le = omega arith
count_first p (x ∷ xs) zero passes fails le =
    let rest : 0 ≡ count_by p xs = count_first p xs zero (λ k d lt. absurd (omega arith)) (λ k d from to. fails (suc k) d (omega arith) (omega arith)) (omega arith) in
    let first : cond (p x) 1 0 ≡ 0 = ap {B = ℕ} (λ b. cond b 1 0) (fails 0 x (omega arith) (omega arith)) in
    let both = sum_by-cons (λ y. cond (p y) 1 0) x xs in
    omega (arith, rest, first, both)
count_first p (x ∷ xs) (suc n) passes fails le =
    let rest : n ≡ count_by p xs = count_first p xs n (λ k d lt. passes (suc k) d (omega arith)) (λ k d from to. fails (suc k) d (omega arith) (omega arith)) (omega arith) in
    let first : cond (p x) 1 0 ≡ 1 = ap {B = ℕ} (λ b. cond b 1 0) (passes 0 x (omega arith)) in
    let both = sum_by-cons (λ y. cond (p y) 1 0) x xs in
    omega (arith, rest, first, both)

pub counted : (bounds : List ℤ) (lat : ℤ) (n : ℕ) → n ≤ length bounds
    → IsPartitionPoint (λ bound. int_le bound lat ≡ true) (λ bound. int_le bound lat ≡ false) bounds n → n ≡ slab_of bounds lat
counted bounds lat n within point =
    count_first (λ bound. int_le bound lat) bounds n (λ k d lt. point.0 k d (omega arith) lt) (λ k d from to. point.1 k d from to) within

pub slab_of-le : (bounds : List ℤ) (lat : ℤ) → slab_of bounds lat ≤ length bounds
slab_of-le bounds lat = count_by-le-length (λ bound. int_le bound lat) bounds

one_le : (x a b : ℤ) → a ≤ℤ b → cond (int_le x a) 1 0 ≤ cond (int_le x b) 1 0
one_le x a b h = elim (int_le x a) as (λ v. int_le x a ≡ v → cond v 1 0 ≤ cond (int_le x b) 1 0) [
  | true ↦ λ e. (let one : cond (int_le x b) 1 0 ≡ 1 = ap {B = ℕ} (λ v. cond v 1 0) (le_above x a b e h) in omega (arith, one))
  | false ↦ λ e. omega arith
] refl

-- a slab farther north has a greater number
pub slab_of-mono : (bounds : List ℤ) (a b : ℤ) → a ≤ℤ b → slab_of bounds a ≤ slab_of bounds b
slab_of-mono [] a b h = omega arith
slab_of-mono (x ∷ bounds) a b h =
    let first = sum_by-cons (λ y. cond (int_le y a) 1 0) x bounds in
    let second = sum_by-cons (λ y. cond (int_le y b) 1 0) x bounds in
    omega (arith, first, second, one_le x a b h, slab_of-mono bounds a b h)

-- one bound more, north of the last one
pub bound_added : (bounds : List ℤ) (lat : ℤ) → AreBounds bounds → ((d : ℤ) → 0 < length bounds → get_or bounds (length bounds - 1) d ≤ℤ lat) → AreBounds (bounds ++ lat ∷ [])
bound_added bounds lat rise last = all_pairs_push (λ a b. a ≤ℤ b) bounds lat rise below
  where
    below : (k : ℕ) (d : ℤ) → k < length bounds → get_or bounds k d ≤ℤ lat
    below k d lt = elim (cases_lt k (length bounds - 1)) [
      | inl less ↦ (
          let up : get_or bounds k d ≤ℤ get_or bounds (length bounds - 1) d = rise k (length bounds - 1) d less (omega arith) in
          let end = last d (omega arith) in omega (arith, ints))
      | inr more ↦ (
          let same : length bounds - 1 ≡ k = omega arith in
          subst (λ n. get_or bounds n d ≤ℤ lat) same (last d (omega arith)))
    ]
