-- The trips of patterns, in the order of their patterns.
use Rattle.std.proofs.Common.{◌≡◌, ◌↔◌, inl, inr, ℕ, ◌+◌, ◌-◌, ◌<◌, ◌≤◌, true, false, List, [], ◌∷◌, ◌++◌, Option, Some, None, Contains, get_or, length, slice_get, sym, ◌∙◌, ap, subst, arith}
use Rattle.std.specs.Prelude.{IsPermutation, nat_le, nat_lt}
use Rattle.std.specs.List.{between}
use Rattle.std.specs.List.Sorted.{IsPartitionPoint, IsPartitionedBy}
use Rattle.std.proofs.lemmas.Bool.{cases_lt, cases_order, le-leb, leb-false, leb-true, lt-ltb, ltb-false, ltb-true}
use Rattle.std.proofs.lemmas.List.Edits.{get_or-between, length-between}
use Rattle.std.proofs.lemmas.List.Elements.{Contains-append_cases, Contains-append_left, Contains-append_right}
use Rattle.std.proofs.lemmas.List.Sorted.{Contains-permutation, IsPermutation-sym}
use Rattle.std.proofs.lemmas.Option.{none-some, same_Some, slice_get_within}
use Rattle.flex_model.proofs.Found.{Contains-first, only_contained}
use Rattle.fixed_trips.specs.PatternParts.{AreInOrder, HasPatternTrips}
use Rattle.fixed_trips.specs.Patterns.{IsOfPattern}
use Rattle.fixed_trips.specs.declared.pattern_trips.PatternTrip.{PatternTrip}

-- those among the first trips of the feed
abbrev pub HasEarly : List (Option ℕ) → ℕ → List PatternTrip → Type 0
HasEarly patterns n trips = (m : PatternTrip) → Contains trips m ↔ (IsOfPattern patterns m.trip m.pattern × (m.trip < n))

pub none_early : (patterns : List (Option ℕ)) → HasEarly patterns 0 []
none_early patterns m = (λ c. absurd (let lt = c.1 in omega (arith, lt)), λ h. absurd (let lt = h.1 in omega (arith, lt)))

-- a trip without a pattern
pub next_without : (patterns : List (Option ℕ)) (n : ℕ) (trips : List PatternTrip) → slice_get patterns n ≡ Some None → HasEarly patterns n trips → HasEarly patterns (n + 1) trips
next_without patterns n trips is so_far m = (
  λ c. (let h = (so_far m).0 c in let lt = h.1 in (h.0, omega (arith, lt))),
  λ h. elim (cases_order m.trip n) [
    | inl e ↦ absurd (none-some m.pattern (same_Some None (Some m.pattern) (sym is ∙ subst (λ k. slice_get patterns k ≡ Some (Some m.pattern)) e h.0)))
    | inr (inl less) ↦ (so_far m).1 (h.0, less)
    | inr (inr more) ↦ absurd (let lt = h.1 in omega (arith, lt, more))
  ],
)

-- a trip with a pattern
pub next_with : (patterns : List (Option ℕ)) (n p : ℕ) (trips : List PatternTrip) → slice_get patterns n ≡ Some (Some p) → HasEarly patterns n trips
    → HasEarly patterns (n + 1) (trips ++ record { pattern = p; trip = n } ∷ [])
next_with patterns n p trips is so_far m =
    let one : PatternTrip = record { pattern = p; trip = n } in (
      λ c. elim (Contains-append_cases trips (one ∷ []) m c) [
        | inl old ↦ (let h = (so_far m).0 old in let lt = h.1 in (h.0, omega (arith, lt)))
        | inr new ↦ (
            let e : m ≡ one = only_contained one m new in
            let t : m.trip ≡ n = ap (λ x. x.trip) e in
            (subst (λ x. IsOfPattern patterns x.trip x.pattern) (sym e) is, omega (arith, t)))
      ],
      λ h. elim (cases_order m.trip n) [
        | inl e ↦ (
            let q : m.pattern ≡ p = same_Some m.pattern p (same_Some (Some m.pattern) (Some p) (sym (subst (λ k. slice_get patterns k ≡ Some (Some m.pattern)) e h.0) ∙ is)) in
            let same : m ≡ one = ap (λ t. record { pattern = m.pattern; trip = t }) e ∙ ap (λ x. record { pattern = x; trip = n }) q in
            Contains-append_right trips (one ∷ []) m (subst (Contains (one ∷ [])) (sym same) (Contains-first one [])))
        | inr (inl less) ↦ Contains-append_left trips (one ∷ []) m ((so_far m).1 (h.0, less))
        | inr (inr more) ↦ absurd (let lt = h.1 in omega (arith, lt, more))
      ],
    )

pub all_early : (patterns : List (Option ℕ)) (n : ℕ) (trips : List PatternTrip) → length patterns ≤ n → HasEarly patterns n trips → HasPatternTrips patterns trips
all_early patterns n trips size so_far m = (
  λ c. ((so_far m).0 c).0,
  λ h. (let within = slice_get_within patterns m.trip (Some m.pattern) h in (so_far m).1 (h, omega (arith, within, size))),
)

-- the same trips in another order
pub moved_trips : (patterns : List (Option ℕ)) (xs ys : List PatternTrip) → IsPermutation xs ys → HasPatternTrips patterns xs → HasPatternTrips patterns ys
moved_trips patterns xs ys moved has m = (
  λ c. (has m).0 (Contains-permutation ys xs m (IsPermutation-sym xs ys moved) c),
  λ h. Contains-permutation xs ys m moved ((has m).1 h),
)

-- those with a lesser pattern stand first
pub parted_below : (p : ℕ) (xs : List PatternTrip) → AreInOrder xs → IsPartitionedBy (λ m. nat_lt m.pattern p) xs
parted_below p xs ordered i j d le within e =
    let up = ordered i j d le within in
    let lt = ltb-true (get_or xs j d).pattern p e in
    lt-ltb (get_or xs i d).pattern p (omega (arith, up, lt))

pub parted_up_to : (p : ℕ) (xs : List PatternTrip) → AreInOrder xs → IsPartitionedBy (λ m. nat_le m.pattern p) xs
parted_up_to p xs ordered i j d le within e =
    let up = ordered i j d le within in
    let low = leb-true (get_or xs j d).pattern p e in
    le-leb (get_or xs i d).pattern p (omega (arith, up, low))

pub point_below : (p : ℕ) (xs : List PatternTrip) (n : ℕ) → IsPartitionPoint (λ m. nat_lt m.pattern p ≡ true) (λ m. nat_lt m.pattern p ≡ false) xs n
    → IsPartitionPoint (λ m. m.pattern < p) (λ m. p ≤ m.pattern) xs n
point_below p xs n point = (
  λ k d low high. ltb-true (get_or xs k d).pattern p (point.0 k d low high),
  λ k d low high. ltb-false (get_or xs k d).pattern p (point.1 k d low high),
)

pub point_up_to : (p : ℕ) (xs : List PatternTrip) (n : ℕ) → IsPartitionPoint (λ m. nat_le m.pattern p ≡ true) (λ m. nat_le m.pattern p ≡ false) xs n
    → IsPartitionPoint (λ m. m.pattern ≤ p) (λ m. p < m.pattern) xs n
point_up_to p xs n point = (
  λ k d low high. leb-true (get_or xs k d).pattern p (point.0 k d low high),
  λ k d low high. leb-false (get_or xs k d).pattern p (point.1 k d low high),
)

-- those of one pattern stand between two places
module _ (xs : List PatternTrip) (p start end : ℕ) (low : start ≤ length xs) (high : end ≤ length xs)
    (first : IsPartitionPoint (λ m. m.pattern < p) (λ m. p ≤ m.pattern) xs start)
    (last : IsPartitionPoint (λ m. m.pattern ≤ p) (λ m. p < m.pattern) xs end) where
  placed : (k : ℕ) (m : PatternTrip) → k < length xs → get_or xs k m ≡ m → m.pattern ≡ p → (start ≤ k) × (k < end)
  placed k m within is e = (
    elim (cases_lt k start) [
      | inl less ↦ absurd (let f = first.0 k m (omega arith) less in let g : (get_or xs k m).pattern ≡ m.pattern = ap (λ x. x.pattern) is in omega (arith, f, g, e))
      | inr le ↦ le
    ],
    elim (cases_lt k end) [
      | inl less ↦ less
      | inr le ↦ absurd (let f = last.1 k m le within in let g : (get_or xs k m).pattern ≡ m.pattern = ap (λ x. x.pattern) is in omega (arith, f, g, e))
    ],
  )

  pub stands_between : (m : PatternTrip) → Contains (between start end xs) m ↔ (Contains xs m × (m.pattern ≡ p))
  stands_between m = (
    λ c.
        let size : length (between start end xs) ≡ end - start = length-between xs start end high in
        let at : ℕ = c.0 in
        let few : at < length (between start end xs) = c.1 in
        let lt : start + at < end = omega (arith, size, few) in
        let is : get_or xs (start + at) m ≡ m = sym (get_or-between xs start end at m lt) ∙ c.2 in
        let g : (get_or xs (start + at) m).pattern ≡ m.pattern = ap (λ x. x.pattern) is in
        let up = last.0 (start + at) m (omega arith) lt in
        let down = first.1 (start + at) m (omega arith) (omega (arith, lt, high)) in
        ((start + at, omega (arith, lt, high), is), omega (arith, g, up, down)),
    λ h.
        let k : ℕ = h.0.0 in
        let within : k < length xs = h.0.1 in
        let is : get_or xs k m ≡ m = h.0.2 in
        let at = placed k m within is h.1 in
        let le : start ≤ k = at.0 in
        let lt : k < end = at.1 in
        let size : length (between start end xs) ≡ end - start = length-between xs start end high in
        let same : start + (k - start) ≡ k = omega (arith, le) in
        let inside : start + (k - start) < end = omega (arith, same, lt) in
        (k - start, omega (arith, size, le, lt), get_or-between xs start end (k - start) m inside ∙ ap (λ n. get_or xs n m) same ∙ is),
  )

  -- where the last place stands before the first there is none
  pub none_between : end < start → (m : PatternTrip) → Contains xs m → m.pattern ≡ p → ⊥
  none_between less m c e =
      let at = placed c.0 m c.1 c.2 e in
      let le : start ≤ c.0 = at.0 in
      let lt : c.0 < end = at.1 in
      omega (arith, le, lt, less)
