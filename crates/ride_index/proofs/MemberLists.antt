-- The stops of groups and zones: the list as it grows, and those of one stop in it.
use Rattle.std.proofs.Common.{◌≡◌, ◌↔◌, inl, inr, ℕ, ◌+◌, ◌-◌, ◌<◌, ◌≤◌, true, false, List, [], ◌∷◌, ◌++◌, Contains, get_or, length, take, refl, sym, ◌∙◌, ap, subst, arith}
use Rattle.std.specs.Prelude.{IsPermutation, nat_le, nat_lt}
use Rattle.std.specs.List.{between}
use Rattle.std.specs.List.Sorted.{IsPartitionPoint, IsPartitionedBy}
use Rattle.std.proofs.lemmas.Bool.{cases_lt, cases_order, le-leb, leb-false, leb-true, lt-ltb, ltb-false, ltb-true}
use Rattle.std.proofs.lemmas.List.{take_more}
use Rattle.std.proofs.lemmas.List.Edits.{get_or-between, length-between}
use Rattle.std.proofs.lemmas.List.Elements.{Contains-append_left, Contains-push, Contains-push_cases}
use Rattle.std.proofs.lemmas.List.Sorted.{Contains-permutation, IsPermutation-sym}
use Rattle.flex_model.specs.declared.feed.Feed.{Feed}
use Rattle.flex_model.proofs.Found.{slice_get_unique}
use Rattle.ride_index.specs.Members.{AreByStop, HasGroupStops, HasMembers, HasZoneStops}
use Rattle.ride_index.specs.declared.members.Member.{Member}
use Rattle.ride_index.proofs.RideLists.{Gained, gained_both, gained_one}

-- ---- stop by stop

abbrev pub IsOfFirst : List ℕ → ℕ → ℕ → Member → Type 0
IsOfFirst stops named n m = (m.named ≡ named) × Contains (take n stops) m.stop

pub next_stop : (stops : List ℕ) (named n default : ℕ) (before found : List Member) → n < length stops → Gained (IsOfFirst stops named n) before found
    → Gained (IsOfFirst stops named (n + 1)) before (found ++ record { stop = get_or stops n default; named = named } ∷ [])
next_stop stops named n default before found lt so_far =
    let s = get_or stops n default in
    let one : Member = record { stop = s; named = named } in
    let more : take (n + 1) stops ≡ take n stops ++ s ∷ [] = take_more stops n default lt in
    gained_both (IsOfFirst stops named n) (λ m. (m.named ≡ named) × (m.stop ≡ s)) (IsOfFirst stops named (n + 1)) before found (found ++ one ∷ []) so_far
    (gained_one (λ m. (m.named ≡ named) × (m.stop ≡ s)) found one (refl, refl) (λ m p. (let named_is = p.0 in let stop_is = p.1 in λ i. record { stop = stop_is i; named = named_is i })))
    (λ m. (
      λ h. elim h [
        | inl old ↦ (old.0, subst (λ xs. Contains xs m.stop) (sym more) (Contains-append_left (take n stops) (s ∷ []) m.stop old.1))
        | inr new ↦ (new.0, subst (λ xs. Contains xs m.stop) (sym more) (subst (Contains (take n stops ++ s ∷ [])) (sym new.1) (Contains-push (take n stops) s)))
      ],
      λ h. elim (Contains-push_cases (take n stops) s m.stop (subst (λ xs. Contains xs m.stop) more h.1)) [
        | inl old ↦ inl (h.0, old)
        | inr same ↦ inr (h.0, sym same)
      ],
    ))

-- ---- number by number

module _ (HasStops : ℕ → List ℕ → Type 0) where
  -- those with the first numbers
  abbrev pub HasEarly : ℕ → List Member → Type 0
  HasEarly n xs = (m : Member) → Contains xs m ↔ (((stops : List ℕ) × HasStops m.named stops × Contains stops m.stop) × (m.named < n))

  pub next_number : (unique : (k : ℕ) (a b : List ℕ) → HasStops k a → HasStops k b → a ≡ b) (n : ℕ) (stops : List ℕ) (found after : List Member) → HasStops n stops → HasEarly n found
      → Gained (λ m. (m.named ≡ n) × Contains stops m.stop) found after → HasEarly (n + 1) after
  next_number unique n stops found after has so_far new m = (
    λ c. elim ((new m).0 c) [
      | inl old ↦ (let h = (so_far m).0 old in let lt = h.1 in (h.0, omega (arith, lt)))
      | inr here ↦ (let e = here.0 in ((stops, subst (λ k. HasStops k stops) (sym e) has, here.1), omega (arith, e)))
    ],
    λ h. elim (cases_order m.named n) [
      | inl e ↦ (new m).1 (inr (e, subst (λ xs. Contains xs m.stop) (unique n h.0.0 stops (subst (λ k. HasStops k h.0.0) e h.0.1) has) h.0.2))
      | inr (inl less) ↦ (new m).1 (inl ((so_far m).1 (h.0, less)))
      | inr (inr more) ↦ absurd (let lt = h.1 in omega (arith, lt, more))
    ],
  )

  pub all_numbers : (n : ℕ) (xs : List Member) → ((k : ℕ) (stops : List ℕ) → HasStops k stops → k < n) → HasEarly n xs → HasMembers HasStops xs
  all_numbers n xs within so_far m = (
    λ c. ((so_far m).0 c).0,
    λ h. (so_far m).1 (h, within m.named h.0 h.1),
  )

  -- the same members in another order
  pub moved_members : (xs ys : List Member) → IsPermutation xs ys → HasMembers HasStops xs → HasMembers HasStops ys
  moved_members xs ys moved has m = (
    λ c. (has m).0 (Contains-permutation ys xs m (IsPermutation-sym xs ys moved) c),
    λ h. Contains-permutation xs ys m moved ((has m).1 h),
  )

pub group_unique : (feed : Feed) (k : ℕ) (a b : List ℕ) → HasGroupStops feed k a → HasGroupStops feed k b → a ≡ b
group_unique feed k a b p q = p.2 ∙ ap (λ g. g.members) (slice_get_unique feed.groups k p.0 q.0 p.1 q.1) ∙ sym q.2

pub zone_unique : (feed : Feed) (k : ℕ) (a b : List ℕ) → HasZoneStops feed k a → HasZoneStops feed k b → a ≡ b
zone_unique feed k a b p q = p.2 ∙ ap (λ z. z.stops) (slice_get_unique feed.zones k p.0 q.0 p.1 q.1) ∙ sym q.2

-- ---- those of a stop

-- those with a lesser stop stand first
pub parted_below : (p : ℕ) (xs : List Member) → AreByStop xs → IsPartitionedBy (λ m. nat_lt m.stop p) xs
parted_below p xs ordered i j d le within e =
    let up = ordered i j d le within in
    let lt = ltb-true (get_or xs j d).stop p e in
    lt-ltb (get_or xs i d).stop p (omega (arith, up, lt))

pub parted_up_to : (p : ℕ) (xs : List Member) → AreByStop xs → IsPartitionedBy (λ m. nat_le m.stop p) xs
parted_up_to p xs ordered i j d le within e =
    let up = ordered i j d le within in
    let low = leb-true (get_or xs j d).stop p e in
    le-leb (get_or xs i d).stop p (omega (arith, up, low))

pub point_below : (p : ℕ) (xs : List Member) (n : ℕ) → IsPartitionPoint (λ m. nat_lt m.stop p ≡ true) (λ m. nat_lt m.stop p ≡ false) xs n
    → IsPartitionPoint (λ m. m.stop < p) (λ m. p ≤ m.stop) xs n
point_below p xs n point = (
  λ k d low high. ltb-true (get_or xs k d).stop p (point.0 k d low high),
  λ k d low high. ltb-false (get_or xs k d).stop p (point.1 k d low high),
)

pub point_up_to : (p : ℕ) (xs : List Member) (n : ℕ) → IsPartitionPoint (λ m. nat_le m.stop p ≡ true) (λ m. nat_le m.stop p ≡ false) xs n
    → IsPartitionPoint (λ m. m.stop ≤ p) (λ m. p < m.stop) xs n
point_up_to p xs n point = (
  λ k d low high. leb-true (get_or xs k d).stop p (point.0 k d low high),
  λ k d low high. leb-false (get_or xs k d).stop p (point.1 k d low high),
)

-- those of one stop stand between two places
module _ (xs : List Member) (p start end : ℕ) (low : start ≤ length xs) (high : end ≤ length xs)
    (first : IsPartitionPoint (λ m. m.stop < p) (λ m. p ≤ m.stop) xs start)
    (last : IsPartitionPoint (λ m. m.stop ≤ p) (λ m. p < m.stop) xs end) where
  placed : (k : ℕ) (m : Member) → k < length xs → get_or xs k m ≡ m → m.stop ≡ p → (start ≤ k) × (k < end)
  placed k m within is e = (
    elim (cases_lt k start) [
      | inl less ↦ absurd (let f = first.0 k m (omega arith) less in let g : (get_or xs k m).stop ≡ m.stop = ap (λ x. x.stop) is in omega (arith, f, g, e))
      | inr le ↦ le
    ],
    elim (cases_lt k end) [
      | inl less ↦ less
      | inr le ↦ absurd (let f = last.1 k m le within in let g : (get_or xs k m).stop ≡ m.stop = ap (λ x. x.stop) is in omega (arith, f, g, e))
    ],
  )

  pub stands_between : (m : Member) → Contains (between start end xs) m ↔ (Contains xs m × (m.stop ≡ p))
  stands_between m = (
    λ c.
        let size : length (between start end xs) ≡ end - start = length-between xs start end high in
        let at : ℕ = c.0 in
        let few : at < length (between start end xs) = c.1 in
        let lt : start + at < end = omega (arith, size, few) in
        let is : get_or xs (start + at) m ≡ m = sym (get_or-between xs start end at m lt) ∙ c.2 in
        let g : (get_or xs (start + at) m).stop ≡ m.stop = ap (λ x. x.stop) is in
        let up = last.0 (start + at) m (omega arith) lt in
        let down = first.1 (start + at) m (omega arith) (omega (arith, lt, high)) in
        ((start + at, omega (arith, lt, high), is), omega (arith, g, up, down)),
    λ h.
        let k : ℕ = h.0.0 in
        let within : k < length xs = h.0.1 in
        let is : get_or xs k m ≡ m = h.0.2 in
        let at = placed k m within is h.1 in
        let le : start ≤ k = at.0 in
        let lt : k < end = at.1 in
        let size : length (between start end xs) ≡ end - start = length-between xs start end high in
        let same : start + (k - start) ≡ k = omega (arith, le) in
        let inside : start + (k - start) < end = omega (arith, same, lt) in
        (k - start, omega (arith, size, le, lt), get_or-between xs start end (k - start) m inside ∙ ap (λ n. get_or xs n m) same ∙ is),
  )

  -- where the last place stands before the first there is none
  pub none_between : end < start → (m : Member) → Contains xs m → m.stop ≡ p → ⊥
  none_between less m c e =
      let at = placed c.0 m c.1 c.2 e in
      let le : start ≤ c.0 = at.0 in
      let lt : c.0 < end = at.1 in
      omega (arith, le, lt, less)
