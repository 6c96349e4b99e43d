-- A list with one more item, of which some are taken out behind it.
use Rattle.std.proofs.Common.{◌≡◌, ◌⊎◌, inl, inr, ℕ, ◌+◌, ◌<◌, ◌≤◌, List, [], ◌∷◌, ◌++◌, Bool, true, false, cond, AllPairs, Contains, filter, get_or, length, take, drop, refl, sym, ◌∙◌, ap, subst, arith, length-drop, length-take, get_or-drop, get_or-take}
use Rattle.std.proofs.lemmas.List.{get_or_default, take-append-drop}
use Rattle.std.proofs.lemmas.List.Elements.{Contains-append_cases, Contains-append_left, Contains-append_right}
use Rattle.std.proofs.lemmas.List.Kept.{AllPairs-cons, AllPairs-filter}
use Rattle.flex_model.proofs.Found.{All-from_contains, AllPairs-first, AllPairs-rest, Contains-first, Contains-rest, first_or_rest, none_contained}

both : true ≡ false → ⊥
both e = cc

module _ {X : Type 0} (p : X → Bool) where
  -- what is kept was there, and passes
  pub kept_of : (xs : List X) (z : X) → Contains (filter p xs) z → Contains xs z × (p z ≡ true)
  kept_of [] z c = absurd (none_contained z c)
  kept_of (a ∷ xs) z c = by_test (λ k. kept_of xs z k) (p a) refl c
    where
      by_test : (Contains (filter p xs) z → Contains xs z × (p z ≡ true)) → (b : Bool) → p a ≡ b → Contains (cond b (a ∷ filter p xs) (filter p xs)) z → Contains (a ∷ xs) z × (p z ≡ true)
      by_test before true e c = elim (first_or_rest a z (filter p xs) c) [
        | inl same ↦ (subst (Contains (a ∷ xs)) (sym same) (Contains-first a xs), ap p same ∙ e)
        | inr later ↦ (let k = before later in (Contains-rest a z xs k.0, k.1))
      ]
      by_test before false e c = let k = before c in (Contains-rest a z xs k.0, k.1)

  -- what was there and passes is kept
  pub kept_in : (xs : List X) (z : X) → Contains xs z → p z ≡ true → Contains (filter p xs) z
  kept_in [] z c passes = absurd (none_contained z c)
  kept_in (a ∷ xs) z c passes = by_test (λ k. kept_in xs z k passes) (p a) refl
    where
      by_test : (Contains xs z → Contains (filter p xs) z) → (b : Bool) → p a ≡ b → Contains (cond b (a ∷ filter p xs) (filter p xs)) z
      by_test before true e = elim (first_or_rest a z xs c) [
        | inl same ↦ subst (Contains (a ∷ filter p xs)) (sym same) (Contains-first a (filter p xs))
        | inr later ↦ Contains-rest a z (filter p xs) (before later)
      ]
      by_test before false e = elim (first_or_rest a z xs c) [
        | inl same ↦ absurd (both (sym passes ∙ (ap p same ∙ e)))
        | inr later ↦ before later
      ]

  pub filter_keeps : (x : X) (xs : List X) → p x ≡ true → filter p (x ∷ xs) ≡ x ∷ filter p xs
  filter_keeps x xs e = ap (λ b. cond b (x ∷ filter p xs) (filter p xs)) e

  pub filter_loses : (x : X) (xs : List X) → p x ≡ false → filter p (x ∷ xs) ≡ filter p xs
  filter_loses x xs e = ap (λ b. cond b (x ∷ filter p xs) (filter p xs)) e

  -- where all pass, all are kept
  pub filter_all : (xs : List X) → ((z : X) → Contains xs z → p z ≡ true) → filter p xs ≡ xs
  filter_all [] pass = refl
  filter_all (a ∷ xs) pass = filter_keeps a xs (pass a (Contains-first a xs)) ∙ ap (λ rest. a ∷ rest) (filter_all xs (λ z c. pass z (Contains-rest a z xs c)))

-- the items before an index stand at lesser ones, and the others at no lesser ones
pub in_front : {X : Type 0} (xs : List X) (n : ℕ) (z : X) → Contains (take n xs) z → (k : ℕ) × (k < n) × (k < length xs) × (get_or xs k z ≡ z)
in_front xs n z c =
    let within : c.0 < length (take n xs) = c.1 in
    let le = length-take n xs in
    let lt : c.0 < n = omega arith in
    (c.0, lt, omega arith, sym (get_or-take n xs c.0 z lt) ∙ c.2)

pub in_back : {X : Type 0} (xs : List X) (n : ℕ) (z : X) → Contains (drop n xs) z → (k : ℕ) × (n ≤ k) × (k < length xs) × (get_or xs k z ≡ z)
in_back xs n z c =
    let within : c.0 < length (drop n xs) = c.1 in
    let count = length-drop n xs in
    (n + c.0, omega arith, omega arith, sym (get_or-drop n xs c.0 z) ∙ c.2)

module _ {X : Type 0} (R : X → X → Type 0) where
  pairs_front : (xs : List X) (n : ℕ) → AllPairs R xs → AllPairs R (take n xs)
  pairs_front xs n all i j d lt within =
      let le = length-take n xs in
      let far : j < n = omega arith in
      subst (λ z. R z (get_or (take n xs) j d)) (sym (get_or-take n xs i d (omega arith))) (subst (R (get_or xs i d)) (sym (get_or-take n xs j d far)) (all i j d lt (omega arith)))

  pairs_back : (xs : List X) (n : ℕ) → AllPairs R xs → AllPairs R (drop n xs)
  pairs_back xs n all i j d lt within =
      let count = length-drop n xs in
      subst (λ z. R z (get_or (drop n xs) j d)) (sym (get_or-drop n xs i d)) (subst (R (get_or xs (n + i) d)) (sym (get_or-drop n xs j d)) (all (n + i) (n + j) d (omega arith) (omega arith)))

  -- an item between two lists
  pairs_joined : (front back : List X) (x : X) → AllPairs R front → AllPairs R (x ∷ back) → ((a : X) → Contains front a → (b : X) → Contains (x ∷ back) b → R a b) → AllPairs R (front ++ x ∷ back)
  pairs_joined [] back x fronts backs across = backs
  pairs_joined (a ∷ front) back x fronts backs across = AllPairs-cons R a (front ++ x ∷ back)
      (All-from_contains (R a) (front ++ x ∷ back) (λ b c. elim (Contains-append_cases front (x ∷ back) b c) [
        | inl there ↦ AllPairs-first R a b front fronts there
        | inr here ↦ across a (Contains-first a front) b here
      ]))
      (pairs_joined front back x (AllPairs-rest R a front fronts) backs (λ z c b h. across z (Contains-rest a z front c) b h))

  -- some of the items from an index on are taken out, and one is put in their place
  pub pairs_spliced : (p : X → Bool) (xs : List X) (n : ℕ) (x : X) → AllPairs R xs
      → ((k : ℕ) (d : X) → k < n → k < length xs → R (get_or xs k d) x)
      → ((k : ℕ) (d : X) → n ≤ k → k < length xs → p (get_or xs k d) ≡ true → R x (get_or xs k d))
      → AllPairs R (take n xs ++ x ∷ filter p (drop n xs))
  pairs_spliced p xs n x all before behind =
      pairs_joined (take n xs) (filter p (drop n xs)) x (pairs_front xs n all)
      (AllPairs-cons R x (filter p (drop n xs)) (All-from_contains (R x) (filter p (drop n xs)) (λ b c.
      let kept = kept_of p (drop n xs) b c in
      let at = in_back xs n b kept.0 in
      subst (R x) at.3 (behind at.0 b at.1 at.2 (subst (λ z. p z ≡ true) (sym at.3) kept.1))))
      (AllPairs-filter R p (drop n xs) (pairs_back xs n all)))
      (λ a c b h.
      let first = in_front xs n a c in
      elim (first_or_rest x b (filter p (drop n xs)) h) [
        | inl same ↦ subst (R a) (sym same) (subst (λ z. R z x) first.3 (before first.0 a first.1 first.2))
        | inr rest ↦ (
            let second = in_back xs n b (kept_of p (drop n xs) b rest).0 in
            let lt = first.1 in
            let le = second.1 in
            let same = get_or_default xs first.0 a b first.2 in
            subst (λ z. R z b) (sym same ∙ first.3) (subst (R (get_or xs first.0 b)) second.3 (all first.0 second.0 b (omega arith) second.2)))
      ])

-- what stands in the list then
module _ {X : Type 0} (p : X → Bool) (xs : List X) (n : ℕ) (x : X) where
  pub spliced_cases : (z : X) → Contains (take n xs ++ x ∷ filter p (drop n xs)) z → (z ≡ x) ⊎ (Contains (take n xs) z ⊎ (Contains (drop n xs) z × (p z ≡ true)))
  spliced_cases z c = elim (Contains-append_cases (take n xs) (x ∷ filter p (drop n xs)) z c) [
    | inl front ↦ inr (inl front)
    | inr rest ↦ elim (first_or_rest x z (filter p (drop n xs)) rest) [
      | inl same ↦ inl same
      | inr back ↦ inr (inr (kept_of p (drop n xs) z back))
    ]
  ]

  pub spliced_here : Contains (take n xs ++ x ∷ filter p (drop n xs)) x
  spliced_here = Contains-append_right (take n xs) (x ∷ filter p (drop n xs)) x (Contains-first x (filter p (drop n xs)))

  pub spliced_keeps : (z : X) → Contains xs z → p z ≡ true → Contains (take n xs ++ x ∷ filter p (drop n xs)) z
  spliced_keeps z c passes = elim (Contains-append_cases (take n xs) (drop n xs) z (subst (λ these. Contains these z) (sym (take-append-drop n xs)) c)) [
    | inl front ↦ Contains-append_left (take n xs) (x ∷ filter p (drop n xs)) z front
    | inr back ↦ Contains-append_right (take n xs) (x ∷ filter p (drop n xs)) z (Contains-rest x z (filter p (drop n xs)) (kept_in p (drop n xs) z back passes))
  ]

pub in_whole : {X : Type 0} (xs : List X) (n : ℕ) (z : X) → Contains (take n xs) z ⊎ Contains (drop n xs) z → Contains xs z
in_whole xs n z (inl front) = subst (λ these. Contains these z) (take-append-drop n xs) (Contains-append_left (take n xs) (drop n xs) z front)
in_whole xs n z (inr back) = subst (λ these. Contains these z) (take-append-drop n xs) (Contains-append_right (take n xs) (drop n xs) z back)
