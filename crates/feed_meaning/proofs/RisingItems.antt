-- Items in rising order: they are items of the list, and each comes before the later ones.
use Rattle.std.proofs.Common.{◌≡◌, ℕ, zero, suc, ◌+◌, ◌-◌, ◌<◌, ◌≤◌, Bool, true, false, cond, eqb, List, [], ◌∷◌, ◌++◌, All, AllPairs, Contains, length, get_or, refl, sym, ◌∙◌, ap, subst, arith, ◌⊎◌, inl, inr}
use Rattle.std.specs.Prelude.{count_by}
use Rattle.std.specs.List.{filter, flat_map, range_with_len}
use Rattle.std.proofs.lemmas.Bool.{cases_lt, cases_order, eqb-true, false≢true}
use Rattle.std.proofs.lemmas.List.{get_or-append_right, get_or_append_left, get_or_default, length-append}
use Rattle.std.proofs.lemmas.List.Elements.{All-append, All-contains_itself, All-filter, All-nil, filter_passes}
use Rattle.std.proofs.lemmas.List.Kept.{AllPairs-filter}
use Rattle.std.proofs.lemmas.List.Sums.{sum_by-cons}
use Rattle.flex_model.proofs.Found.{first_or_rest, none_contained}
use Rattle.feed_meaning.specs.FeedValue.{rising}

-- two lists of pairs, of which each of the first is in order with each of the second
pub AllPairs-append : {X : Type 0} (R : X → X → Type 0) (xs ys : List X) → AllPairs R xs → AllPairs R ys → All (λ x. All (R x) ys) xs → AllPairs R (xs ++ ys)
AllPairs-append R xs ys left right across i j d lt low = by (cases_lt i (length xs)) (cases_lt j (length xs))
  where
    size : length (xs ++ ys) ≡ length xs + length ys
    size = length-append xs ys

    by : ((i < length xs) ⊎ (length xs ≤ i)) → ((j < length xs) ⊎ (length xs ≤ j)) → R (get_or (xs ++ ys) i d) (get_or (xs ++ ys) j d)
    by (inl a) (inl b) =
        subst (λ x. R x (get_or (xs ++ ys) j d)) (sym (get_or_append_left xs ys d i a))
        (subst (R (get_or xs i d)) (sym (get_or_append_left xs ys d j b)) (left i j d lt b))
    by (inl a) (inr b) =
        subst (λ x. R x (get_or (xs ++ ys) j d)) (sym (get_or_append_left xs ys d i a))
        (subst (R (get_or xs i d)) (sym (get_or-append_right xs ys (length xs) j d refl b)) (across i d a (j - length xs) d (omega (arith, size))))
    by (inr a) (inl b) = absurd (omega arith)
    by (inr a) (inr b) =
        subst (λ x. R x (get_or (xs ++ ys) j d)) (sym (get_or-append_right xs ys (length xs) i d refl a))
        (subst (R (get_or ys (i - length xs) d)) (sym (get_or-append_right xs ys (length xs) j d refl b)) (right (i - length xs) (j - length xs) d (omega arith) (omega (arith, size))))

-- ---- counts

pub count_le : {X : Type 0} (p q : X → Bool) (xs : List X) → ((x : X) → p x ≡ true → q x ≡ true) → count_by p xs ≤ count_by q xs
count_le p q [] imp = omega arith
count_le p q (x ∷ xs) imp =
    let rest = count_le p q xs imp in
    let left = sum_by-cons (λ y. cond (p y) 1 0) x xs in
    let right = sum_by-cons (λ y. cond (q y) 1 0) x xs in
    let here = one (p x) (q x) (imp x) in
    omega (arith, rest, left, right, here)
  where
    one : (a b : Bool) → (a ≡ true → b ≡ true) → cond a 1 0 ≤ cond b 1 0
    one false b imp = omega arith
    one true true imp = omega arith
    one true false imp = absurd (false≢true (imp refl))

-- fewer items pass where some item passes the weaker test alone
pub count_less : {X : Type 0} (p q : X → Bool) (xs : List X) (y : X) → ((x : X) → p x ≡ true → q x ≡ true) → Contains xs y → p y ≡ false → q y ≡ true → count_by p xs < count_by q xs
count_less p q [] y imp c fails passes = absurd (none_contained y c)
count_less p q (x ∷ xs) y imp c fails passes =
    let left = sum_by-cons (λ z. cond (p z) 1 0) x xs in
    let right = sum_by-cons (λ z. cond (q z) 1 0) x xs in
    let all = count_le p q xs imp in
    elim (first_or_rest x y xs c) [
      | inl e ↦
          let here_p : p x ≡ false = ap p (sym e) ∙ fails in
          let here_q : q x ≡ true = ap q (sym e) ∙ passes in
          let l : count_by p (x ∷ xs) ≡ 0 + count_by p xs = left ∙ ap (λ b. cond b 1 0 + count_by p xs) here_p in
          let r : count_by q (x ∷ xs) ≡ 1 + count_by q xs = right ∙ ap (λ b. cond b 1 0 + count_by q xs) here_q in
          omega (arith, l, r, all)
      | inr h ↦
          let rest = count_less p q xs y imp h fails passes in
          let here = one (p x) (q x) (imp x) in
          omega (arith, left, right, rest, here)
    ]
  where
    one : (a b : Bool) → (a ≡ true → b ≡ true) → cond a 1 0 ≤ cond b 1 0
    one false b imp = omega arith
    one true true imp = omega arith
    one true false imp = absurd (false≢true (imp refl))

-- ---- the order

-- what holds of each item holds of each in rising order
pub rising_all : {X : Type 0} (before : X → X → Bool) (P : X → Type 0) (xs : List X) → All P xs → All P (rising before xs)
rising_all {X} before P xs all = over 0 (length xs)
  where
    over : (a n : ℕ) → All P (flat_map (λ k. filter (λ x. eqb (count_by (λ y. before y x) xs) k) xs) (range_with_len a n))
    over a zero = All-nil P
    over a (suc n) =
        All-append P (filter (λ x. eqb (count_by (λ y. before y x) xs) a) xs) (flat_map (λ k. filter (λ x. eqb (count_by (λ y. before y x) xs) k) xs) (range_with_len (a + 1) n))
        (All-filter (λ x. eqb (count_by (λ y. before y x) xs) a) P xs all) (over (a + 1) n)

module _ {X : Type 0} (before : X → X → Bool) (irreflexive : (x : X) → before x x ≡ false)
    (transitive : (x y z : X) → before x y ≡ true → before y z ≡ true → before x z ≡ true) where
  -- one of the two comes before the other
  abbrev pub IsOrdered : X → X → Type 0
  IsOrdered x y = (before x y ≡ true) ⊎ (before y x ≡ true)

  -- an item before another has fewer before it
  rank-less : (xs : List X) (x y : X) → Contains xs x → before x y ≡ true → count_by (λ z. before z x) xs < count_by (λ z. before z y) xs
  rank-less xs x y c lt = count_less (λ z. before z x) (λ z. before z y) xs x (λ z h. transitive z x y h lt) c (irreflexive x) lt

  module _ (xs : List X) (ordered : AllPairs IsOrdered xs) where
    abbrev bucket : ℕ → List X
    bucket k = filter (λ x. eqb (count_by (λ y. before y x) xs) k) xs

    abbrev HasRank : ℕ → X → Type 0
    HasRank k x = Contains xs x × (count_by (λ y. before y x) xs ≡ k)

    in-bucket : (k : ℕ) → All (HasRank k) (bucket k)
    in-bucket k i d low = (
      All-filter (λ x. eqb (count_by (λ y. before y x) xs) k) (Contains xs) xs (All-contains_itself xs) i d low,
      eqb-true (count_by (λ y. before y (get_or (bucket k) i d)) xs) k (filter_passes (λ x. eqb (count_by (λ y. before y x) xs) k) xs i d low),
    )

    -- no two items have one rank
    bucket-pairs : (k : ℕ) → AllPairs (λ a b. before a b ≡ true) (bucket k)
    bucket-pairs k i j d lt low =
        let a = get_or (bucket k) i d in
        let b = get_or (bucket k) j d in
        let ra = in-bucket k i d (omega arith) in
        let rb = in-bucket k j d low in
        let ea = ra.1 in
        let eb = rb.1 in
        elim (AllPairs-filter IsOrdered (λ x. eqb (count_by (λ y. before y x) xs) k) xs ordered i j d lt low) [
          | inl h ↦ let less = rank-less xs a b ra.0 h in absurd (omega (arith, less, ea, eb))
          | inr h ↦ let less = rank-less xs b a rb.0 h in absurd (omega (arith, less, ea, eb))
        ]

    -- two items of the list are one, or one comes before the other
    pub compared : (x y : X) → Contains xs x → Contains xs y → (x ≡ y) ⊎ IsOrdered x y
    compared x y c c' = elim (cases_order c.0 c'.0) [
      | inl e ↦ inl (sym c.2 ∙ get_or_default xs c.0 x y c.1 ∙ ap (λ k. get_or xs k y) e ∙ c'.2)
      | inr (inl lt) ↦ inr (subst (λ a. IsOrdered a y) (get_or_default xs c.0 y x c.1 ∙ c.2) (subst (IsOrdered (get_or xs c.0 y)) c'.2 (ordered c.0 c'.0 y lt c'.1)))
      | inr (inr lt) ↦ inr (swapped (subst (λ b. IsOrdered b x) (get_or_default xs c'.0 x y c'.1 ∙ c'.2) (subst (IsOrdered (get_or xs c'.0 x)) c.2 (ordered c'.0 c.0 x lt c.1))))
    ]
      where
        swapped : IsOrdered y x → IsOrdered x y
        swapped (inl h) = inr h
        swapped (inr h) = inl h

    -- an item of a lesser rank comes before
    by-rank : (k l : ℕ) (x y : X) → HasRank k x → HasRank l y → k < l → before x y ≡ true
    by-rank k l x y rx ry lt =
        let ex = rx.1 in
        let ey = ry.1 in
        elim (compared x y rx.0 ry.0) [
          | inl e ↦ let same : count_by (λ z. before z x) xs ≡ count_by (λ z. before z y) xs = ap (λ w. count_by (λ z. before z w) xs) e in absurd (omega (arith, same, ex, ey))
          | inr (inl h) ↦ h
          | inr (inr h) ↦ let less = rank-less xs y x ry.0 h in absurd (omega (arith, less, ex, ey))
        ]

    -- what stands in later buckets has a greater rank
    abbrev IsLater : ℕ → X → Type 0
    IsLater a y = (l : ℕ) × (a ≤ l) × HasRank l y

    later : (a n : ℕ) → All (IsLater a) (flat_map bucket (range_with_len a n))
    later a zero = All-nil (IsLater a)
    later a (suc n) =
        All-append (IsLater a) (bucket a) (flat_map bucket (range_with_len (a + 1) n))
        (λ i d low. (a, omega arith, in-bucket a i d low))
        (λ i d low. let r = later (a + 1) n i d low in let le = r.1 in (r.0, omega (arith, le), r.2))

    pairs : (a n : ℕ) → AllPairs (λ x y. before x y ≡ true) (flat_map bucket (range_with_len a n))
    pairs a zero = λ i j d lt low. absurd (omega arith)
    pairs a (suc n) =
        AllPairs-append (λ x y. before x y ≡ true) (bucket a) (flat_map bucket (range_with_len (a + 1) n)) (bucket-pairs a) (pairs (a + 1) n)
        (λ i d low j e low'.
        let r = later (a + 1) n j e low' in
        let le = r.1 in
        by-rank a r.0 (get_or (bucket a) i d) (get_or (flat_map bucket (range_with_len (a + 1) n)) j e) (in-bucket a i d low) r.2 (omega (arith, le)))

    -- each item in rising order comes before the later ones
    pub rising_rises : AllPairs (λ x y. before x y ≡ true) (rising before xs)
    rising_rises = pairs 0 (length xs)
