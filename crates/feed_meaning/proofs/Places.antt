-- The places of the items of a list that pass a test, and the place of the first one.
use Rattle.std.proofs.Common.{◌≡◌, ℕ, zero, suc, ◌+◌, ◌<◌, Bool, true, false, not, cond, ◌||◌, List, [], ◌∷◌, All, AllPairs, Contains, None, Some, map, length, get_or, slice_get, refl, sym, ◌∙◌, ap, subst, arith, inl, inr, ◌↔◌}
use Rattle.std.specs.Prelude.{unwrap_or}
use Rattle.std.specs.List.{enumerate_from, filter, list_any, position_or_len}
use Rattle.std.proofs.lemmas.Bool.{false≢true, lt-ltb}
use Rattle.std.proofs.lemmas.List.{get_or-map, length-map}
use Rattle.std.proofs.lemmas.List.Elements.{All-filter, All-map}
use Rattle.std.proofs.lemmas.List.FromFn.{get_or-enumerate_from, length-enumerate_from}
use Rattle.std.proofs.lemmas.List.Kept.{AllPairs-filter}
use Rattle.std.proofs.lemmas.List.Sums.{passes_at_first}
use Rattle.flex_model.proofs.Found.{Contains-first, Contains-rest, first_or_rest, none_contained}
use Rattle.feed_meaning.specs.FeedValue.{first_index, indices_where}

-- what holds of each two images holds of the two items
pub AllPairs-map : {X Y : Type 0} (R : Y → Y → Type 0) (f : X → Y) (xs : List X) → AllPairs (λ a b. R (f a) (f b)) xs → AllPairs R (map f xs)
AllPairs-map R f [] up i j d lt low = absurd (omega arith)
AllPairs-map R f (x ∷ xs) up i j d lt low =
    let size = length-map (x ∷ xs) f in
    let at_j : j < length (x ∷ xs) = omega (arith, size) in
    subst (λ y. R y (get_or (map f (x ∷ xs)) j d)) (sym (get_or-map f (x ∷ xs) i x d (omega (arith, at_j))))
    (subst (λ y. R (f (get_or (x ∷ xs) i x)) y) (sym (get_or-map f (x ∷ xs) j x d at_j)) (up i j x lt at_j))

-- ---- the places that pass

numbers-rise : {X : Type 0} (n : ℕ) (xs : List X) → AllPairs (λ p q. p.0 < q.0) (enumerate_from n xs)
numbers-rise n xs i j d lt low =
    let size = length-enumerate_from n xs in
    let at_i = get_or-enumerate_from n xs i d (omega (arith, size)) in
    let at_j = get_or-enumerate_from n xs j d (omega (arith, size)) in
    let left = ap (λ p. p.0) at_i in
    let right = ap (λ p. p.0) at_j in
    omega (arith, left, right)

pub places_rise : {X : Type 0} (test : X → Bool) (xs : List X) → AllPairs (λ a b. a < b) (indices_where test xs)
places_rise test xs =
    AllPairs-map (λ a b. a < b) (λ p. p.0) (filter (λ p. test p.1) (enumerate_from 0 xs))
    (AllPairs-filter (λ p q. p.0 < q.0) (λ p. test p.1) (enumerate_from 0 xs) (numbers-rise 0 xs))

pub places_low : {X : Type 0} (test : X → Bool) (xs : List X) → All (λ k. k < length xs) (indices_where test xs)
places_low test xs =
    All-map (λ k. k < length xs) (λ p. p.0) (filter (λ p. test p.1) (enumerate_from 0 xs))
    (All-filter (λ p. test p.1) (λ p. p.0 < length xs) (enumerate_from 0 xs)
    (λ i d low. let size = length-enumerate_from 0 xs in let at_i = ap (λ p. p.0) (get_or-enumerate_from 0 xs i d (omega (arith, size))) in omega (arith, size, at_i)))

-- the places that pass, from a number on
abbrev places-from : {X : Type 0} → (X → Bool) → ℕ → List X → List ℕ
places-from test n xs = map (λ p. p.0) (filter (λ p. test p.1) (enumerate_from n xs))

-- a place holds an item that passes
abbrev Passes : {X : Type 0} → (X → Bool) → List X → ℕ → Type 0
Passes {X} test xs k = (x : X) × (slice_get xs k ≡ Some x) × (test x ≡ true)

passes-from : {X : Type 0} (test : X → Bool) (n s : ℕ) (xs : List X) → Contains (places-from test n xs) s → (k : ℕ) × (s ≡ n + k) × Passes test xs k
passes-from test n s [] c = absurd (none_contained s c)
passes-from test n s (x ∷ xs) c = by (λ c'. passes-from test (n + 1) s xs c') (test x) refl c
  where
    Rest : Type 0
    Rest = Contains (places-from test (n + 1) xs) s → (k : ℕ) × (s ≡ n + 1 + k) × Passes test xs k

    later : Rest → Contains (places-from test (n + 1) xs) s → (k : ℕ) × (s ≡ n + k) × Passes test (x ∷ xs) k
    later rest c' = let r = rest c' in let e = r.1 in (suc r.0, omega (arith, e), r.2)

    by : Rest → (b : Bool) → test x ≡ b → Contains (map (λ p. p.0) (cond b ((n, x) ∷ filter (λ p. test p.1) (enumerate_from (n + 1) xs)) (filter (λ p. test p.1) (enumerate_from (n + 1) xs)))) s
        → (k : ℕ) × (s ≡ n + k) × Passes test (x ∷ xs) k
    by rest false e c' = later rest c'
    by rest true e c' = elim (first_or_rest n s (places-from test (n + 1) xs) c') [ inl h ↦ (zero, omega (arith, h), (x, refl, e)) | inr h ↦ later rest h ]

contains-from : {X : Type 0} (test : X → Bool) (n k : ℕ) (xs : List X) → Passes test xs k → Contains (places-from test n xs) (n + k)
contains-from test n k [] p = absurd (cc p.1)
contains-from test n zero (x ∷ xs) p =
    let here : test x ≡ true = ap test (cc p.1) ∙ p.2 in
    let first : n + 0 ≡ n = omega arith in
    subst (λ s. Contains (map (λ q. q.0) (cond (test x) ((n, x) ∷ filter (λ q. test q.1) (enumerate_from (n + 1) xs)) (filter (λ q. test q.1) (enumerate_from (n + 1) xs)))) s) (sym first)
    (subst (λ b. Contains (map (λ q. q.0) (cond b ((n, x) ∷ filter (λ q. test q.1) (enumerate_from (n + 1) xs)) (filter (λ q. test q.1) (enumerate_from (n + 1) xs)))) n) (sym here)
    (Contains-first n (places-from test (n + 1) xs)))
contains-from test n (suc k) (x ∷ xs) p =
    let rest = contains-from test (n + 1) k xs p in
    let same : n + 1 + k ≡ n + suc k = omega arith in
    by (test x) (subst (λ s. Contains (places-from test (n + 1) xs) s) same rest)
  where
    by : (b : Bool) → Contains (places-from test (n + 1) xs) (n + suc k)
        → Contains (map (λ q. q.0) (cond b ((n, x) ∷ filter (λ q. test q.1) (enumerate_from (n + 1) xs)) (filter (λ q. test q.1) (enumerate_from (n + 1) xs)))) (n + suc k)
    by false c = c
    by true c = Contains-rest n (n + suc k) (places-from test (n + 1) xs) c

-- the places that pass are those of the items that do
pub places_are : {X : Type 0} (test : X → Bool) (xs : List X) (k : ℕ) → Contains (indices_where test xs) k ↔ ((x : X) × (slice_get xs k ≡ Some x) × (test x ≡ true))
places_are test xs k = (
  λ c. let r = passes-from test 0 k xs c in let e : r.0 ≡ k = let e' = r.1 in omega (arith, e') in subst (Passes test xs) e r.2,
  λ p. let same : 0 + k ≡ k = omega arith in subst (Contains (indices_where test xs)) same (contains-from test 0 k xs p),
)

-- ---- the first place

pub first_is_low : {X : Type 0} (test : X → Bool) (xs : List X) → list_any test xs ≡ true → position_or_len test xs < length xs
first_is_low test [] e = absurd (false≢true e)
first_is_low test (x ∷ xs) e = by (λ h. first_is_low test xs h) (test x) e
  where
    by : (list_any test xs ≡ true → position_or_len test xs < length xs) → (b : Bool) → (b || list_any test xs) ≡ true
        → cond (not b) (1 + position_or_len test xs) 0 < suc (length xs)
    by rest true h = omega arith
    by rest false h = let low = rest h in omega (arith, low)

-- where some item passes, the place of the first one holds an item that does
pub place_passes : {X : Type 0} (test : X → Bool) (xs : List X) → list_any test xs ≡ true → (first_index test xs < length xs) × ((d : X) → test (get_or xs (first_index test xs) d) ≡ true)
place_passes test xs e =
    let low = first_is_low test xs e in
    let at : first_index test xs ≡ position_or_len test xs = ap (λ b. unwrap_or (cond b (Some (position_or_len test xs)) None) 0) (lt-ltb (position_or_len test xs) (length xs) low) in
    (omega (arith, low, at), λ d. ap (λ k. test (get_or xs k d)) at ∙ passes_at_first test xs d low)
