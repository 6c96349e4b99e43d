-- A test of each number below a bound, computed.
use Rattle.std.proofs.Common.{◌≡◌, ◌<◌, ◌∙◌, ℕ, Bool, true, false, List, [], ◌∷◌, arith, filter, get_or, length, map, refl, subst, sym}
use Rattle.std.specs.List.{list_all}
use Rattle.std.proofs.lemmas.List.FromFn.{get_or-range_with_len, length-range_with_len}
use Rattle.std.proofs.lemmas.List.Sums.{AllPass-from_list_all, list_all-from_AllPass}
use Rattle.std.proofs.lemmas.List.Folds.{list_all-map}
use Rattle.feed_gen.specs.Texts.{below}
use Rattle.feed_gen.proofs.PlainFields.{and-left, and-right}

pub length-below : (n : ℕ) → length (below n) ≡ n
unfolding below
length-below n = length-range_with_len 0 n

pub get_or-below : (n i d : ℕ) → i < n → get_or (below n) i d ≡ i
unfolding below
get_or-below n i d lt = get_or-range_with_len 0 n i d lt ∙ omega arith

pub checked : (test : ℕ → Bool) (count : ℕ) → list_all test (below count) ≡ true → (n : ℕ) → n < count → test n ≡ true
checked test count passes n lt =
    subst (λ k. test k ≡ true) (get_or-below count n 0 lt)
    (AllPass-from_list_all test (below count) passes n 0 (omega (arith, length-below count)))

-- a test of what each number below a bound gives
pub all-below : {X : Type 0} (test : X → Bool) (f : ℕ → X) (count : ℕ) → ((i : ℕ) → i < count → test (f i) ≡ true)
    → list_all test (map f (below count)) ≡ true
all-below test f count each =
    list_all-map test f (below count)
    ∙ list_all-from_AllPass (λ i. test (f i)) (below count)
    (λ k d within. let low : k < count = omega (arith, length-below count) in
    subst (λ i. test (f i) ≡ true) (sym (get_or-below count k d low)) (each k low))

-- the same of those that pass a test
pub all-filtered : {X : Type 0} (test : X → Bool) (f : ℕ → X) (kept : ℕ → Bool) (xs : List ℕ) → list_all test (map f xs) ≡ true
    → list_all test (map f (filter kept xs)) ≡ true
all-filtered test f kept [] e = refl
all-filtered test f kept (x ∷ xs) e =
    by (kept x) refl (all-filtered test f kept xs (and-right (test (f x)) (list_all test (map f xs)) e))
  where
    first : test (f x) ≡ true
    first = and-left (test (f x)) (list_all test (map f xs)) e

    by : (b : Bool) → kept x ≡ b → list_all test (map f (filter kept xs)) ≡ true → list_all test (map f (filter kept (x ∷ xs))) ≡ true
    by true is rest = rw (is, first, rest) refl
    by false is rest = rw (is, rest) refl
