-- One of the items of a list changes, and the others stay as they are.
use Rattle.std.proofs.Common.{◌≡◌, ◌≢◌, ℕ, zero, suc, ◌+◌, ◌<◌, ◌≤◌, Bool, true, false, nat_lt, List, [], ◌∷◌, ◌++◌, Option, None, Some, map, length, get_or, refl, sym, ◌∙◌, ap, arith, inl, inr}
use Rattle.std.specs.List.{position, position_or_len}
use Rattle.std.specs.Str.{bytes_eq}
use Rattle.std.proofs.Math.ListN.{set}
use Rattle.std.proofs.lemmas.Bool.{cases_lt, cases_order, false_from_ne_true, lt-ltb}
use Rattle.std.proofs.lemmas.List.{map-append}
use Rattle.std.proofs.lemmas.List.Quantifiers.{position-Some}
use Rattle.std.proofs.lemmas.List.Sums.{fails_before_first}
use Rattle.std.proofs.lemmas.Slice.Eq.{bytes_eq-Decides}
use Rattle.flex_model.specs.SoundTimes.{AreIds}

pub unchanged : {R X : Type 0} (old new : R → X) (rs : List R) → ((i : ℕ) (d : R) → i < length rs → new (get_or rs i d) ≡ old (get_or rs i d)) → map new rs ≡ map old rs
unchanged old new [] same = refl
unchanged old new (r ∷ rs) same =
    ap (λ x. x ∷ map new rs) (same 0 r (omega arith)) ∙ ap (λ xs. old r ∷ xs) (unchanged old new rs (λ i d low. same (suc i) d (omega arith)))

pub one_changed : {R X : Type 0} (old new : R → X) (change : X → X) (rs : List R) (k : ℕ) (d : X) (e : R) → k < length rs
    → new (get_or rs k e) ≡ change (old (get_or rs k e))
    → ((i : ℕ) (f : R) → i < length rs → i ≢ k → new (get_or rs i f) ≡ old (get_or rs i f))
    → map new rs ≡ set (map old rs) k (change (get_or (map old rs) k d))
one_changed old new change [] k d e low here others = absurd (omega arith)
one_changed old new change (r ∷ rs) zero d e low here others =
    ap (λ x. x ∷ map new rs) here ∙ ap (λ xs. change (old r) ∷ xs) (unchanged old new rs (λ i f lt. others (suc i) f (omega arith) (λ h. omega arith)))
one_changed old new change (r ∷ rs) (suc k) d e low here others =
    ap (λ x. x ∷ map new rs) (others 0 r (omega arith) (λ h. omega arith))
    ∙ ap (λ xs. old r ∷ xs) (one_changed old new change rs k d e (omega arith) here (λ i f lt ne. others (suc i) f (omega arith) (λ h. ne (omega arith))))

-- ---- a text among ids

-- the id at the index of a text is the text
pub found_is : (ids : List (List ℕ)) (text : List ℕ) (k : ℕ) (d : List ℕ) → position (bytes_eq text) ids ≡ Some k → get_or ids k d ≡ text
found_is ids text k d e =
    let p = position-Some (bytes_eq text) ids k d e in
    sym ((bytes_eq-Decides text (get_or ids k d)).0 p.1)

pub found_low : (ids : List (List ℕ)) (text : List ℕ) (k : ℕ) → position (bytes_eq text) ids ≡ Some k → k < length ids
found_low ids text k e = (position-Some (bytes_eq text) ids k [] e).0

-- two different places hold different ids
pub ids_differ : (ids : List (List ℕ)) → AreIds ids → (i j : ℕ) (d : List ℕ) → i < length ids → j < length ids → i ≢ j → get_or ids i d ≢ get_or ids j d
ids_differ ids are i j d low low' differ e = elim (cases_order i j) [
  | inl same ↦ differ same
  | inr (inl lt) ↦ are.distinct i j d lt low' e
  | inr (inr lt) ↦ are.distinct j i d lt low (sym e)
]

pub not_equal : (a b : List ℕ) → a ≢ b → bytes_eq a b ≡ false
not_equal a b differ = false_from_ne_true (bytes_eq a b) (λ e. differ ((bytes_eq-Decides a b).0 e))

pub equal : (a b : List ℕ) → a ≡ b → bytes_eq a b ≡ true
equal a b e = (bytes_eq-Decides a b).1 e

-- a text that isn't found differs from each id
first-test : {X : Type 0} (p : X → Bool) (xs : List X) → position p xs ≡ None → position_or_len p xs < length xs → Some (position_or_len p xs) ≡ None
first-test p xs e lt = sym (ap (λ b. Rattle.std.proofs.Common.cond b (Some (position_or_len p xs)) None) (lt-ltb (position_or_len p xs) (length xs) lt)) ∙ e

pub not_found : (ids : List (List ℕ)) (text : List ℕ) (k : ℕ) (d : List ℕ) → position (bytes_eq text) ids ≡ None → k < length ids → bytes_eq text (get_or ids k d) ≡ false
not_found ids text k d e low = elim (cases_lt (position_or_len (bytes_eq text) ids) (length ids)) [
  | inl lt ↦ let impossible = first-test (bytes_eq text) ids e lt in cc
  | inr le ↦ fails_before_first (bytes_eq text) ids k d (omega arith)
]

-- one more record goes last
pub map_more : {R X Y : Type 0} (f : X → Y) (g : R → X) (rs : List R) (r : R) → map f (map g (rs ++ r ∷ [])) ≡ map f (map g rs) ++ f (g r) ∷ []
map_more f g rs r = ap (map f) (map-append g rs (r ∷ [])) ∙ map-append f (map g rs) (g r ∷ [])
