-- The fields of a record, one after the other.
use Rattle.std.proofs.Common.{◌≡◌, ◌≤◌, ◌<◌, ◌+◌, ℕ, zero, suc, List, [], ◌∷◌, ◌++◌, get_or, length, take, Option, Some, None, Bool, true, false, refl, sym, ap, arith}
use Rattle.std.specs.Prelude.{◌&&◌}
use Rattle.std.specs.List.{list_all}
use Rattle.csv.specs.Records.{field_at}

abbrev pub value-or : {A : Type 0} → A → Option A → A
value-or d None = d
value-or d (Some x) = x

pub some-same : {A : Type 0} {x y : A} → Some x ≡ Some y → x ≡ y
some-same {A} {x} {y} e = ap (value-or x) e

-- one more field
pub field-more : (fields : List (List ℕ)) (i : ℕ) (x : List ℕ) → Some x ≡ field_at fields i → (i < length fields) × (take (i + 1) fields ≡ take i fields ++ x ∷ [])
unfolding field_at
field-more [] i x e = cc e
field-more (f ∷ fs) zero x e = (omega arith, ap (λ y. y ∷ []) (sym (some-same e)))
field-more (f ∷ fs) (suc i) x e =
    let rest = field-more fs i x e in
    let step : suc i + 1 ≡ suc (i + 1) = omega arith in
    (omega (arith, rest.0), rw (step, rest.1) refl)

-- no field is left
pub field-end : (fields : List (List ℕ)) (i : ℕ) → None ≡ field_at fields i → length fields ≤ i
unfolding field_at
field-end [] i e = omega arith
field-end (f ∷ fs) zero e = cc e
field-end (f ∷ fs) (suc i) e = omega (arith, field-end fs i e)

-- a test that each so far passes, and one more
pub all-more : (p : List ℕ → Bool) (xs : List (List ℕ)) (x : List ℕ) → list_all p xs ≡ true → p x ≡ true → list_all p (xs ++ x ∷ []) ≡ true
all-more p [] x h e = rw e refl
all-more p (y ∷ ys) x h e = by (p y) h (λ g. all-more p ys x g e)
  where
    by : (b : Bool) → (b && list_all p ys) ≡ true → (list_all p ys ≡ true → list_all p (ys ++ x ∷ []) ≡ true) → (b && list_all p (ys ++ x ∷ [])) ≡ true
    by true g more = more g
    by false g more = g

-- the field at an index
pub field-get : (fields : List (List ℕ)) (i : ℕ) (x : List ℕ) → Some x ≡ field_at fields i → get_or fields i [] ≡ x
unfolding field_at
field-get [] i x e = cc e
field-get (f ∷ fs) zero x e = sym (some-same e)
field-get (f ∷ fs) (suc i) x e = field-get fs i x e

pub field-past : (fields : List (List ℕ)) (i : ℕ) → None ≡ field_at fields i → get_or fields i [] ≡ []
unfolding field_at
field-past [] i e = refl
field-past (f ∷ fs) zero e = cc e
field-past (f ∷ fs) (suc i) e = field-past fs i e
