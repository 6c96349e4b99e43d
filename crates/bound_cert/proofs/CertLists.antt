-- Lists of values, and examples of them.
use Rattle.std.proofs.Common.{◌≡◌, ℕ, zero, suc, ◌+◌, Bool, true, false, ◌||◌, pos, List, [], ◌∷◌, ◌++◌, slice_get, All, Option, Some, None, refl, sym, ap, ◌∙◌, arith, inl, inr, lit<}
use Rattle.std.specs.List.{flat_map, list_any}
use Rattle.std.proofs.lemmas.Bool.{false≢true, or_cases}
use Rattle.std.proofs.lemmas.Int.{ints}
use Rattle.std.proofs.lemmas.List.Concat.{flat_map-cons}
use Rattle.std.proofs.lemmas.List.Elements.{All-cons, All-nil}
use Rattle.bound_cert.proofs.LineLaws.{IsStart}
use Rattle.bound_cert.proofs.Readers.{AllFrom, SoMany, texts_from}
use Rattle.field_text.specs.Texts.{IsPrintableDay, IsPrintableMoment}

-- ---- lists of values

pub all_first : {A : Type 0} (P : A → Type 0) (x : A) (xs : List A) → All P (x ∷ xs) → P x
all_first P x xs all = all 0 x (omega arith)

pub all_rest : {A : Type 0} (P : A → Type 0) (x : A) (xs : List A) → All P (x ∷ xs) → All P xs
all_rest P x xs all k d low = all (suc k) d (omega (arith, low))

module _ {A : Type 0} (Valid Printable : A → Type 0) where
  pub all_to : ((x : A) → Valid x → Printable x) → (k : ℕ) (xs : List A) → AllFrom (λ k. Valid) k xs → All Printable xs
  all_to to k [] all = All-nil Printable
  all_to to k (x ∷ xs) all = All-cons Printable x xs (to x all.0) (all_to to (k + 1) xs all.1)

  pub all_from : ((x : A) → Printable x → Valid x) → (k : ℕ) (xs : List A) → All Printable xs → AllFrom (λ k. Valid) k xs
  all_from from k [] all = tt
  all_from from k (x ∷ xs) all = (from x (all_first Printable x xs all), all_from from (k + 1) xs (all_rest Printable x xs all))

-- two facts on each item
pub all_both : {A : Type 0} (P Q : A → Type 0) (xs : List A) → All P xs → All Q xs → All (λ x. P x × Q x) xs
all_both P Q xs first second k d low = (first k d low, second k d low)

pub flat_texts : {A : Type 0} (Valid : A → Type 0) (words text' : A → List ℕ) → ((x : A) → Valid x → words x ≡ text' x) → (k : ℕ) (xs : List A) → AllFrom (λ k. Valid) k xs
    → texts_from (λ k. words) k xs ≡ flat_map text' xs
unfolding texts_from
flat_texts Valid words text' same k [] all = refl
flat_texts Valid words text' same k (x ∷ xs) all =
    ap (λ (z : List ℕ). z ++ texts_from (λ k. words) (k + 1) xs) (same x all.0)
    ∙ ap (λ (z : List ℕ). text' x ++ z) (flat_texts Valid words text' same (k + 1) xs all.1) ∙ sym (flat_map-cons text' x xs)

pub copies_of : {A : Type 0} (Valid : A → Type 0) (a : A) → Valid a → (k n : ℕ) → (xs : List A) × SoMany (λ k. Valid) k n xs
copies_of Valid a valid k zero = ([], (refl, tt))
copies_of Valid a valid k (suc n) = let more = copies_of Valid a valid (k + 1) n in (a ∷ more.0, (ap suc more.1.0, (valid, more.1.1)))

-- an item that passes
pub some_item : {A : Type 0} (p : A → Bool) (xs : List A) → list_any p xs ≡ true → (k : ℕ) × (x : A) × (slice_get xs k ≡ Some x) × (p x ≡ true)
some_item p [] h = absurd (false≢true h)
some_item p (x ∷ xs) h = elim (or_cases (p x) (list_any p xs) h) [
  | inl here ↦ (0, x, refl, here)
  | inr there ↦ let more = some_item p xs there in (suc more.0, more.1, more.2, more.3)
]

pub or_true : (b : Bool) → (b || true) ≡ true
or_true true = refl
or_true false = refl

pub or_false : (b : Bool) → (b || false) ≡ b
or_false true = refl
or_false false = refl

pub or_assoc : (a b c : Bool) → (a || (b || c)) ≡ ((a || b) || c)
or_assoc true b c = refl
or_assoc false b c = refl

pub yes_no : true ≡ false → ⊥
yes_no h = false≢true (sym h)

pub first_day : IsPrintableDay (pos 0)
first_day = record { low = omega (arith, ints); high = omega (arith, ints) }

pub first_moment : IsPrintableMoment (pos 315532800)
first_moment = record { low = omega (arith, ints); high = omega (arith, ints) }

-- a start, where one is wanted
pub start_one : Bool → Option ℕ
start_one true = Some 0
start_one false = None

pub start_one-is : (b : Bool) → IsStart b (start_one b)
unfolding start_one
start_one-is true = (lit< tt, refl)
start_one-is false = (tt, refl)
