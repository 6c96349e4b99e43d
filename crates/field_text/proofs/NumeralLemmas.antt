-- A text is read as its parts are.
use Rattle.std.proofs.Common.{◌≡◌, ℕ, suc, ◌+◌, Bool, true, false, not, ◌&&◌, ◌||◌, cond, ltb, nat_le, List, [], ◌∷◌, length, ℤ, pos, ◌+ℤ◌, ◌-ℤ◌, ◌≤ℤ◌, int_le, unsigned_abs, Option, Some, None, Result, Ok, Err, IfOk, ◌++◌, refl, sym, ap, ◌∙◌, arith, inl, inr}
use Rattle.std.specs.Prelude.{is_some, position, unwrap_or}
use Rattle.std.specs.List.{after_first, before_first, list_any, position_or_len}
use Rattle.std.proofs.lemmas.Bool.{and_parts, cases_lt, le-ltb, lt-ltb}
use Rattle.std.proofs.lemmas.List.Sums.{prefix_len-le-length}
use Rattle.std.specs.Result.{result_ok}
use Rattle.jiff_core.proofs.SignedLemmas.{signed_arith}
use Rattle.field_text.specs.Grammars.{degree_within, has_digits, is_exponent_mark, is_minus, is_point, number, scaled, signed, some_if, unsigned}
use Rattle.field_text.proofs.NumberLemmas.{some_if-passed}
use borrow.Author.Differences.{le-true}

-- the place of the first that passes, or the end
pub unwrap_or-position : (p : ℕ → Bool) (xs : List ℕ) → unwrap_or (position p xs) (length xs) ≡ position_or_len p xs
unwrap_or-position p xs =
    let k = position_or_len p xs in
    elim (cases_lt k (length xs)) [
      | inl within ↦ ap (λ b. unwrap_or (cond b (Some k) None) (length xs)) (lt-ltb k (length xs) within)
      | inr past ↦ ap (λ b. unwrap_or (cond b (Some k) None) (length xs)) (le-ltb k (length xs) past) ∙ omega (arith, prefix_len-le-length (λ x. not (p x)) xs)
    ]

ltb-suc : (k n : ℕ) → ltb (1 + k) (suc n) ≡ ltb k n
ltb-suc k n =
    elim (cases_lt k n) [
      | inl within ↦ lt-ltb (1 + k) (suc n) (omega arith) ∙ sym (lt-ltb k n within)
      | inr past ↦ le-ltb (1 + k) (suc n) (omega arith) ∙ sym (le-ltb k n past)
    ]

one_more : (passes : Bool) (k n : ℕ) (any : Bool) → ltb k n ≡ any → ltb (cond (not passes) (1 + k) 0) (suc n) ≡ (passes || any)
one_more true k n any e = lt-ltb 0 (suc n) (omega arith)
one_more false k n any e = ltb-suc k n ∙ e

is_within : (p : ℕ → Bool) (xs : List ℕ) → ltb (position_or_len p xs) (length xs) ≡ list_any p xs
is_within p [] = refl
is_within p (x ∷ xs) = one_more (p x) (position_or_len p xs) (length xs) (list_any p xs) (is_within p xs)

is_some-cond : (b : Bool) (k : ℕ) → is_some (cond b (Some k) None) ≡ b
is_some-cond true k = refl
is_some-cond false k = refl

-- one passes just where the first has a place
pub is_some-position : (p : ℕ → Bool) (xs : List ℕ) → is_some (position p xs) ≡ list_any p xs
is_some-position p xs = is_some-cond (ltb (position_or_len p xs) (length xs)) (position_or_len p xs) ∙ is_within p xs

-- the degree of the parts of a text
abbrev degree_of_parts : ℤ → Bool → List ℕ → List ℕ → Bool → Bool → List ℕ → Option ℤ
degree_of_parts greatest negative whole fraction given small digits =
    let size = scaled (number (whole ++ fraction)) ((signed small (number digits) -ℤ pos (length fraction)) +ℤ pos 15) in
    some_if (has_digits 1 64 (whole ++ fraction) && (not given || has_digits 1 4 digits) && int_le (pos size) greatest) (signed negative size)

short_first : (short digits exponent within : Bool) (v : ℤ) → some_if (short && digits && exponent && within) v ≡ cond short (some_if (digits && exponent && within) v) None
short_first true digits exponent within v = refl
short_first false digits exponent within v = refl

pub degree-in_parts : (greatest : ℤ) (text numeral exponent mantissa whole fraction digits : List ℕ) (negative given small : Bool)
    → numeral ≡ before_first is_exponent_mark text → exponent ≡ after_first is_exponent_mark text → negative ≡ is_minus numeral → mantissa ≡ unsigned numeral
    → whole ≡ before_first is_point mantissa → fraction ≡ after_first is_point mantissa → given ≡ list_any is_exponent_mark text → small ≡ is_minus exponent → digits ≡ unsigned exponent
    → degree_within greatest text ≡ cond (nat_le (length text) 64) (degree_of_parts greatest negative whole fraction given small digits) None
degree-in_parts greatest text numeral exponent mantissa whole fraction digits negative given small at_numeral at_exponent at_negative at_mantissa at_whole at_fraction at_given at_small at_digits =
    let n = before_first is_exponent_mark text in
    let e = after_first is_exponent_mark text in
    let w = before_first is_point (unsigned n) in
    let f = after_first is_point (unsigned n) in
    let size = scaled (number (w ++ f)) ((signed (is_minus e) (number (unsigned e)) -ℤ pos (length f)) +ℤ pos 15) in
    let as_mantissa : mantissa ≡ unsigned n = at_mantissa ∙ ap unsigned at_numeral in
    let short = nat_le (length text) 64 in
    short_first short (has_digits 1 64 (w ++ f)) (not (list_any is_exponent_mark text) || has_digits 1 4 (unsigned e)) (int_le (pos size) greatest) (signed (is_minus n) size)
    ∙ ap (λ b. cond short (degree_of_parts greatest b w f (list_any is_exponent_mark text) (is_minus e) (unsigned e)) None) (sym (at_negative ∙ ap is_minus at_numeral))
    ∙ ap (λ xs. cond short (degree_of_parts greatest negative xs f (list_any is_exponent_mark text) (is_minus e) (unsigned e)) None) (sym (at_whole ∙ ap (before_first is_point) as_mantissa))
    ∙ ap (λ xs. cond short (degree_of_parts greatest negative whole xs (list_any is_exponent_mark text) (is_minus e) (unsigned e)) None) (sym (at_fraction ∙ ap (after_first is_point) as_mantissa))
    ∙ ap (λ b. cond short (degree_of_parts greatest negative whole fraction b (is_minus e) (unsigned e)) None) (sym at_given)
    ∙ ap (λ b. cond short (degree_of_parts greatest negative whole fraction given b (unsigned e)) None) (sym (at_small ∙ ap is_minus at_exponent))
    ∙ ap (λ xs. cond short (degree_of_parts greatest negative whole fraction given small xs) None) (sym (at_digits ∙ ap unsigned at_exponent))

unsigned_abs-signed : (negative : Bool) (size : ℕ) → unsigned_abs (signed negative size) ≡ size
unsigned_abs-signed true size = omega (arith, signed_arith)
unsigned_abs-signed false size = refl

-- a degree is no greater than the greatest
pub degree_within-bound : (greatest : ℤ) (text : List ℕ) (degree : ℤ) → degree_within greatest text ≡ Some degree → pos (unsigned_abs degree) ≤ℤ greatest
degree_within-bound greatest text degree is =
    let read = some_if-passed _ _ _ (sym is) in
    let e = after_first is_exponent_mark text in
    let n = before_first is_exponent_mark text in
    let w = before_first is_point (unsigned n) in
    let f = after_first is_point (unsigned n) in
    let size = scaled (number (w ++ f)) ((signed (is_minus e) (number (unsigned e)) -ℤ pos (length f)) +ℤ pos 15) in
    let within = le-true (pos size) greatest (and_parts _ _ read.0).1 in
    let same : unsigned_abs degree ≡ size = ap unsigned_abs read.1 ∙ unsigned_abs-signed (is_minus n) size in
    omega (arith, signed_arith, within, same)

pub bound_if_read : {E : Type 0} (greatest : ℤ) (text : List ℕ) (r : Result ℤ E) → result_ok r ≡ degree_within greatest text → IfOk r (λ degree. pos (unsigned_abs degree) ≤ℤ greatest)
bound_if_read greatest text (Ok degree) e = degree_within-bound greatest text degree (sym e)
bound_if_read greatest text (Err error) e = tt
