-- The size of a degree: the number of the digits that count, with zeros past their end.
use Rattle.std.proofs.Common.{◌≡◌, ℕ, zero, suc, ◌+◌, ◌-◌, ◌*◌, ◌/◌, ◌^◌, ◌<◌, ◌≤◌, min, Bool, true, false, ◌&&◌, cond, nat_le, List, [], ◌∷◌, ◌++◌, length, take, drop, ℤ, pos, negsuc, ◌+ℤ◌, ◌-ℤ◌, ◌≤ℤ◌, Some, None, ◌⊎◌, inl, inr, refl, sym, ap, ◌∙◌, arith, take-append-drop}
use Rattle.std.proofs.lemmas.Bool.{and_from, and_parts, cases_lt, le-leb}
use Rattle.std.proofs.lemmas.List.{length-append, length-drop, take_all, take_min}
use Rattle.std.proofs.lemmas.List.Folds.{list_all-append}
use Rattle.std.proofs.lemmas.Nat.{div-mul-add}
use Rattle.std.proofs.Math.Nat.{div-eq_of_lt, le-mul_of_pos_right, mul-le-mul_right, pow-suc}
use Rattle.std.specs.Char.{is_ascii_digit}
use Rattle.std.specs.List.{list_all}
use Rattle.jiff_core.proofs.SignedLemmas.{signed_arith}
use Rattle.field_text.specs.Grammars.{digits_within, has_digits, lies_in, number, number_after, scaled, signed, some_if}
use Rattle.field_text.proofs.DateLemmas.{lies_in-bounds, lies_in-from}
use Rattle.field_text.proofs.NumberLemmas.{le-number_after, none_past, number_after-append, some_up_to}
use Rattle.field_text.proofs.SpellingLemmas.{digit_bounds}

-- a number that isn't there is past the greatest
past_from_none : (n greatest : ℕ) → None ≡ some_if (nat_le n greatest) n → greatest < n
past_from_none n greatest none =
    elim (cases_lt greatest n) [ inl past ↦ past | inr within ↦ absurd (differ (none ∙ sym (some_up_to n greatest within))) ]
  where
    differ : None ≡ Some n → ⊥
    differ e = cc

pub pow_positive : (k : ℕ) → 0 < 10 ^ k
pow_positive zero = omega arith
pow_positive (suc k) = omega (arith, pow_positive k, pow-suc 10 k)

pow-add-le : (k j : ℕ) → 10 ^ k ≤ 10 ^ (j + k)
pow-add-le k zero = let same : 0 + k ≡ k = omega arith in rw same (omega arith)
pow-add-le k (suc j) =
    let next : suc j + k ≡ suc (j + k) = omega arith in
    rw next (omega (arith, pow-add-le k j, pow-suc 10 (j + k)))

pub pow_mono : (k n : ℕ) → k ≤ n → 10 ^ k ≤ 10 ^ n
pow_mono k n h = let same : n - k + k ≡ n = omega arith in rw same at (pow-add-le k (n - k))

take-append : {X : Type 0} (n : ℕ) (xs ys : List X) → take n (xs ++ ys) ≡ take n xs ++ take (n - length xs) ys
take-append zero xs ys = let none : 0 - length xs ≡ 0 = omega arith in rw none refl
take-append (suc n) [] ys = let all : suc n - 0 ≡ suc n = omega arith in rw all refl
take-append (suc n) (x ∷ xs) ys =
    let back : suc n - suc (length xs) ≡ n - length xs = omega arith in
    ap (λ zs. x ∷ zs) (take-append n xs ys ∙ ap (λ k. take n xs ++ take k ys) (sym back))

-- the digits that count, taken from both sides of the point
pub kept_value : (whole fraction : List ℕ) (kept of_whole of_fraction : ℕ) → of_whole ≡ min kept (length whole) → of_fraction ≡ min (kept - of_whole) (length fraction)
    → number_after (number (take of_whole whole)) (take of_fraction fraction) * 10 ^ (kept - of_whole - of_fraction)
    ≡ number (take kept (whole ++ fraction)) * 10 ^ (kept - length (whole ++ fraction))
kept_value whole fraction kept of_whole of_fraction first then =
    let past : kept - length whole ≡ kept - of_whole = omega arith in
    let front : take of_whole whole ≡ take kept whole = ap (λ n. take n whole) first ∙ take_min kept whole in
    let back : take of_fraction fraction ≡ take (kept - length whole) fraction =
    ap (λ n. take n fraction) then ∙ take_min (kept - of_whole) fraction ∙ ap (λ n. take n fraction) (sym past) in
    let digits : number_after (number (take of_whole whole)) (take of_fraction fraction) ≡ number (take kept (whole ++ fraction)) =
    ap (λ xs. number_after (number xs) (take of_fraction fraction)) front
    ∙ ap (number_after (number (take kept whole))) back
    ∙ sym (number_after-append 0 (take kept whole) (take (kept - length whole) fraction))
    ∙ ap number (sym (take-append kept whole fraction)) in
    let zeros : kept - of_whole - of_fraction ≡ kept - length (whole ++ fraction) = omega (arith, length-append whole fraction) in
    ap (λ n. n * 10 ^ (kept - of_whole - of_fraction)) digits ∙ ap (λ n. number (take kept (whole ++ fraction)) * 10 ^ n) zeros

-- where a front of the digits is past the greatest number, so are all with zeros after them
none_by_front : (front value zeros greatest : ℕ) → front ≤ value → greatest < front → None ≡ some_if (nat_le (value * 10 ^ zeros) greatest) (value * 10 ^ zeros)
none_by_front front value zeros greatest low past =
    none_past (value * 10 ^ zeros) greatest (omega (arith, le-mul_of_pos_right value (pow_positive zeros)))

-- an exit before all digits are read
pub none_by_whole : (whole fraction : List ℕ) (kept of_whole of_fraction greatest : ℕ) → of_whole ≡ min kept (length whole) → of_fraction ≡ min (kept - of_whole) (length fraction)
    → None ≡ some_if (nat_le (number (take of_whole whole)) greatest) (number (take of_whole whole))
    → None ≡ some_if (nat_le (number (take kept (whole ++ fraction)) * 10 ^ (kept - length (whole ++ fraction))) greatest) (number (take kept (whole ++ fraction)) * 10 ^ (kept - length (whole ++ fraction)))
none_by_whole whole fraction kept of_whole of_fraction greatest first then none =
    none_by_front (number (take of_whole whole)) (number_after (number (take of_whole whole)) (take of_fraction fraction)) (kept - of_whole - of_fraction) greatest
    (le-number_after (number (take of_whole whole)) (take of_fraction fraction)) (past_from_none _ greatest none)
    ∙ ap (λ n. some_if (nat_le n greatest) n) (kept_value whole fraction kept of_whole of_fraction first then)

pub none_by_fraction : (whole fraction : List ℕ) (kept of_whole of_fraction greatest : ℕ) → of_whole ≡ min kept (length whole) → of_fraction ≡ min (kept - of_whole) (length fraction)
    → (let n = number_after (number (take of_whole whole)) (take of_fraction fraction) in None ≡ some_if (nat_le n greatest) n)
    → None ≡ some_if (nat_le (number (take kept (whole ++ fraction)) * 10 ^ (kept - length (whole ++ fraction))) greatest) (number (take kept (whole ++ fraction)) * 10 ^ (kept - length (whole ++ fraction)))
none_by_fraction whole fraction kept of_whole of_fraction greatest first then none =
    none_by_front (number_after (number (take of_whole whole)) (take of_fraction fraction)) (number_after (number (take of_whole whole)) (take of_fraction fraction)) (kept - of_whole - of_fraction) greatest
    (omega arith) (past_from_none _ greatest none)
    ∙ ap (λ n. some_if (nat_le n greatest) n) (kept_value whole fraction kept of_whole of_fraction first then)

shift_step : (b d p n : ℕ) → (10 * b + d) * p + n ≡ b * (p * 10) + (d * p + n)
shift_step b d p n = omega arith

number_after-shift : (before : ℕ) (xs : List ℕ) → number_after before xs ≡ before * 10 ^ length xs + number xs
number_after-shift before [] = omega arith
number_after-shift before (x ∷ xs) =
    let p = 10 ^ length xs in
    let all = number_after-shift (10 * before + (x - 48)) xs in
    let own : number (x ∷ xs) ≡ (x - 48) * p + number xs = number_after-shift (0 + (x - 48)) xs ∙ omega arith in
    all ∙ shift_step before (x - 48) p (number xs) ∙ ap (λ n. before * (p * 10) + n) (sym own) ∙ ap (λ n. before * n + number (x ∷ xs)) (sym (pow-suc 10 (length xs)))

lt_step : (d p n : ℕ) → d ≤ 9 → n < p → d * p + n < p * 10
lt_step d p n small below = omega (arith, mul-le-mul_right p small)

-- digits write less than a power of ten
number-lt : (xs : List ℕ) → list_all is_ascii_digit xs ≡ true → number xs < 10 ^ length xs
number-lt [] digits = omega arith
number-lt (x ∷ xs) digits =
    let parts = and_parts (is_ascii_digit x) (list_all is_ascii_digit xs) digits in
    let bounds = digit_bounds x parts.0 in
    let p = 10 ^ length xs in
    let own : number (x ∷ xs) ≡ (x - 48) * p + number xs = number_after-shift (0 + (x - 48)) xs ∙ omega arith in
    let below : (x - 48) * p + number xs < p * 10 = lt_step (x - 48) p (number xs) (omega arith) (number-lt xs parts.1) in
    omega (arith, own, below, pow-suc 10 (length xs))

digits-drop : (xs : List ℕ) (k : ℕ) → list_all is_ascii_digit xs ≡ true → list_all is_ascii_digit (drop k xs) ≡ true
digits-drop xs k digits =
    (and_parts (list_all is_ascii_digit (take k xs)) (list_all is_ascii_digit (drop k xs))
    (sym (list_all-append is_ascii_digit (take k xs) (drop k xs)) ∙ ap (list_all is_ascii_digit) (take-append-drop k xs) ∙ digits)).1

-- digits cut before their end
number-cut : (xs : List ℕ) (k : ℕ) → list_all is_ascii_digit xs ≡ true → number xs / 10 ^ (length xs - k) ≡ number (take k xs)
number-cut xs k digits =
    let rest = drop k xs in
    let split : number xs ≡ number (take k xs) * 10 ^ length rest + number rest =
    ap number (sym (take-append-drop k xs)) ∙ number_after-append 0 (take k xs) rest ∙ number_after-shift (number (take k xs)) rest in
    ap (λ n. number xs / 10 ^ n) (sym (length-drop k xs)) ∙ ap (λ n. n / 10 ^ length rest) split
    ∙ div-mul-add (number (take k xs)) (10 ^ length rest) (number rest) (number-lt rest (digits-drop xs k digits))

-- or before their beginning
number-gone : (xs : List ℕ) (e : ℕ) → list_all is_ascii_digit xs ≡ true → length xs ≤ e → number xs / 10 ^ e ≡ 0
number-gone xs e digits past =
    let small : number xs < 10 ^ e = omega (arith, number-lt xs digits, pow_mono (length xs) e past) in
    div-eq_of_lt small

up : (xs : List ℕ) (p kept : ℕ) → kept ≡ p + length xs → scaled (number xs) (pos p) ≡ number (take kept xs) * 10 ^ (kept - length xs)
up xs p kept e =
    let zeros : p ≡ kept - length xs = omega arith in
    ap (λ b. cond b (number xs * 10 ^ p) (number xs / 10 ^ p)) (le-leb 0 p (omega arith))
    ∙ ap (λ n. number xs * 10 ^ n) zeros
    ∙ ap (λ ys. number ys * 10 ^ (kept - length xs)) (sym (take_all kept xs (omega arith)))

down : (xs : List ℕ) (q kept : ℕ) → list_all is_ascii_digit xs ≡ true → suc q ≡ length xs - kept → scaled (number xs) (negsuc q) ≡ number (take kept xs) * 10 ^ (kept - length xs)
down xs q kept digits cut =
    let none : 0 ≡ kept - length xs = omega arith in
    ap (λ n. number xs / 10 ^ n) cut ∙ number-cut xs kept digits ∙ one (number (take kept xs)) ∙ ap (λ n. number (take kept xs) * 10 ^ n) none
  where
    one : (n : ℕ) → n ≡ n * 10 ^ 0
    one n = omega arith

gone : (xs : List ℕ) (q kept : ℕ) → list_all is_ascii_digit xs ≡ true → length xs ≤ suc q → kept ≡ 0 → scaled (number xs) (negsuc q) ≡ number (take kept xs) * 10 ^ (kept - length xs)
gone xs q kept digits past none =
    number-gone xs (suc q) digits past ∙ nothing (10 ^ (0 - length xs)) ∙ ap (λ k. number (take k xs) * 10 ^ (k - length xs)) (sym none)
  where
    nothing : (n : ℕ) → 0 ≡ 0 * n
    nothing n = omega arith

-- A numeral times a power of ten, cut, is the number of its first digits with zeros past their end.
pub scaled-kept : (xs : List ℕ) (power : ℤ) (kept : ℕ) → list_all is_ascii_digit xs ≡ true
    → (power +ℤ pos (length xs) ≡ pos kept) ⊎ (((power +ℤ pos (length xs)) ≤ℤ pos 0) × (kept ≡ 0))
    → scaled (number xs) power ≡ number (take kept xs) * 10 ^ (kept - length xs)
scaled-kept xs (pos p) kept digits (inl same) = up xs p kept (omega (arith, signed_arith, same))
scaled-kept xs (pos p) kept digits (inr (past, none)) = up xs p kept (omega (arith, signed_arith, past, none))
scaled-kept xs (negsuc q) kept digits (inl same) = down xs q kept digits (omega (arith, signed_arith, same))
scaled-kept xs (negsuc q) kept digits (inr (past, none)) = gone xs q kept digits (omega (arith, signed_arith, past)) none

-- how many digits count, by the place of the unit
pub kept_place : (whole_len all kept e : ℕ) (is_small : Bool) (fraction_len : ℕ) → all ≡ whole_len + fraction_len
    → kept ≡ cond is_small (whole_len + 15 - e) (whole_len + 15 + e)
    → ((signed is_small e -ℤ pos fraction_len) +ℤ pos 15 +ℤ pos all ≡ pos kept) ⊎ ((((signed is_small e -ℤ pos fraction_len) +ℤ pos 15 +ℤ pos all) ≤ℤ pos 0) × (kept ≡ 0))
kept_place whole_len all kept e true fraction_len sum is =
    elim (cases_lt (whole_len + 15) e) [ inl past ↦ inr (omega (arith, signed_arith), omega arith) | inr within ↦ inl (omega (arith, signed_arith)) ]
kept_place whole_len all kept e false fraction_len sum is = inl (omega (arith, signed_arith))

-- the size of a numeral
pub size_is : (whole fraction : List ℕ) (is_small : Bool) (e kept : ℕ) → list_all is_ascii_digit (whole ++ fraction) ≡ true
    → kept ≡ cond is_small (length whole + 15 - e) (length whole + 15 + e)
    → number (take kept (whole ++ fraction)) * 10 ^ (kept - length (whole ++ fraction)) ≡ scaled (number (whole ++ fraction)) ((signed is_small e -ℤ pos (length fraction)) +ℤ pos 15)
size_is whole fraction is_small e kept digits is =
    sym (scaled-kept (whole ++ fraction) ((signed is_small e -ℤ pos (length fraction)) +ℤ pos 15) kept digits
    (kept_place (length whole) (length (whole ++ fraction)) kept e is_small (length fraction) (length-append whole fraction) is))

-- so many digits write a number up to the greatest of that width
pub digits_within-width : (fewest most greatest : ℕ) (xs : List ℕ) → greatest + 1 ≡ 10 ^ most → digits_within fewest most greatest xs ≡ some_if (has_digits fewest most xs) (number xs)
digits_within-width fewest most greatest xs width = by_digits (has_digits fewest most xs) refl
  where
    by_digits : (b : Bool) → has_digits fewest most xs ≡ b → digits_within fewest most greatest xs ≡ some_if b (number xs)
    by_digits true is =
        let parts = and_parts (list_all is_ascii_digit xs) (lies_in fewest most (length xs)) is in
        let bounds = lies_in-bounds fewest most (length xs) parts.1 in
        let small : number xs ≤ greatest = omega (arith, width, number-lt xs parts.0, pow_mono (length xs) most bounds.1) in
        ap (λ t. some_if t (number xs)) (and_from _ _ is (le-leb (number xs) greatest small))
    by_digits false is = ap (λ t. some_if (t && nat_le (number xs) greatest) (number xs)) is

pub digits_of_parts : (whole fraction : List ℕ) → list_all is_ascii_digit whole ≡ true → list_all is_ascii_digit fraction ≡ true → list_all is_ascii_digit (whole ++ fraction) ≡ true
digits_of_parts whole fraction first then = list_all-append is_ascii_digit whole fraction ∙ and_from _ _ first then

pub has_digits_of_parts : (whole fraction : List ℕ) → list_all is_ascii_digit whole ≡ true → list_all is_ascii_digit fraction ≡ true → (length whole + length fraction ≡ 0 → ⊥) → length whole + length fraction ≤ 64
    → has_digits 1 64 (whole ++ fraction) ≡ true
has_digits_of_parts whole fraction first then some short =
    and_from _ _ (digits_of_parts whole fraction first then)
    (lies_in-from 1 64 (length (whole ++ fraction)) (omega (arith, length-append whole fraction, some)) (omega (arith, length-append whole fraction)))
