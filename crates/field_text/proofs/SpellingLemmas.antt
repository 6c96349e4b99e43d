-- Numbers of a fixed width: their digits, and back.
use Rattle.std.proofs.Common.{◌≡◌, ℕ, zero, suc, ◌+◌, ◌-◌, ◌*◌, ◌/◌, ◌%◌, ◌^◌, ◌<◌, ◌≤◌, true, ◌&&◌, List, [], ◌∷◌, ◌++◌, length, get_or, take, refl, sym, ap, ◌∙◌, arith}
use Rattle.std.specs.Char.{is_ascii_digit}
use Rattle.std.specs.List.{list_all}
use Rattle.std.proofs.lemmas.Bool.{and_from, and_parts}
use Rattle.std.proofs.lemmas.Bool.Decides.{nat_tests}
use Rattle.std.proofs.lemmas.List.{length-append, length-take-le, nil_from_length, take_all, take_more}
use Rattle.std.proofs.lemmas.List.Sums.{fold_push}
use Rattle.std.proofs.Math.Nat.{pow-suc}
use Rattle.field_text.specs.Grammars.{number}
use Rattle.field_text.specs.Texts.{last_digits}

pub number-push : (xs : List ℕ) (x : ℕ) → number (xs ++ x ∷ []) ≡ 10 * number xs + (x - 48)
number-push xs x = fold_push (λ n digit. 10 * n + (digit - 48)) 0 xs x

list_all-push : (xs : List ℕ) (x : ℕ) → list_all is_ascii_digit (xs ++ x ∷ []) ≡ (list_all is_ascii_digit xs && is_ascii_digit x)
list_all-push [] x = grind arith
list_all-push (y ∷ xs) x = let rest = list_all-push xs x in grind arith

pub digit_bounds : (x : ℕ) → is_ascii_digit x ≡ true → (48 ≤ x) × (x ≤ 57)
digit_bounds x h = grind (arith, nat_tests)

pub is_digit : (n : ℕ) → is_ascii_digit (48 + n % 10) ≡ true
is_digit n = grind (arith, nat_tests)

pub length-last_digits : (width n : ℕ) → length (last_digits width n) ≡ width
length-last_digits zero n = refl
length-last_digits (suc width) n = length-append (last_digits width (n / 10)) ((48 + n % 10) ∷ []) ∙ omega (arith, length-last_digits width (n / 10))

pub last_digits-are_digits : (width n : ℕ) → list_all is_ascii_digit (last_digits width n) ≡ true
last_digits-are_digits zero n = refl
last_digits-are_digits (suc width) n = list_all-push (last_digits width (n / 10)) (48 + n % 10) ∙ and_from _ _ (last_digits-are_digits width (n / 10)) (is_digit n)

tenth_below : (width n : ℕ) → n < 10 ^ suc width → n / 10 < 10 ^ width
tenth_below width n small = omega (arith, pow-suc 10 width)

-- the digits of a number that has no more write it
pub number-last_digits : (width n : ℕ) → n < 10 ^ width → number (last_digits width n) ≡ n
number-last_digits zero n small = omega arith
number-last_digits (suc width) n small =
    let front = number-last_digits width (n / 10) (tenth_below width n small) in
    number-push (last_digits width (n / 10)) (48 + n % 10) ∙ omega (arith, front)

-- the last digit takes its place
last_digits-push : (width n x : ℕ) → is_ascii_digit x ≡ true → last_digits (suc width) (10 * n + (x - 48)) ≡ last_digits width n ++ x ∷ []
last_digits-push width n x digit =
    let bounds = digit_bounds x digit in
    let tens : (10 * n + (x - 48)) / 10 ≡ n = omega arith in
    let ones : 48 + (10 * n + (x - 48)) % 10 ≡ x = omega arith in
    ap (λ k. last_digits width k ++ (48 + (10 * n + (x - 48)) % 10) ∷ []) tens ∙ ap (λ k. last_digits width n ++ k ∷ []) ones

-- and digits are those of the number that they write
pub last_digits-number : (width : ℕ) (xs : List ℕ) → length xs ≡ width → list_all is_ascii_digit xs ≡ true → last_digits width (number xs) ≡ xs
last_digits-number zero xs len digits = sym (nil_from_length xs len)
last_digits-number (suc width) xs len digits =
    let front = take width xs in
    let x = get_or xs width 0 in
    let whole : xs ≡ front ++ x ∷ [] = sym (take_all (width + 1) xs (omega arith)) ∙ take_more xs width 0 (omega arith) in
    let short : length front ≡ width = length-take-le width xs (omega arith) in
    let parts = and_parts _ _ (sym (list_all-push front x) ∙ ap (list_all is_ascii_digit) (sym whole) ∙ digits) in
    ap (λ ys. last_digits (suc width) (number ys)) whole ∙ ap (last_digits (suc width)) (number-push front x)
    ∙ last_digits-push width (number front) x parts.1 ∙ ap (λ ys. ys ++ x ∷ []) (last_digits-number width front short parts.0) ∙ sym whole
