-- Printed texts are words: they have no blank, no line end and no byte past ASCII.
use Rattle.std.proofs.Common.{◌≡◌, ℕ, ◌/◌, ◌%◌, ◌^◌, ◌<◌, Bool, true, ltb, List, [], ◌∷◌, ◌++◌, ℤ, pos, IsUtf8, refl, ap, ◌∙◌, inl, inr, arith}
use Rattle.std.specs.Prelude.{decimal, unsigned_abs}
use Rattle.std.specs.Char.{is_ascii_digit}
use Rattle.std.specs.Int.{int_div_euclid, int_rem_euclid}
use Rattle.std.specs.List.{list_all}
use Rattle.std.proofs.lemmas.Bool.{and_from, and_parts, cases_Bool, ltb-true}
use Rattle.std.proofs.lemmas.Bool.Decides.{nat_tests}
use Rattle.std.proofs.lemmas.List.Folds.{list_all-append}
use Rattle.field_text.specs.Grammars.{escape, escaped_byte, hex_digit, stands_for_itself, lies_in}
use Rattle.field_text.specs.Texts.{clock_text, date_text, day_of_month, last_digits, moment_text, month_of, year_of}
use Rattle.field_text.proofs.DecimalLemmas.{decimal-are_digits}
use Rattle.field_text.proofs.EscapeLemmas.{escaped_byte-other, escaped_byte-plain, utf8-bytes}
use Rattle.field_text.proofs.SpellingLemmas.{last_digits-are_digits}

-- a byte from ! to ~
abbrev pub is_graphic : ℕ → Bool
is_graphic b = lies_in 33 126 b

digit-graphic : (b : ℕ) → is_ascii_digit b ≡ true → is_graphic b ≡ true
digit-graphic b h = grind (arith, nat_tests)

digits-graphic : (xs : List ℕ) → list_all is_ascii_digit xs ≡ true → list_all is_graphic xs ≡ true
digits-graphic [] h = refl
digits-graphic (x ∷ xs) h =
    let parts = and_parts (is_ascii_digit x) (list_all is_ascii_digit xs) h in
    and_from _ _ (digit-graphic x parts.0) (digits-graphic xs parts.1)

join : (xs ys : List ℕ) → list_all is_graphic xs ≡ true → list_all is_graphic ys ≡ true → list_all is_graphic (xs ++ ys) ≡ true
join xs ys first then = list_all-append is_graphic xs ys ∙ and_from _ _ first then

last_digits-graphic : (width n : ℕ) → list_all is_graphic (last_digits width n) ≡ true
last_digits-graphic width n = digits-graphic (last_digits width n) (last_digits-are_digits width n)

pub decimal-graphic : (n : ℕ) → n < 2 ^ 64 → list_all is_graphic (decimal n) ≡ true
decimal-graphic n small = digits-graphic (decimal n) (decimal-are_digits n small)

pub date_text-graphic : (day : ℤ) → list_all is_graphic (date_text day) ≡ true
unfolding date_text
date_text-graphic day =
    join (last_digits 4 (year_of day) ++ last_digits 2 (month_of day)) (last_digits 2 (day_of_month day))
    (join (last_digits 4 (year_of day)) (last_digits 2 (month_of day)) (last_digits-graphic 4 (year_of day)) (last_digits-graphic 2 (month_of day)))
    (last_digits-graphic 2 (day_of_month day))

-- a front of digits and a mark
marked-graphic : (front : List ℕ) (width n b : ℕ) → is_graphic b ≡ true → list_all is_graphic front ≡ true → list_all is_graphic (front ++ last_digits width n ++ b ∷ []) ≡ true
marked-graphic front width n b mark h =
    join (front ++ last_digits width n) (b ∷ []) (join front (last_digits width n) h (last_digits-graphic width n)) (and_from _ _ mark refl)

clock_text-graphic : (second : ℕ) → list_all is_graphic (clock_text second) ≡ true
clock_text-graphic second =
    let h = last_digits 2 (second / 3600) ++ 58 ∷ [] in
    let m = h ++ last_digits 2 (second / 60 % 60) ++ 58 ∷ [] in
    join m (last_digits 2 (second % 60))
    (marked-graphic h 2 (second / 60 % 60) 58 refl (marked-graphic [] 2 (second / 3600) 58 refl refl)) (last_digits-graphic 2 (second % 60))

pub moment_text-graphic : (moment : ℤ) → list_all is_graphic (moment_text moment) ≡ true
unfolding moment_text
moment_text-graphic moment =
    let day = int_div_euclid moment (pos 86400) in
    let second = unsigned_abs (int_rem_euclid moment (pos 86400)) in
    let y = last_digits 4 (year_of day) ++ 45 ∷ [] in
    let m = y ++ last_digits 2 (month_of day) ++ 45 ∷ [] in
    let d = m ++ last_digits 2 (day_of_month day) ++ 84 ∷ [] in
    let years = marked-graphic [] 4 (year_of day) 45 refl refl in
    let months = marked-graphic y 2 (month_of day) 45 refl years in
    let days = marked-graphic m 2 (day_of_month day) 84 refl months in
    join (d ++ clock_text second) (90 ∷ []) (join d (clock_text second) days (clock_text-graphic second)) refl

hex_digit-graphic : (n : ℕ) → n < 16 → is_graphic (hex_digit n) ≡ true
hex_digit-graphic n small = grind (arith, nat_tests)

escaped_byte-graphic : (b : ℕ) → b < 256 → list_all is_graphic (escaped_byte b) ≡ true
escaped_byte-graphic b small =
    elim (cases_Bool (stands_for_itself b)) [
      | inl plain ↦ ap (list_all is_graphic) (escaped_byte-plain b plain) ∙ and_from _ _ (and_parts (lies_in 33 126 b) _ plain).0 refl
      | inr other ↦ ap (list_all is_graphic) (escaped_byte-other b other)
          ∙ and_from _ _ (hex_digit-graphic (b / 16) (omega arith)) (and_from _ _ (hex_digit-graphic (b % 16) (omega arith)) refl)
    ]

escape-graphic-bytes : (xs : List ℕ) → list_all (λ b. ltb b 256) xs ≡ true → list_all is_graphic (escape xs) ≡ true
escape-graphic-bytes [] h = refl
escape-graphic-bytes (b ∷ xs) h =
    let parts = and_parts (ltb b 256) (list_all (λ x. ltb x 256) xs) h in
    join (escaped_byte b) (escape xs) (escaped_byte-graphic b (ltb-true b 256 parts.0)) (escape-graphic-bytes xs parts.1)

pub escape-graphic : (id : List ℕ) → IsUtf8 id → list_all is_graphic (escape id) ≡ true
escape-graphic id utf8 = escape-graphic-bytes id (utf8-bytes id utf8)
