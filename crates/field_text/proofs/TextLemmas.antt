-- The bytes of printed days and moments.
use Rattle.std.proofs.Common.{◌/◌, ◌%◌, ◌≡◌, ℕ, ◌<◌, List, [], ◌∷◌, ◌++◌, get_or, ℤ, pos, IsAscii, true, arith}
use Rattle.std.specs.Prelude.{unsigned_abs}
use Rattle.std.specs.Char.{is_ascii_digit}
use Rattle.std.specs.Int.{int_div_euclid, int_rem_euclid}
use Rattle.std.specs.List.{list_all}
use Rattle.std.proofs.lemmas.Bool.{and_parts}
use Rattle.std.proofs.lemmas.Str.{IsAscii-append}
use Rattle.std.proofs.lemmas.Str.Ascii.{IsAscii-cons, IsAscii-nil}
use Rattle.field_text.specs.Texts.{clock_text, date_text, day_of_month, last_digits, moment_text, month_of, year_of}
use Rattle.field_text.proofs.SpellingLemmas.{digit_bounds, last_digits-are_digits}

pub date_bytes_are : (day : ℤ) (y m d : List ℕ) → y ≡ last_digits 4 (year_of day) → m ≡ last_digits 2 (month_of day) → d ≡ last_digits 2 (day_of_month day)
    → get_or y 0 0 ∷ get_or y 1 0 ∷ get_or y 2 0 ∷ get_or y 3 0 ∷ get_or m 0 0 ∷ get_or m 1 0 ∷ get_or d 0 0 ∷ get_or d 1 0 ∷ [] ≡ date_text day
unfolding date_text
date_bytes_are day y m d year month on = rw (year, month, on)

pub moment_bytes_are : (moment day : ℤ) (y m d c : List ℕ) → day ≡ int_div_euclid moment (pos 86400) → y ≡ last_digits 4 (year_of day) → m ≡ last_digits 2 (month_of day)
    → d ≡ last_digits 2 (day_of_month day) → c ≡ clock_text (unsigned_abs (int_rem_euclid moment (pos 86400)))
    → get_or y 0 0 ∷ get_or y 1 0 ∷ get_or y 2 0 ∷ get_or y 3 0 ∷ 45 ∷ get_or m 0 0 ∷ get_or m 1 0 ∷ 45 ∷ get_or d 0 0 ∷ get_or d 1 0 ∷ 84
    ∷ get_or c 0 0 ∷ get_or c 1 0 ∷ get_or c 2 0 ∷ get_or c 3 0 ∷ get_or c 4 0 ∷ get_or c 5 0 ∷ get_or c 6 0 ∷ get_or c 7 0 ∷ 90 ∷ [] ≡ moment_text moment
unfolding moment_text
moment_bytes_are moment day y m d c same year month on at = rw (year, month, on, at, same)

digits-IsAscii : (xs : List ℕ) → list_all is_ascii_digit xs ≡ true → IsAscii xs
digits-IsAscii [] h = IsAscii-nil
digits-IsAscii (x ∷ xs) h =
    let parts = and_parts _ _ h in
    let bounds = digit_bounds x parts.0 in
    IsAscii-cons x xs (omega arith) (digits-IsAscii xs parts.1)

pub last_digits-IsAscii : (width n : ℕ) → IsAscii (last_digits width n)
last_digits-IsAscii width n = digits-IsAscii (last_digits width n) (last_digits-are_digits width n)

pub date_text-IsAscii : (day : ℤ) → IsAscii (date_text day)
unfolding date_text
date_text-IsAscii day =
    IsAscii-append (last_digits 4 (year_of day) ++ last_digits 2 (month_of day)) (last_digits 2 (day_of_month day))
    (IsAscii-append (last_digits 4 (year_of day)) (last_digits 2 (month_of day)) (last_digits-IsAscii 4 (year_of day)) (last_digits-IsAscii 2 (month_of day)))
    (last_digits-IsAscii 2 (day_of_month day))

mark-IsAscii : (b : ℕ) → b < 128 → IsAscii (b ∷ [])
mark-IsAscii b small = IsAscii-cons b [] small IsAscii-nil

-- a front of two digits and a mark
marked-IsAscii : (front : List ℕ) (width n b : ℕ) → b < 128 → IsAscii front → IsAscii (front ++ last_digits width n ++ b ∷ [])
marked-IsAscii front width n b small h =
    IsAscii-append (front ++ last_digits width n) (b ∷ []) (IsAscii-append front (last_digits width n) h (last_digits-IsAscii width n)) (mark-IsAscii b small)

clock_text-IsAscii : (second : ℕ) → IsAscii (clock_text second)
clock_text-IsAscii second =
    let hours = marked-IsAscii [] 2 (second / 3600) 58 (omega arith) IsAscii-nil in
    let minutes = marked-IsAscii (last_digits 2 (second / 3600) ++ 58 ∷ []) 2 (second / 60 % 60) 58 (omega arith) hours in
    IsAscii-append (last_digits 2 (second / 3600) ++ 58 ∷ [] ++ last_digits 2 (second / 60 % 60) ++ 58 ∷ []) (last_digits 2 (second % 60)) minutes (last_digits-IsAscii 2 (second % 60))

pub moment_text-IsAscii : (moment : ℤ) → IsAscii (moment_text moment)
unfolding moment_text
moment_text-IsAscii moment =
    let day = int_div_euclid moment (pos 86400) in
    let second = unsigned_abs (int_rem_euclid moment (pos 86400)) in
    let y = last_digits 4 (year_of day) ++ 45 ∷ [] in
    let m = y ++ last_digits 2 (month_of day) ++ 45 ∷ [] in
    let d = m ++ last_digits 2 (day_of_month day) ++ 84 ∷ [] in
    let years = marked-IsAscii [] 4 (year_of day) 45 (omega arith) IsAscii-nil in
    let months = marked-IsAscii y 2 (month_of day) 45 (omega arith) years in
    let days = marked-IsAscii m 2 (day_of_month day) 84 (omega arith) months in
    IsAscii-append (d ++ clock_text second) (90 ∷ []) (IsAscii-append d (clock_text second) days (clock_text-IsAscii second)) (mark-IsAscii 90 (omega arith))
