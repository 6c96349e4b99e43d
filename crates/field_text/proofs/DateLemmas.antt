-- Dates: the days that they may have, and their one spelling.
use Rattle.std.proofs.Common.{◌≡◌, ℕ, suc, ◌+◌, ◌≤◌, Bool, true, ◌&&◌, List, ◌++◌, length, take, drop, ℤ, pos, negsuc, neg_ℤ, ◌<ℤ◌, ◌≤ℤ◌, Option, Some, Result, Ok, Err, IfOk, refl, sym, ap, ◌∙◌, subst, arith}
use Rattle.std.proofs.lemmas.Bool.{and_from, and_parts, le-leb, leb-true}
use Rattle.std.proofs.lemmas.List.{drop-drop, length-drop, length-take-le, take-append-drop, take_all, append_assoc}
use Rattle.std.proofs.lemmas.List.Folds.{list_all-append}
use Rattle.std.specs.Char.{is_ascii_digit}
use Rattle.std.specs.List.{list_all}
use Rattle.std.specs.Result.{result_ok}
use Rattle.jiff_core.specs.Calendar.{IsCivilDate, days_from_civil, days_in_month}
use Rattle.jiff_core.proofs.CalendarLemmas.{day_count-lt_year, days_from_civil-day_count, days_in_month_bounds}
use Rattle.jiff_core.proofs.SignedLemmas.{signed_arith}
use Rattle.field_text.specs.Grammars.{date, has_digits, is_civil, lies_in, number, some_if}
use Rattle.field_text.specs.Texts.{IsPrintableDay, date_text, last_digits}
use Rattle.field_text.proofs.CivilLemmas.{day_of_month-civil, month_of-civil, year_begun, year_of-civil}
use Rattle.field_text.proofs.NumberLemmas.{some_if-passed, some_if-passes}
use Rattle.field_text.proofs.OnLiterals.{field_text_on_literals}
use Rattle.field_text.proofs.SpellingLemmas.{last_digits-are_digits, last_digits-number, number-last_digits}
use borrow.Author.Differences.{le-true}

-- a number that lies between two
pub lies_in-bounds : (least greatest n : ℕ) → lies_in least greatest n ≡ true → (least ≤ n) × (n ≤ greatest)
lies_in-bounds least greatest n h =
    let parts = and_parts _ _ h in
    (leb-true least n parts.0, leb-true n greatest parts.1)

pub lies_in-from : (least greatest n : ℕ) → least ≤ n → n ≤ greatest → lies_in least greatest n ≡ true
lies_in-from least greatest n low high = and_from _ _ (le-leb least n low) (le-leb n greatest high)

-- what the test of a date says
pub record IsCivilIn (first last year month day : ℕ) : Type 0 where
  pub civil : IsCivilDate (pos year) month day
  pub low : first ≤ year
  pub high : year ≤ last

pub civil_from_test : (first last year month day : ℕ) → last ≤ 9999 → is_civil first last year month day ≡ true → IsCivilIn first last year month day
civil_from_test first last year month day small h =
    let parts = and_parts _ _ h in
    let first_parts = and_parts _ _ parts.0 in
    let years = lies_in-bounds first last year first_parts.0 in
    let months = lies_in-bounds 1 12 month first_parts.1 in
    let days = lies_in-bounds 1 (days_in_month (pos year) month) day parts.1 in
    record { civil = (omega (arith, signed_arith, years), months, days); low = years.0; high = years.1 }

pub test_from_civil : (first last year month day : ℕ) → IsCivilIn first last year month day → is_civil first last year month day ≡ true
test_from_civil first last year month day h =
    and_from _ _ (and_from _ _ (lies_in-from first last year h.low h.high) (lies_in-from 1 12 month h.civil.1.0 h.civil.1.1))
    (lies_in-from 1 (days_in_month (pos year) month) day h.civil.2.0 h.civil.2.1)

-- such a date lies from the first day of the first year to the day before the year after the last
pub civil_bounds : (first last year month day : ℕ) → last ≤ 9999 → IsCivilIn first last year month day
    → (days_from_civil (pos first) 1 1 ≤ℤ days_from_civil (pos year) month day) × (days_from_civil (pos year) month day <ℤ days_from_civil (pos (suc last)) 1 1)
civil_bounds first last year month day small h =
    let begun = year_begun first year month day h.civil (omega (arith, h.low, h.high)) ∙ le-leb first year h.low in (
      omega (arith, signed_arith, le-true (days_from_civil (pos first) 1 1) (days_from_civil (pos year) month day) begun),
      omega (arith, signed_arith, days_from_civil-day_count, h.high, day_count-lt_year (pos year) month day (pos (suc last)) 1 1 h.civil (omega arith) (omega (arith, signed_arith, h.high))),
    )

pub first_of_1 : days_from_civil (pos 1) 1 1 ≡ negsuc 719161
unfolding field_text_on_literals
first_of_1 = refl

first_of_10000 : days_from_civil (pos 10000) 1 1 ≡ pos 2932897
unfolding field_text_on_literals
first_of_10000 = refl

pub printable_from_civil : (year month day : ℕ) → IsCivilIn 1 9999 year month day → IsPrintableDay (days_from_civil (pos year) month day)
printable_from_civil year month day h =
    let bounds = civil_bounds 1 9999 year month day (omega arith) h in
    let low : neg_ℤ (pos 719162) ≤ℤ days_from_civil (pos year) month day = rw first_of_1 at bounds.0 in
    record { low = low; high = omega (arith, signed_arith, rw first_of_10000 at bounds.1) }

-- what is printed of a date
pub date_text-civil : (year month day : ℕ) → IsCivilIn 1 9999 year month day
    → date_text (days_from_civil (pos year) month day) ≡ last_digits 4 year ++ last_digits 2 month ++ last_digits 2 day
unfolding date_text
date_text-civil year month day h =
    rw (year_of-civil year month day h.civil h.low h.high, month_of-civil year month day h.civil h.low h.high, day_of_month-civil year month day h.civil h.low h.high)

-- eight bytes are four, two and two
in_parts : (text : List ℕ) → length text ≡ 8 → text ≡ take 4 text ++ take 2 (drop 4 text) ++ take 2 (drop 6 text)
in_parts text len =
    let rest : drop 6 text ≡ take 2 (drop 6 text) = sym (take_all 2 (drop 6 text) (omega (arith, length-drop 6 text))) in
    let later : drop 4 text ≡ take 2 (drop 4 text) ++ take 2 (drop 6 text) =
    sym (take-append-drop 2 (drop 4 text)) ∙ ap (λ xs. take 2 (drop 4 text) ++ xs) (drop-drop 2 4 text ∙ rest) in
    sym (take-append-drop 4 text) ∙ ap (λ xs. take 4 text ++ xs) later ∙ sym (append_assoc (take 4 text) (take 2 (drop 4 text)) (take 2 (drop 6 text)))

-- a part of digits has digits alone, and so it is written by its number
pub part-number : (text : List ℕ) (i width : ℕ) → list_all is_ascii_digit text ≡ true → i + width ≤ length text → last_digits width (number (take width (drop i text))) ≡ take width (drop i text)
part-number text i width digits within =
    let part_len : length (take width (drop i text)) ≡ width = length-take-le width (drop i text) (omega (arith, length-drop i text)) in
    let from = and_parts _ _ (sym (list_all-append is_ascii_digit (take i text) (drop i text)) ∙ ap (list_all is_ascii_digit) (take-append-drop i text) ∙ digits) in
    let part = and_parts _ _ (sym (list_all-append is_ascii_digit (take width (drop i text)) (drop width (drop i text))) ∙ ap (list_all is_ascii_digit) (take-append-drop width (drop i text)) ∙ from.1) in
    last_digits-number width (take width (drop i text)) part_len part.0

pub dates_have_one_spelling : (text : List ℕ) (day : ℤ) → date text ≡ Some day → IsPrintableDay day × (text ≡ date_text day)
dates_have_one_spelling text day is =
    let read = some_if-passed _ _ _ (sym is) in
    let tests = and_parts _ _ read.0 in
    let digits = and_parts _ _ tests.0 in
    let size = lies_in-bounds 8 8 (length text) digits.1 in
    let long : length text ≡ 8 = omega (arith, size) in
    let year = number (take 4 text) in
    let month = number (take 2 (drop 4 text)) in
    let day = number (take 2 (drop 6 text)) in
    let civil = civil_from_test 1 9999 year month day (omega arith) tests.1 in
    let parts : text ≡ last_digits 4 year ++ last_digits 2 month ++ last_digits 2 day =
    in_parts text long
    ∙ ap (λ xs. xs ++ take 2 (drop 4 text) ++ take 2 (drop 6 text)) (sym (part-number text 0 4 digits.0 (omega arith)))
    ∙ ap (λ xs. last_digits 4 year ++ xs ++ take 2 (drop 6 text)) (sym (part-number text 4 2 digits.0 (omega arith)))
    ∙ ap (λ xs. last_digits 4 year ++ last_digits 2 month ++ xs) (sym (part-number text 6 2 digits.0 (omega arith))) in
    subst (λ d. IsPrintableDay d × (text ≡ date_text d)) (sym read.1)
    (printable_from_civil year month day civil, parts ∙ sym (date_text-civil year month day civil))

-- the parts of a date of the calendar are read as that date
abbrev date_at : Bool → ℕ → ℕ → ℕ → Option ℤ
date_at is_digits year month day = some_if (is_digits && is_civil 1 9999 year month day) (days_from_civil (pos year) month day)

pub civil_is_read_back : (year month day : ℕ) → IsCivilIn 1 9999 year month day
    → date (last_digits 4 year ++ last_digits 2 month ++ last_digits 2 day) ≡ Some (days_from_civil (pos year) month day)
civil_is_read_back year month day h =
    let digits : has_digits 8 8 (last_digits 4 year ++ last_digits 2 month ++ last_digits 2 day) ≡ true =
    and_from _ _ (list_all-append is_ascii_digit (last_digits 4 year ++ last_digits 2 month) (last_digits 2 day)
    ∙ and_from _ _ (list_all-append is_ascii_digit (last_digits 4 year) (last_digits 2 month) ∙ and_from _ _ (last_digits-are_digits 4 year) (last_digits-are_digits 2 month)) (last_digits-are_digits 2 day)) refl in
    ap (λ t. date_at t (number (last_digits 4 year)) (number (last_digits 2 month)) (number (last_digits 2 day))) digits
    ∙ ap (λ y. date_at true y (number (last_digits 2 month)) (number (last_digits 2 day))) (number-last_digits 4 year (omega (arith, h.high)))
    ∙ ap (λ m. date_at true year m (number (last_digits 2 day))) (number-last_digits 2 month (omega (arith, h.civil.1)))
    ∙ ap (λ d. date_at true year month d) (number-last_digits 2 day (omega (arith, h.civil.2, days_in_month_bounds (pos year) month)))
    ∙ sym (some_if-passes _ _ _ (test_from_civil 1 9999 year month day h) refl)

-- what is read is the day of such a date
pub printable_if_read : {E : Type 0} (text : List ℕ) (r : Result ℤ E) → result_ok r ≡ date text → IfOk r (λ day. IsPrintableDay day)
printable_if_read text (Ok day) e = (dates_have_one_spelling text day (sym e)).0
printable_if_read text (Err error) e = tt
