-- The parts of the calendar's date of a day number.
use Rattle.std.proofs.Common.{FitsSigned, of_z, to_z, w64, ◌≡◌, ℕ, ◌≤◌, ℤ, pos, negsuc, neg_ℤ, ◌≤ℤ◌, Result, Ok, IfOk, refl, sym, ap, ◌∙◌, subst, arith}
use Rattle.std.proofs.lemmas.Int.{by_lt_z, to_z-of_z}
use Rattle.jiff_core.specs.Calendar.{IsCivilDate, days_from_civil}
use Rattle.jiff_core.specs.Date.{epoch_day}
use Rattle.jiff_core.specs.declared.civil.date.Date.{Date}
use Rattle.jiff_core.proofs.CalendarLemmas.{day_count-lt_year, days_from_civil-day_count}
use Rattle.jiff_core.proofs.DateLemmas.{civil}
use Rattle.jiff_core.proofs.SignedLemmas.{signed_arith}
use Rattle.field_text.specs.Texts.{IsPrintableDay, day_of_month, month_of, year_of}
use Rattle.field_text.proofs.CivilLemmas.{day_of_month-civil, month_of-civil, year_of-civil}
use Rattle.field_text.proofs.DateLemmas.{first_of_1}

-- the date is the day's
pub record HasPartsOf (day : ℤ) (date : Date) : Type 0 where
  pub year : ℕ
  pub is : date.year ≡ pos year
  pub high : year ≤ 9999
  pub year_is : year ≡ year_of day
  pub month_is : date.month ≡ month_of day
  pub day_is : date.day ≡ day_of_month day

civil_parts_are : (day : ℤ) (date : Date) (year : ℕ) → date.year ≡ pos year → 1 ≤ year → epoch_day date ≡ day → HasPartsOf day date
civil_parts_are day date year is low same =
    let at = subst (λ y. IsCivilDate y date.month date.day) is (civil date) in
    let number : days_from_civil (pos year) date.month date.day ≡ day = ap (λ y. days_from_civil y date.month date.day) (sym is) ∙ same in
    let high : year ≤ 9999 = omega (arith, signed_arith, at.0) in
    record {
      year = year;
      is = is;
      high = high;
      year_is = sym (year_of-civil year date.month date.day at low high) ∙ ap year_of number;
      month_is = sym (month_of-civil year date.month date.day at low high) ∙ ap month_of number;
      day_is = sym (day_of_month-civil year date.month date.day at low high) ∙ ap day_of_month number;
    }

-- a year before 1 has no such day
from_year_1 : (y : ℤ) (m d : ℕ) → IsCivilDate y m d → neg_ℤ (pos 719162) ≤ℤ days_from_civil y m d → pos 1 ≤ℤ y
from_year_1 y m d at low =
    by_lt_z y (pos 1)
    (λ before. absurd (omega (arith, signed_arith, days_from_civil-day_count, first_of_1, day_count-lt_year y m d (pos 1) 1 1 at (omega arith) before)))
    (λ after. after)

parts_from_sign : (y : ℤ) (day : ℤ) (date : Date) → date.year ≡ y → pos 1 ≤ℤ y → epoch_day date ≡ day → HasPartsOf day date
parts_from_sign (pos year) day date is low same = civil_parts_are day date year is (omega (arith, signed_arith)) same
parts_from_sign (negsuc n) day date is low same = absurd (omega (arith, signed_arith))

parts_of_date : (day : ℤ) (date : Date) → IsPrintableDay day → epoch_day date ≡ day → HasPartsOf day date
parts_of_date day date h same =
    parts_from_sign date.year day date refl (from_year_1 date.year date.month date.day (civil date) (omega (arith, signed_arith, h.low, same))) same

-- what `from_unix_epoch_day` gives
pub parts_of_result : {E : Type 0} (day : ℤ) (r : Result Date E) (date : Date) → IsPrintableDay day → r ≡ Ok date → IfOk r (λ d. epoch_day d ≡ day) → HasPartsOf day date
parts_of_result day r date h is value = parts_of_date day date h (subst (λ x. IfOk x (λ d. epoch_day d ≡ day)) is value)

-- the same, where the day number was passed as 64 bits
pub parts_of_passed : {E : Type 0} (day : ℤ) (r : Result Date E) (date : Date) → FitsSigned w64 day → IsPrintableDay day → r ≡ Ok date
    → IfOk r (λ d. epoch_day d ≡ to_z w64 (of_z w64 day)) → HasPartsOf day date
parts_of_passed day r date fits h is value =
    parts_of_result day r date h is (subst (λ n. IfOk r (λ d. epoch_day d ≡ n)) (to_z-of_z w64 day fits) value)
