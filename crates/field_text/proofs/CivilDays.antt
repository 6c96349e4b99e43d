-- Every day number of the years 0001 to 9999 is that of a date.
use Rattle.std.proofs.Common.{◌≡◌, ℕ, zero, suc, ◌+◌, ◌-◌, ◌<◌, ℤ, pos, negsuc, ◌+ℤ◌, ◌<ℤ◌, ◌≤ℤ◌, Some, refl, sym, ap, ◌∙◌, subst, inl, inr, arith}
use Rattle.std.proofs.lemmas.Bool.{cases_lt}
use Rattle.jiff_core.specs.Calendar.{days_from_civil, days_in_month}
use Rattle.jiff_core.proofs.CalendarLemmas.{days_in_month_bounds}
use Rattle.jiff_core.proofs.DateLemmas.{days_from_civil-day, days_from_civil-max, days_from_civil-next_month, days_from_civil-next_year}
use Rattle.jiff_core.proofs.SignedLemmas.{signed_arith}
use Rattle.field_text.specs.Grammars.{date}
use Rattle.field_text.specs.Laws.{DatesAreReadBack}
use Rattle.field_text.specs.Texts.{IsPrintableDay, date_text}
use Rattle.field_text.proofs.DateLemmas.{IsCivilIn, civil_is_read_back, date_text-civil, first_of_1}
use borrow.Author.Differences.{down, up}

-- a date of the years 0001 to 9999 that has the day number
pub record CivilOf (number : ℤ) : Type 0 where
  pub year : ℕ
  pub month : ℕ
  pub day : ℕ
  pub civil : IsCivilIn 1 9999 year month day
  pub same : days_from_civil (pos year) month day ≡ number

next_in_month : (number : ℤ) (h : CivilOf number) → h.day < days_in_month (pos h.year) h.month → CivilOf (number +ℤ pos 1)
next_in_month number h more = record {
  year = h.year;
  month = h.month;
  day = h.day + 1;
  civil = record { civil = (h.civil.civil.0, h.civil.civil.1, (omega arith, omega arith)); low = h.civil.low; high = h.civil.high };
  same = omega (arith, signed_arith, h.same, h.civil.civil.2, days_from_civil-day (pos h.year) h.month h.day (h.day + 1) h.civil.civil.2.0 (omega arith));
}

next_month : (number : ℤ) (h : CivilOf number) → h.day ≡ days_in_month (pos h.year) h.month → h.month < 12 → CivilOf (number +ℤ pos 1)
next_month number h last within = record {
  year = h.year;
  month = h.month + 1;
  day = 1;
  civil = record { civil = (h.civil.civil.0, (omega arith, omega arith), (omega arith, omega (arith, days_in_month_bounds (pos h.year) (h.month + 1)))); low = h.civil.low; high = h.civil.high };
  same = days_from_civil-next_month (pos h.year) h.month h.day h.civil.civil.1.0 last ∙ ap (λ d. d +ℤ pos 1) h.same;
}

next_year : (number : ℤ) (h : CivilOf number) → h.day ≡ days_in_month (pos h.year) h.month → h.month ≡ 12 → number <ℤ pos 2932896 → CivilOf (number +ℤ pos 1)
next_year number h last december early =
    let at : days_from_civil (pos h.year) 12 h.day ≡ number = ap (λ m. days_from_civil (pos h.year) m h.day) (sym december) ∙ h.same in
    let long : h.day ≡ 31 = last ∙ ap (days_in_month (pos h.year)) december in
    let end : days_from_civil (pos h.year) 12 31 ≡ number = ap (days_from_civil (pos h.year) 12) (sym long) ∙ at in
    let before : h.year < 9999 = elim (cases_lt h.year 9999) [
      | inl less ↦ less
      | inr most ↦
          let same : 9999 ≡ h.year = omega (arith, h.civil.high) in
          absurd (omega (arith, signed_arith, sym days_from_civil-max ∙ ap (λ y. days_from_civil (pos y) 12 31) same ∙ end))
    ] in
    record {
      year = h.year + 1;
      month = 1;
      day = 1;
      civil = record { civil = (omega (arith, signed_arith), (omega arith, omega arith), (omega arith, omega arith)); low = omega arith; high = omega arith };
      same = days_from_civil-next_year (pos h.year) (pos (h.year + 1)) (omega (arith, signed_arith)) (omega (arith, signed_arith)) ∙ ap (λ d. d +ℤ pos 1) end;
    }

next_day : (number : ℤ) → CivilOf number → number <ℤ pos 2932896 → CivilOf (number +ℤ pos 1)
next_day number h early =
    elim (cases_lt h.day (days_in_month (pos h.year) h.month)) [
      | inl more ↦ next_in_month number h more
      | inr last ↦ elim (cases_lt h.month 12) [
        | inl within ↦ next_month number h (omega (arith, h.civil.civil.2)) within
        | inr december ↦ next_year number h (omega (arith, h.civil.civil.2)) (omega (arith, h.civil.civil.1)) early
      ]
    ]

first_day : CivilOf (negsuc 719161)
first_day = record {
  year = 1;
  month = 1;
  day = 1;
  civil = record { civil = (omega (arith, signed_arith), (omega arith, omega arith), (omega arith, omega arith)); low = omega arith; high = omega arith };
  same = first_of_1;
}

-- n days after the first
later_day : (n : ℕ) (number : ℤ) → number ≡ negsuc 719161 +ℤ pos n → number ≤ℤ pos 2932896 → CivilOf number
later_day zero number e high = subst CivilOf (sym e) first_day
later_day (suc n) number e high =
    let before = later_day n (negsuc 719161 +ℤ pos n) refl (omega (arith, signed_arith)) in
    let same : negsuc 719161 +ℤ pos n +ℤ pos 1 ≡ number = omega (arith, signed_arith) in
    subst CivilOf same (next_day (negsuc 719161 +ℤ pos n) before (omega (arith, signed_arith)))

pub civil_of : (number : ℤ) → IsPrintableDay number → CivilOf number
civil_of number h = later_day (up number + 719162 - down number) number (omega (arith, signed_arith, h.low)) h.high

pub dates_are_read_back : DatesAreReadBack
dates_are_read_back number h =
    let d = civil_of number h in
    subst (λ n. date (date_text n) ≡ Some n) d.same
    (ap date (date_text-civil d.year d.month d.day d.civil) ∙ civil_is_read_back d.year d.month d.day d.civil)
