-- The year, the month and the day of the month that a day number has.
use Rattle.std.proofs.Common.{◌≡◌, ℕ, zero, suc, ◌<◌, ◌≤◌, min, Bool, leb, ℤ, pos, ◌-ℤ◌, ◌<ℤ◌, ◌≤ℤ◌, int_le, sym, ap, ◌∙◌, inl, inr, arith}
use Rattle.std.proofs.lemmas.Bool.{cases_Bool, cases_lt, cases_order, le-leb, lt-leb}
use Rattle.jiff_core.specs.Calendar.{IsCivilDate, days_from_civil}
use Rattle.jiff_core.proofs.CalendarLemmas.{day_count-day, day_count-day_of_year, day_count-lt_month, day_count-lt_year, days_from_civil-day_count, days_in_month_bounds}
use Rattle.jiff_core.proofs.SignedLemmas.{one_part, signed_arith}
use Rattle.field_text.specs.Texts.{count_up_to, day_of_month, month_of, year_of}
use borrow.Author.Differences.{le-false, le-true}

-- where just the numbers up to k pass, the count is k
pub count_up_to-is : (passes : ℕ → Bool) (k n : ℕ) → ((i : ℕ) → 1 ≤ i → i ≤ n → passes i ≡ leb i k) → count_up_to passes n ≡ min k n
unfolding count_up_to
count_up_to-is passes k zero same = omega arith
count_up_to-is passes k (suc n) same =
    let before = count_up_to-is passes k n (λ i low high. same i low (omega arith)) in
    let here = same (suc n) (omega arith) (omega arith) in
    elim (cases_lt k (suc n)) [
      | inl past ↦ rw (here, lt-leb (suc n) k past) (omega (arith, before))
      | inr within ↦ rw (here, le-leb (suc n) k within) (omega (arith, before))
    ]

-- what is ordered as the numbers i and k are passes the same test
int_le-as : (a b : ℤ) (i k : ℕ) → (i ≤ k → a ≤ℤ b) → (k < i → b <ℤ a) → int_le a b ≡ leb i k
int_le-as a b i k low high =
    elim (cases_lt k i) [
      | inl past ↦ elim (cases_Bool (int_le a b)) [
        | inl t ↦ absurd (omega (arith, signed_arith, le-true a b t, high past))
        | inr f ↦ f ∙ sym (lt-leb i k past)
      ]
      | inr within ↦ elim (cases_Bool (int_le a b)) [
        | inl t ↦ t ∙ sym (le-leb i k within)
        | inr f ↦ absurd (omega (arith, signed_arith, le-false a b f, low within))
      ]
    ]

first_of_year : (y : ℕ) → y ≤ 9999 → IsCivilDate (pos y) 1 1
first_of_year y high = (omega (arith, signed_arith), omega arith, omega arith)

-- the first day of a year comes by a date just where the year does
pub year_begun : (y : ℕ) (year m d : ℕ) → IsCivilDate (pos year) m d → y ≤ 9999 → int_le (days_from_civil (pos y) 1 1) (days_from_civil (pos year) m d) ≡ leb y year
year_begun y year m d civil high =
    int_le-as (days_from_civil (pos y) 1 1) (days_from_civil (pos year) m d) y year
    (λ by. elim (cases_order y year) [
      | inl same ↦ rw same (omega (arith, signed_arith, days_from_civil-day_count, day_count-day_of_year (pos year) m d civil.2.0))
      | inr (inl lt) ↦ omega (arith, signed_arith, days_from_civil-day_count, day_count-lt_year (pos y) 1 1 (pos year) m d (first_of_year y high) civil.2.0 (omega (arith, signed_arith)))
      | inr (inr gt) ↦ absurd (omega arith)
    ])
    (λ past. omega (arith, signed_arith, days_from_civil-day_count, day_count-lt_year (pos year) m d (pos y) 1 1 civil (omega arith) (omega (arith, signed_arith))))

pub year_of-civil : (year m d : ℕ) → IsCivilDate (pos year) m d → 1 ≤ year → year ≤ 9999 → year_of (days_from_civil (pos year) m d) ≡ year
unfolding year_of
year_of-civil year m d civil low high =
    count_up_to-is _ year 9999 (λ y some most. year_begun y year m d civil most) ∙ omega arith

-- the first of a month comes by a date of the year just where the month does
month_begun : (y : ℤ) (n m d : ℕ) → IsCivilDate y m d → 1 ≤ n → n ≤ 12 → int_le (days_from_civil y n 1) (days_from_civil y m d) ≡ leb n m
month_begun y n m d civil some most =
    int_le-as (days_from_civil y n 1) (days_from_civil y m d) n m
    (λ by. elim (cases_order n m) [
      | inl same ↦ rw same (omega (arith, signed_arith, days_from_civil-day_count, day_count-day y m d 1 civil.2.0 (omega arith)))
      | inr (inl lt) ↦ omega (arith, signed_arith, days_from_civil-day_count, day_count-lt_month y n 1 m d (civil.0, (some, most), (omega arith, omega (arith, days_in_month_bounds y n))) civil.2.0 lt)
      | inr (inr gt) ↦ absurd (omega arith)
    ])
    (λ past. omega (arith, signed_arith, days_from_civil-day_count, day_count-lt_month y m d n 1 civil (omega arith) past))

pub month_of-civil : (year m d : ℕ) → IsCivilDate (pos year) m d → 1 ≤ year → year ≤ 9999 → month_of (days_from_civil (pos year) m d) ≡ m
unfolding month_of
month_of-civil year m d civil low high =
    let same = year_of-civil year m d civil low high in
    count_up_to-is _ m 12 (λ n some most. ap (λ y. int_le (days_from_civil (pos y) n 1) (days_from_civil (pos year) m d)) same ∙ month_begun (pos year) n m d civil some most)
    ∙ omega (arith, civil.1)

pub day_of_month-civil : (year m d : ℕ) → IsCivilDate (pos year) m d → 1 ≤ year → year ≤ 9999 → day_of_month (days_from_civil (pos year) m d) ≡ d
unfolding day_of_month
day_of_month-civil year m d civil low high =
    rw (year_of-civil year m d civil low high, month_of-civil year m d civil low high)
    (omega (arith, signed_arith, days_from_civil-day_count, day_count-day (pos year) m d 1 civil.2.0 (omega arith), civil.2.0, one_part (days_from_civil (pos year) m d -ℤ days_from_civil (pos year) m 1)))
