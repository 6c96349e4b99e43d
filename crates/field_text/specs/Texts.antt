-- How dates and moments are printed.
use Rattle.std.specs.Prelude.{ℕ, zero, suc, ◌+◌, ◌/◌, ◌%◌, ℤ, pos, neg_ℤ, ◌-ℤ◌, int_le, ◌≤ℤ◌}
use Rattle.std.specs.Prelude.{unsigned_abs, List, [], ◌∷◌, ◌++◌, codes, Bool, if◌then◌else◌}
use Rattle.std.specs.Int.{int_div_euclid, int_rem_euclid}
use Rattle.std.specs.Str.{byte}
use Rattle.jiff_core.specs.Calendar.{days_from_civil}

-- a day of the years 0001 to 9999, in days since 1970-01-01
pub record IsPrintableDay (day : ℤ) : Type 0 where
  pub low : neg_ℤ (pos 719162) ≤ℤ day
  pub high : day ≤ℤ pos 2932896

-- a moment of the years 1980 to 2209, in seconds since 1970-01-01T00:00:00Z
pub record IsPrintableMoment (moment : ℤ) : Type 0 where
  pub low : pos 315532800 ≤ℤ moment
  pub high : moment ≤ℤ pos 7573651199

-- how many of the numbers from 1 to the last pass
unfoldable pub count_up_to : (ℕ → Bool) → ℕ → ℕ
count_up_to passes zero = 0
count_up_to passes (suc n) = count_up_to passes n + (if passes (suc n) then 1 else 0)

-- the year of a day: how many of the years from 1 to 9999 begin by then
unfoldable pub year_of : ℤ → ℕ
year_of day = count_up_to (λ year. int_le (days_from_civil (pos year) 1 1) day) 9999

-- the month: how many months of that year begin by then
unfoldable pub month_of : ℤ → ℕ
month_of day = count_up_to (λ month. int_le (days_from_civil (pos (year_of day)) month 1) day) 12

-- the day of that month
unfoldable pub day_of_month : ℤ → ℕ
day_of_month day = unsigned_abs (day -ℤ days_from_civil (pos (year_of day)) (month_of day) 1) + 1

-- the last digits of a number, so many, with leading zeros
abbrev pub last_digits : ℕ → ℕ → List ℕ
last_digits zero n = []
last_digits (suc width) n = last_digits width (n / 10) ++ (byte "0" + n % 10) ∷ []

-- a day as YYYYMMDD
unfoldable pub date_text : ℤ → List ℕ
date_text day =
    last_digits 4 (year_of day) ++ last_digits 2 (month_of day) ++ last_digits 2 (day_of_month day)

-- a time of the day as HH:MM:SS
abbrev pub clock_text : ℕ → List ℕ
clock_text second =
    last_digits 2 (second / 3600) ++ codes ":" ++ last_digits 2 (second / 60 % 60) ++ codes ":"
    ++ last_digits 2 (second % 60)

-- a moment as YYYY-MM-DDTHH:MM:SSZ
unfoldable pub moment_text : ℤ → List ℕ
moment_text moment =
    let day = int_div_euclid moment (pos 86400) in
    last_digits 4 (year_of day) ++ codes "-" ++ last_digits 2 (month_of day) ++ codes "-"
    ++ last_digits 2 (day_of_month day)
    ++ codes "T" ++ clock_text (unsigned_abs (int_rem_euclid moment (pos 86400))) ++ codes "Z"
