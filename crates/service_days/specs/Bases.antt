-- The bases of a zone's days, and the day table of a departure. The base of a day is the moment at which its service
-- day begins: 12 hours before its noon, as in the GTFS Schedule reference at "Time".
use Rattle.std.specs.Prelude.{◌≡◌, ◌↔◌, ℕ, ◌+◌, ◌≤◌, ℤ, pos, ◌+ℤ◌, ◌-ℤ◌, ◌*ℤ◌, ◌≤ℤ◌, unsigned_abs, Some, List, length, map, slice_get}
use Rattle.std.specs.Int.{int_div_euclid}
use Rattle.std.specs.List.{range_with_len, slice_range}
use Rattle.flex_model.specs.declared.moment.DayTable.{DayTable}
use Rattle.flex_model.specs.ServiceDay.{BeginsAt}
use Rattle.flex_model.specs.SoundQuery.{IsQueryMoment}

-- A zone has the bases of so many days from this one on: those of the day tables of all departures of the years 1990
-- to 2199.
abbrev pub first_day : ℕ
first_day = 5785

abbrev pub day_count : ℕ
day_count = 78226

-- the moment of a day's noon in UTC
abbrev pub utc_noon : ℤ → ℤ
utc_noon day = (pos 86400 *ℤ day) +ℤ pos 43200

-- the base of a day with this noon
abbrev pub base_of_noon : ℤ → ℤ
base_of_noon noon = noon -ℤ pos 43200

-- the bases of so many days in UTC, from a day on
unfoldable pub utc_bases_from : ℕ → ℕ → List ℤ
utc_bases_from day count = map (λ d. base_of_noon (utc_noon (pos d))) (range_with_len day count)

-- the bases of the zone UTC
abbrev pub utc_bases : List ℤ
utc_bases = utc_bases_from first_day day_count

-- A zone is seen as the bases of its days. Each is less than 26 hours from its day's midnight in UTC.
pub record IsZone (bases : List ℤ) : Type 0 where
  pub count : length bases ≡ day_count
  pub near : (k : ℕ) (base : ℤ) → slice_get bases k ≡ Some base
      → unsigned_abs (base -ℤ (pos 86400 *ℤ (pos first_day +ℤ pos k))) ≤ 93599

-- the first day of a departure's table: 1,520 days before the day on which it falls in UTC
abbrev pub table_first : ℤ → ℤ
table_first depart = int_div_euclid depart (pos 86400) -ℤ pos 1520

-- where the first day of a departure's table stands among the days of a zone
abbrev pub table_index : ℤ → ℕ
table_index depart = unsigned_abs (table_first depart -ℤ pos first_day)

-- the day table of a departure in a zone with these bases: 1,526 days, the last of them 5 days after the departure's
unfoldable pub table_of : List ℤ → ℤ → DayTable
table_of bases depart = record {
  first = table_first depart;
  base = slice_range bases (table_index depart) (table_index depart + 1526);
}

-- In UTC the days of a departure's table are the 1,526 days from its first one on, and each begins at its midnight.
abbrev pub UtcDaysBeginAtMidnight : Type 0
UtcDaysBeginAtMidnight = (depart day base : ℤ) → IsQueryMoment depart
    → BeginsAt (table_of utc_bases depart) day base
    ↔ ((table_first depart ≤ℤ day) × (day ≤ℤ (table_first depart +ℤ pos 1525))
    × (base ≡ pos 86400 *ℤ day))
