-- The times of the rows of a trip that have none of their own. They lie evenly between those of
-- their neighbours, which is this project's own.
use Rattle.std.specs.Prelude.{◌≡◌, ℕ, ◌+◌, ◌-◌, ◌*◌, ◌/◌, ◌<◌, Bool, true, false, not, ◌&&◌, ◌||◌, List, Some, None, is_some, unwrap_or, length, take, get_or, count_by}
use Rattle.std.specs.Option.{option_or}
use Rattle.feed_load.specs.declared.linear_times.Ahead.{Ahead}
use Rattle.feed_load.specs.declared.linear_times.Gap.{Gap}
use Rattle.feed_load.specs.declared.linear_times.GivenRow.{GivenRow}

-- a row with a time and without window
abbrev pub is_timed : GivenRow → Bool
is_timed row = not row.window && (is_some row.arrives || is_some row.departs)

-- a row with neither
abbrev pub is_untimed : GivenRow → Bool
is_untimed row = not row.window && not (is_some row.arrives || is_some row.departs)

-- the times of a row, one of which stands for both
abbrev pub arrival : GivenRow → ℕ
arrival row = unwrap_or (option_or row.arrives row.departs) 0

abbrev pub departure : GivenRow → ℕ
departure row = unwrap_or (option_or row.departs row.arrives) 0

-- the row at a index, past the end one without times
abbrev pub row_at : List GivenRow → ℕ → GivenRow
row_at rows i = get_or rows i (record { window = true; arrives = None; departs = None })

abbrev pub is_timed_at : List GivenRow → ℕ → Bool
is_timed_at rows i = is_timed (row_at rows i)

-- how many rows before a index have neither a time nor a window
abbrev pub untimed_before : List GivenRow → ℕ → ℕ
untimed_before rows i = count_by is_untimed (take i rows)

-- so many of the equal parts of the time between two moments, rounded down
abbrev pub share : ℕ → ℕ → ℕ → ℕ → ℕ
share leaves arrives part parts = leaves + (arrives - leaves) * part / parts

-- two rows with times, with no other between them
pub record IsGap (rows : List GivenRow) (p q : ℕ) : Type 0 where
  pub former : is_timed_at rows p ≡ true
  pub latter : is_timed_at rows q ≡ true
  pub none : (j : ℕ) → p < j → j < q → is_timed_at rows j ≡ false

-- a row without time or window, and its neighbours with times
pub record IsBetween (rows : List GivenRow) (p i q : ℕ) : Type 0 where
  pub gap : IsGap rows p q
  pub untimed : is_untimed (row_at rows i) ≡ true
  pub after : p < i
  pub before : i < q

-- the time of such a row
abbrev pub time_between : List GivenRow → ℕ → ℕ → ℕ → ℕ
time_between rows p i q =
    share (departure (row_at rows p)) (arrival (row_at rows q))
    (untimed_before rows i - untimed_before rows p + 1)
    (untimed_before rows q - untimed_before rows p + 1)

abbrev pub timed_row : ℕ → GivenRow
timed_row time = record { window = false; arrives = Some time; departs = Some time }

-- a row after filling: one without time between two neighbours has its time, each other stays
pub record IsFilledAt (rows : List GivenRow) (i : ℕ) (row : GivenRow) : Type 0 where
  pub filled : (p q : ℕ) → IsBetween rows p i q → row ≡ timed_row (time_between rows p i q)
  pub kept : ((p q : ℕ) → IsBetween rows p i q → ⊥) → row ≡ row_at rows i

pub record AreFilled (old new : List GivenRow) : Type 0 where
  pub many : length new ≡ length old
  pub each : (i : ℕ) → i < length old → IsFilledAt old i (row_at new i)

-- none of the rows has a time
abbrev pub HasNone : List GivenRow → Type 0
HasNone rows = (j : ℕ) → is_timed_at rows j ≡ false

-- the first of the rows that has a time
pub record IsNext (rows : List GivenRow) (ahead : Ahead) : Type 0 where
  pub index : ℕ
  pub timed : is_timed_at rows index ≡ true
  pub none : (j : ℕ) → j < index → is_timed_at rows j ≡ false
  pub arrives : ahead.arrives ≡ arrival (row_at rows index)
  pub untimed : ahead.untimed ≡ untimed_before rows index

-- a gap that begins at a row, beside those after it
pub record IsOpenFrom (row : GivenRow) (later : List GivenRow) (gap : Gap) : Type 0 where
  pub leaves : gap.leaves ≡ departure row
  pub next : IsNext later (record { arrives = gap.arrives; untimed = gap.untimed })
  pub passed : gap.passed ≡ 0
