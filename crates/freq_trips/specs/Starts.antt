-- Starts of a repeat, and the least of some numbers from a number on.
--
-- GTFS Schedule reference, frequencies.txt (start_time, end_time, headway_secs): the first start,
-- and each headway after it, before the end. Looking for the next start is this project's own.
use Rattle.std.specs.Prelude.{◌≡◌, ℕ, ◌+◌, ◌*◌, ◌<◌, ◌≤◌, min, Option, Some, None}
use Rattle.flex_model.specs.declared.trip.Repeat.{Repeat}

-- the repeat has a start then
abbrev pub IsStartOf : Repeat → ℕ → Type 0
IsStartOf repeat start =
    (n : ℕ) × (start ≡ repeat.first + n * repeat.headway) × (start < repeat.end)

-- The least number with the property that is no less than this one. There is none where each with
-- the property is less.
abbrev pub IsLeastFrom : (ℕ → Type 0) → ℕ → Option ℕ → Type 0
IsLeastFrom P least None = (n : ℕ) → P n → least ≤ n → ⊥
IsLeastFrom P least (Some next) = P next × (least ≤ next) × ((n : ℕ) → P n → least ≤ n → next ≤ n)

-- the lesser of two numbers that may be absent
abbrev pub sooner : Option ℕ → Option ℕ → Option ℕ
sooner None b = b
sooner (Some a) None = Some a
sooner (Some a) (Some b) = Some (min a b)
