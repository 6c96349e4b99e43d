-- The fields of a record.
use Rattle.std.specs.Prelude.{ℕ, List, [], ◌∷◌, Bool, ◌==◌, ◌||◌, if◌then◌else◌}
use Rattle.std.specs.Prelude.{map, reverse, get_or}

-- a space or a tab
abbrev pub is_blank : ℕ → Bool
is_blank b = (b == 32) || (b == 9)

-- a field without the blanks at its start
unfoldable pub without_leading : List ℕ → List ℕ
without_leading [] = []
without_leading (b ∷ rest) = if is_blank b then without_leading rest else b ∷ rest

-- a field without the blanks at its end
abbrev pub without_trailing : List ℕ → List ℕ
without_trailing field = reverse (without_leading (reverse field))

-- a field without the blanks at both ends. The GTFS Schedule reference asks for no extra spaces
-- between fields; that such blanks are passed over is this project's own
abbrev pub trimmed : List ℕ → List ℕ
trimmed field = without_trailing (without_leading field)

-- the same of each field of a record
abbrev pub all_trimmed : List (List ℕ) → List (List ℕ)
all_trimmed fields = map trimmed fields

-- the value of a column in a record: the field at the column's index, or nothing where the record
-- is too short (this project's own)
abbrev pub value_at : List (List ℕ) → ℕ → List ℕ
value_at fields column = get_or fields column []
