-- The text of a zone's POSIX rule: the bytes without one byte order mark at their start, and then without spaces, tabs, line
-- feeds and carriage returns at both ends. This project's own.
use Rattle.std.specs.Prelude.{ℕ, List, [], ◌∷◌, Bool, ◌==◌, ◌&&◌, ◌||◌, if◌then◌else◌, reverse}

-- a space, a tab, a line feed or a carriage return
abbrev pub is_blank : ℕ → Bool
is_blank b = (b == 32) || (b == 9) || (b == 10) || (b == 13)

-- the bytes without one byte order mark at their start
unfoldable pub without_mark : List ℕ → List ℕ
without_mark [] = []
without_mark (a ∷ []) = a ∷ []
without_mark (a ∷ b ∷ []) = a ∷ b ∷ []
without_mark (a ∷ b ∷ c ∷ rest) =
    if (a == 239) && (b == 187) && (c == 191) then rest else a ∷ b ∷ c ∷ rest

-- the bytes without the blanks at their start
unfoldable pub without_leading : List ℕ → List ℕ
without_leading [] = []
without_leading (b ∷ rest) = if is_blank b then without_leading rest else b ∷ rest

-- the bytes without the blanks at their end
abbrev pub without_trailing : List ℕ → List ℕ
without_trailing bytes = reverse (without_leading (reverse bytes))

-- the bytes without the blanks at both ends
abbrev pub trimmed : List ℕ → List ℕ
trimmed bytes = without_trailing (without_leading bytes)

-- the text of a rule
abbrev pub zone_text : List ℕ → List ℕ
zone_text bytes = trimmed (without_mark bytes)
