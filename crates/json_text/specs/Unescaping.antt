-- Reading the escapes of a string, whose bytes stand between its quotation marks.
use Rattle.std.specs.Prelude.{◌≡◌, ℕ, false, true, ◌+◌, ◌*◌, ◌≤◌, List, [], ◌∷◌, ◌++◌, drop, length, slice_index}
use Rattle.std.specs.Str.{IsCharBoundary}
use Rattle.json_text.specs.Grammar.{mark_bytes}
use Rattle.json_text.specs.StringText.{hex_value, is_low, string_text}
use Rattle.json_text.specs.Syntax.{Mark}

-- The bytes are those of some marks.
abbrev pub HasMarks : List ℕ → Type 0
HasMarks raw = (marks : List Mark) × (mark_bytes marks [] ≡ raw ++ (34 ∷ []))

-- The text is that of the string.
abbrev pub ReadsAs : List ℕ → List ℕ → Type 0
ReadsAs raw text =
    (marks : List Mark) → mark_bytes marks [] ≡ raw ++ (34 ∷ []) → text ≡ string_text marks

-- The part from one place to another reads as this, whatever comes after it.
abbrev pub Passes : List ℕ → ℕ → ℕ → List ℕ → Type 0
Passes raw from to part =
    (marks : List Mark) → mark_bytes marks [] ≡ drop from raw ++ (34 ∷ [])
    → (rest : List Mark) × (mark_bytes rest [] ≡ drop to raw ++ (34 ∷ []))
    × (string_text marks ≡ part ++ string_text rest)

-- the unit of four digits that stand there
abbrev pub unit_at : List ℕ → ℕ → ℕ
unit_at raw at =
    hex_value (slice_index raw at) * 4096
    + hex_value (slice_index raw (at + 1)) * 256
    + hex_value (slice_index raw (at + 2)) * 16
    + hex_value (slice_index raw (at + 3))

-- An escape by number stands there, which is the second half of a pair.
pub record IsLowAt (raw : List ℕ) (at unit : ℕ) : Type 0 where
  pub within : at + 6 ≤ length raw
  pub backslash : slice_index raw at ≡ 92
  pub letter : slice_index raw (at + 1) ≡ 117
  pub value : unit ≡ unit_at raw (at + 2)
  pub low : is_low unit ≡ true

-- No such escape stands there.
abbrev pub LacksLow : List ℕ → ℕ → Type 0
LacksLow raw at =
    at + 6 ≤ length raw → slice_index raw at ≡ 92 → slice_index raw (at + 1) ≡ 117
    → is_low (unit_at raw (at + 2)) ≡ false

-- The text is that of the part before the place.
pub record IsUnescaping (raw : List ℕ) (from : ℕ) (text : List ℕ) : Type 0 where
  pub within : from ≤ length raw
  pub boundary : IsCharBoundary raw from
  pub marks : HasMarks (drop from raw)
  pub passes : Passes raw 0 from text
