-- What is kept of a text.
use Rattle.std.specs.Prelude.{◌≡◌, ℕ, ◌+◌, ◌-◌, ◌<◌, List, [], length, map, Option, None, Some, get_or, slice_get, unwrap_or}
use Rattle.std.specs.List.{slice_range}
use Rattle.json_text.specs.Grammar.{IsJsonWithin, number_bytes, text_bytes}
use Rattle.json_text.specs.Placed.{IsQuoted, StandsAt}
use Rattle.json_text.specs.Progress.{shape_of}
use Rattle.json_text.specs.Refusal.{greatest_depth}
use Rattle.json_text.specs.Shapes.{text_shapes}
use Rattle.json_text.specs.Syntax.{Mark, Number, Text}
use Rattle.json_text.specs.Unescaping.{ReadsAs}
use Rattle.json_text.specs.declared.kind.JsonKind.TheVariants as Kind
use Rattle.json_text.specs.declared.row.Row.{Row}

-- Some string stands there, from its first quotation mark to its last.
abbrev pub HasStringAt : List ℕ → ℕ → ℕ → Type 0
HasStringAt bytes place last = (marks : List Mark) × IsQuoted bytes marks place last

-- Some number stands there, and ends before the last place.
abbrev pub HasNumberAt : List ℕ → ℕ → ℕ → Type 0
HasNumberAt bytes place last =
    (n : Number) × StandsAt bytes (number_bytes n) place
    × (last ≡ place + length (number_bytes n []))

-- what stands between two quotation marks, or what it reads as where it is given
abbrev pub text_or : List ℕ → ℕ → ℕ → Option (List ℕ) → List ℕ
text_or bytes place last copy = unwrap_or copy (slice_range bytes (place + 1) last)

-- The copy is that of the string which the row stands for, if there is one.
abbrev pub HasText : List ℕ → Row → Option (List ℕ) → Type 0
HasText bytes row copy =
    row.kind ≡ Kind.String
    → ReadsAs (slice_range bytes (row.place + 1) (row.end - 1))
    (text_or bytes row.place (row.end - 1) copy)

-- The copy is that of the row's name, if it has one.
abbrev pub HasName : List ℕ → Row → Option (List ℕ) → Type 0
HasName bytes row copy =
    0 < row.name_from
    → ReadsAs (slice_range bytes (row.name_from - 1 + 1) row.name_to)
    (text_or bytes (row.name_from - 1) row.name_to copy)

-- The rows are those of the text.
abbrev pub AreRowsOf : List ℕ → List Row → Type 0
AreRowsOf bytes rows =
    (text : Text) → text_bytes text ≡ bytes → map shape_of rows ≡ text_shapes text

-- for each row the text that isn't lent, or none
abbrev pub Copies : Type 0
Copies = List (Option (List ℕ))

-- The copies of so many rows, the first ones, are kept.
pub record AreCopied (bytes : List ℕ) (all : List Row) (values named : Copies) (count : ℕ)
    : Type 0 where
  pub text_count : length values ≡ count
  pub name_count : length named ≡ count
  pub texts : (k : ℕ) (row : Row) → k < count → slice_get all k ≡ Some row
      → HasText bytes row (get_or values k None)
  pub names : (k : ℕ) (row : Row) → k < count → slice_get all k ≡ Some row
      → HasName bytes row (get_or named k None)

pub record IsContent (bytes : List ℕ) (all : List Row) (values named : Copies) : Type 0 where
  pub json : IsJsonWithin greatest_depth bytes
  pub rows : AreRowsOf bytes all
  pub copies : AreCopied bytes all values named (length all)
