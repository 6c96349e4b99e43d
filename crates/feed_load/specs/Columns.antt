-- The columns of a table by their names, the texts of a record in them, and the places of ids.
use Rattle.std.specs.Prelude.{ℕ, List, [], Option, codes, position, unwrap_or}
use Rattle.std.specs.Option.{option_map_or}
use Rattle.std.specs.Str.{bytes_eq}
use Rattle.feed_tables.specs.Fields.{value_at}
use Rattle.field_text.specs.Grammars.{count}
use Prim.Native.String.{String}

abbrev pub column_named : List (List ℕ) → String → Option ℕ
column_named header name = position (bytes_eq (codes name)) header

-- the text of a record in a column, empty where there is no such column
abbrev pub text_at : List (List ℕ) → Option ℕ → List ℕ
text_at fields column = option_map_or (value_at fields) column []

-- the index of an id among these, 0 where it isn't among them
abbrev pub place_among : List (List ℕ) → List ℕ → ℕ
place_among ids text = unwrap_or (position (bytes_eq text) ids) 0

-- a number that fits 32 bits, and 0 where the text has none
abbrev pub number_within : List ℕ → ℕ
number_within text = unwrap_or (count 4294967295 text) 0
