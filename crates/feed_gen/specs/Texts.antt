-- The text of a table of plain fields: comma-separated values with a header (RFC 4180), whose lines
-- end with one line feed.
use Rattle.std.specs.Prelude.{ℕ, List, ◌++◌, codes, map}
use Rattle.std.specs.List.{flat_map, join_with_byte, range_with_len}
use Rattle.std.specs.Str.{byte}
use Prim.Native.String.{String}

-- the fields of a record, parted by commas, and one line feed
abbrev pub record_line : List (List ℕ) → List ℕ
record_line fields = join_with_byte (byte ",") fields ++ codes "\n"

-- a line for each record
unfoldable pub lines : List (List (List ℕ)) → List ℕ
lines records = flat_map record_line records

-- the line of the columns' names, and a line for each record
unfoldable pub table_text : List String → List (List (List ℕ)) → List ℕ
table_text columns records = record_line (map codes columns) ++ lines records

-- the numbers from 0, so many
unfoldable pub below : ℕ → List ℕ
below count = range_with_len 0 count
