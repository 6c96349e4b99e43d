-- The records of a table, by what csv promises of its bytes.
use Rattle.std.specs.Prelude.{ℕ, ◌+◌, List, [], ◌∷◌, map, drop, get_or}
use Rattle.csv.specs.Reading.{default_config, records, strip_bom}
use Rattle.feed_tables.specs.Fields.{all_trimmed}

-- the records that csv promises for a text: commas, double quotes and doubled quotes as in RFC
-- 4180, lines that end with CRLF, LF or CR, records of any length, no header row, and empty lines
-- passed over. Its reader takes one byte order mark off the start by itself
abbrev pub csv_records : List ℕ → List (List (List ℕ))
csv_records text = records default_config (strip_bom text)

-- the records of a file's bytes, header first: those of csv for the bytes without one byte order
-- mark, each field without blanks at both ends. The GTFS Schedule reference lets a file begin with
-- a byte order mark and end its lines with CRLF or LF
abbrev pub table_records : List ℕ → List (List (List ℕ))
table_records bytes = map all_trimmed (csv_records (strip_bom bytes))

-- the header of a table's records
abbrev pub header_of : List (List (List ℕ)) → List (List ℕ)
header_of records = get_or records 0 []

-- a record after the header, with its row number
pub record RowFields : Type 0 where
  pub number : ℕ
  pub fields : List (List ℕ)

-- records with their row numbers, counted on from a number
unfoldable pub numbered_from : ℕ → List (List (List ℕ)) → List RowFields
numbered_from number [] = []
numbered_from number (fields ∷ rest) =
    record { number = number; fields = fields } ∷ numbered_from (number + 1) rest

-- the records after the header. The header has the number 1, and each record counts one
abbrev pub rows_of : List (List (List ℕ)) → List RowFields
rows_of records = numbered_from 2 (drop 1 records)
