-- The records of a table by the values of their columns.
use Rattle.std.specs.Prelude.{ℕ, List, map}
use Rattle.feed_tables.specs.Records.{RowFields, header_of, rows_of}
use Rattle.feed_meaning.specs.Rules.{Values}
use Rattle.feed_meaning.specs.Tables.{values_of}

-- records under a header, by the values of their columns
abbrev pub values_under : List (List ℕ) → List RowFields → List Values
values_under header rows = map (λ row. values_of header row.fields) rows

-- the records of a table after its header, by the values of their columns
abbrev pub values_in : List (List (List ℕ)) → List Values
values_in records = values_under (header_of records) (rows_of records)
