-- The records of a table's bytes, comma-separated values with a header (RFC 4180), and the faults
-- of its records by the rules of the table.
use Rattle.std.specs.Prelude.{ℕ, Bool, not, List, [], ◌∷◌, ◌++◌, filter, map, position, Option, Some, None, is_some, codes}
use Rattle.std.specs.List.{filter_map, flat_map}
use Rattle.std.specs.Option.{option_map_or}
use Rattle.std.specs.Str.{bytes_eq}
use Rattle.feed_tables.specs.Fields.{value_at}
use Rattle.feed_tables.specs.Records.{RowFields, header_of, rows_of}
use Rattle.feed_tables.specs.Refusals.{first_refusal}
use Rattle.feed_tables.specs.declared.refusal.TableRefusal.{TableRefusal}
use Rattle.feed_tables.specs.declared.refusal.TableRefusal.TheVariants as refusal
use Rattle.flex_model.specs.declared.fault.Fault.{Fault}
use Rattle.flex_model.specs.declared.fault.FaultCode.{FaultCode}
use Rattle.flex_model.specs.declared.fault.FaultCode.TheVariants as code
use Rattle.flex_model.specs.declared.fault.InputFile.{InputFile}
use Rattle.feed_meaning.specs.Rules.{Rule, Rules, Values}
use Prim.Native.String.{String}

-- a record with its row number
pub record Entry : Type 0 where
  pub row : ℕ
  pub values : Values

-- the value of a record's fields at the column with this name in its table's header
abbrev pub value_named : List (List ℕ) → List (List ℕ) → List ℕ → List ℕ
value_named header fields name =
    option_map_or (value_at fields) (position (bytes_eq name) header) []

-- the values of a record
abbrev pub values_of : List (List ℕ) → List (List ℕ) → Values
values_of header fields column = value_named header fields (codes column)

abbrev pub entry_of : List (List ℕ) → RowFields → Entry
entry_of header r = record { row = r.number; values = values_of header r.fields }

-- the records after the header
abbrev pub entries_of : List (List (List ℕ)) → List Entry
entries_of records = map (entry_of (header_of records)) (rows_of records)

abbrev pub fault : InputFile → ℕ → FaultCode → Fault
fault file row code = record { file = file; row = row; code = code }

-- the faults of a row by its rules, in their order
abbrev pub faults_at : InputFile → ℕ → List Rule → List Fault
faults_at file row rules = map (fault file row) (filter_map (λ r. r) rules)

-- each item with those before it
unfoldable pub with_earlier_from : {X : Type 0} → List X → List X → List (List X × X)
with_earlier_from earlier [] = []
with_earlier_from earlier (x ∷ xs) = (earlier, x) ∷ with_earlier_from (earlier ++ x ∷ []) xs

abbrev pub with_earlier : {X : Type 0} → List X → List (List X × X)
with_earlier items = with_earlier_from [] items

-- For each record, for each rule that is broken there, its fault.
abbrev pub record_faults : InputFile → Rules → List Entry → List Fault
record_faults file rules entries =
    flat_map (λ p. faults_at file p.1.row (rules (map (λ e. e.values) p.0) p.1.values))
    (with_earlier entries)

-- a header names a column
abbrev pub has_column : List (List ℕ) → String → Bool
has_column header column = is_some (position (bytes_eq (codes column)) header)

-- the fault of a table that is refused
abbrev pub refusal_fault : InputFile → TableRefusal → List Fault
refusal_fault file (refusal.NotUtf8 row) = fault file row code.NotUtf8 ∷ []
refusal_fault file refusal.NoHeader = fault file 0 code.NoHeader ∷ []
refusal_fault file refusal.DuplicateColumn = fault file 1 code.DuplicateColumn ∷ []
refusal_fault file (refusal.RowTooLong row) = fault file row code.RowTooLong ∷ []
refusal_fault file refusal.TooManyRows = fault file 4000002 code.TooManyRows ∷ []
refusal_fault file refusal.NoMemory = []

-- a table's needed columns, and the rules of its records
pub record Schema : Type 0 where
  pub needed : List String
  pub rules : Rules

abbrev pub missing_columns : Schema → List (List ℕ) → List String
missing_columns schema header = filter (λ column. not (has_column header column)) schema.needed

-- the faults of the columns that a table lacks, all at its header
abbrev pub missing_faults : InputFile → List String → List Fault
missing_faults file columns = map (λ column. fault file 1 code.MissingColumn) columns

-- the faults of a table that isn't refused: those of its needed columns alone, or of its records
abbrev pub schema_faults : InputFile → Schema → List String → List (List (List ℕ)) → List Fault
schema_faults file schema [] records = record_faults file schema.rules (entries_of records)
schema_faults file schema (column ∷ more) records = missing_faults file (column ∷ more)

-- a table that is refused has one fault
abbrev pub accepted_faults : InputFile → Schema → Option TableRefusal → List (List (List ℕ))
    → List Fault
accepted_faults file schema (Some r) records = refusal_fault file r
accepted_faults file schema None records =
    schema_faults file schema (missing_columns schema (header_of records)) records

-- the faults of a table by itself
abbrev pub table_faults : InputFile → Schema → List (List (List ℕ)) → List Fault
table_faults file schema records = accepted_faults file schema (first_refusal records) records
