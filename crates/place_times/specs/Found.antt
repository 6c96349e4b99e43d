-- What the tables of a times folder were found to be, and the faults of each by itself. The folder can do without each.
use Rattle.std.specs.Prelude.{◌≡◌, Bool, true, false, if◌then◌else◌, List, [], ◌∷◌, map}
use Rattle.feed_tables.specs.Records.{header_of, table_records}
use Rattle.flex_model.specs.declared.fault.Fault.{Fault}
use Rattle.flex_model.specs.declared.fault.FaultCode.TheVariants as code
use Rattle.flex_model.specs.declared.fault.InputFile.{InputFile}
use Rattle.flex_model.specs.declared.fault.InputFile.TheVariants.{Points, Direct, Walks}
use Rattle.flex_model.specs.declared.fault.RawFile.{RawFile}
use Rattle.flex_model.specs.declared.fault.RawFile.TheVariants.{Absent, TooLarge, Bytes}
use Rattle.feed_meaning.specs.FeedFaults.{table}
use Rattle.feed_meaning.specs.Folder.{bytes_of, has_no_record}
use Rattle.feed_meaning.specs.Rules.{Values}
use Rattle.feed_meaning.specs.Tables.{Entry, Schema, entries_of, fault, missing_columns, missing_faults, schema_faults, table_faults}
use Rattle.feed_meaning.specs.TimesFaults.{direct_schema, points_schema, walks_schema}
use Rattle.place_times.specs.declared.found.Found.{Found}
use Rattle.place_times.specs.declared.found.Found.TheVariants.{Nothing, Faulty, Read}

-- the file is a table of a times folder
abbrev pub is_times_table : InputFile → Bool
is_times_table Points = true
is_times_table Direct = true
is_times_table Walks = true
is_times_table file = false

-- the needed columns and the rules of each table
abbrev pub schema_of : InputFile → Schema
schema_of Points = points_schema
schema_of Direct = direct_schema
schema_of Walks = walks_schema
schema_of file = table [] (λ earlier r. [])

-- the faults of a table by itself: none where it is absent or has no record
abbrev pub own_faults : InputFile → Schema → RawFile → List Fault
own_faults file schema Absent = []
own_faults file schema TooLarge = fault file 0 code.FileTooLarge ∷ []
own_faults file schema (Bytes bytes) =
    if has_no_record (table_records bytes) then [] else table_faults file schema
    (table_records bytes)

abbrev pub entries_in : RawFile → List Entry
entries_in raw = entries_of (table_records (bytes_of raw))

-- A file was found to be this: without records, with one fault, or a table that isn't refused.
abbrev pub IsFound : InputFile → RawFile → Found → Type 0
IsFound file raw Nothing = ((schema : Schema) → own_faults file schema raw ≡ [])
    × (entries_in raw ≡ [])
IsFound file raw (Faulty f) = (schema : Schema) → own_faults file schema raw ≡ f ∷ []
IsFound file raw (Read t) = ((schema : Schema)
    → own_faults file schema raw ≡ schema_faults file schema
    (missing_columns schema (header_of t)) t) × (t ≡ table_records (bytes_of raw))

-- the faults of a table before its records are judged
abbrev pub outer_faults : InputFile → Found → List Fault
outer_faults file Nothing = []
outer_faults file (Faulty f) = f ∷ []
outer_faults file (Read t) = missing_faults file (missing_columns (schema_of file) (header_of t))

-- the faults of a table by itself
abbrev pub found_faults : InputFile → Found → List Fault
found_faults file Nothing = []
found_faults file (Faulty f) = f ∷ []
found_faults file (Read t) = schema_faults file (schema_of file)
    (missing_columns (schema_of file) (header_of t)) t

-- the records of a table
abbrev pub records_of : Found → List Entry
records_of Nothing = []
records_of (Faulty f) = []
records_of (Read t) = entries_of t

abbrev pub values_of_found : Found → List Values
values_of_found found = map (λ e. e.values) (records_of found)
