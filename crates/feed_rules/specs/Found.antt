-- What the files of a feed were found to be, and the faults of each by itself.
use Rattle.std.specs.Prelude.{◌≡◌, ℕ, Bool, true, false, not, ◌&&◌, if◌then◌else◌, List, [], ◌∷◌, None, Some}
use Rattle.feed_tables.specs.Records.{header_of, table_records}
use Rattle.feed_tables.specs.Refusals.{first_refusal}
use Rattle.feed_tables.specs.declared.refusal.TableRefusal.{TableRefusal}
use Rattle.feed_tables.specs.declared.refusal.TableRefusal.TheVariants as refusal
use Rattle.flex_model.specs.declared.fault.Fault.{Fault}
use Rattle.flex_model.specs.declared.fault.FaultCode.TheVariants as code
use Rattle.flex_model.specs.declared.fault.InputFile.{InputFile}
use Rattle.flex_model.specs.declared.fault.InputFile.TheVariants.{Agency, Stops, Routes, Trips, StopTimes, Calendar, CalendarDates, LocationGroups, LocationGroupStops, BookingRules, Transfers, Frequencies}
use Rattle.flex_model.specs.declared.fault.RawFile.{RawFile}
use Rattle.flex_model.specs.declared.fault.RawFile.TheVariants as raw_file
use Rattle.feed_meaning.specs.FeedFaults.{agency_schema, booking_rules_schema, calendar_dates_schema, calendar_schema, frequencies_schema, group_stops_schema, groups_schema, routes_schema, stop_times_schema, stops_schema, table, transfers_schema, trips_schema}
use Rattle.feed_meaning.specs.Folder.{may_be_blank}
use Rattle.feed_meaning.specs.Tables.{Schema, fault, missing_columns, missing_faults, refusal_fault, schema_faults}
use Rattle.feed_rules.specs.declared.found.Found.{Found}
use Rattle.feed_rules.specs.declared.found.Found.TheVariants.{Absent, TooLarge, Refused, Read}

-- a file was found to be this
abbrev pub IsFound : RawFile → Found → Type 0
IsFound raw Absent = raw ≡ raw_file.Absent
IsFound raw TooLarge = raw ≡ raw_file.TooLarge
IsFound raw (Refused r) = (bytes : List ℕ) × (raw ≡ raw_file.Bytes bytes)
    × (first_refusal (table_records bytes) ≡ Some r)
IsFound raw (Read t) = (bytes : List ℕ) × (raw ≡ raw_file.Bytes bytes)
    × (first_refusal (table_records bytes) ≡ None) × (t ≡ table_records bytes)

-- the needed columns and the rules of each table
abbrev pub schema_of : InputFile → Schema
schema_of Agency = agency_schema
schema_of Stops = stops_schema
schema_of Routes = routes_schema
schema_of Trips = trips_schema
schema_of StopTimes = stop_times_schema
schema_of Calendar = calendar_schema
schema_of CalendarDates = calendar_dates_schema
schema_of LocationGroups = groups_schema
schema_of LocationGroupStops = group_stops_schema
schema_of BookingRules = booking_rules_schema
schema_of Transfers = transfers_schema
schema_of Frequencies = frequencies_schema
schema_of file = table [] (λ earlier r. [])

abbrev pub is_no_header : TableRefusal → Bool
is_no_header refusal.NoHeader = true
is_no_header r = false

-- the file was found, and doesn't count as absent
abbrev pub is_found : InputFile → Found → Bool
is_found file Absent = false
is_found file TooLarge = true
is_found file (Refused r) = not (may_be_blank file && is_no_header r)
is_found file (Read t) = true

abbrev pub missing_fault : InputFile → Bool → List Fault
missing_fault file is_needed = if is_needed then fault file 0 code.MissingFile ∷ [] else []

-- the faults of a file before its records are judged
abbrev pub outer_faults : InputFile → Bool → Found → List Fault
outer_faults file is_needed Absent = missing_fault file is_needed
outer_faults file is_needed TooLarge = fault file 0 code.FileTooLarge ∷ []
outer_faults file is_needed (Refused r) =
    if may_be_blank file && is_no_header r then missing_fault file is_needed
    else refusal_fault file r
outer_faults file is_needed (Read t) =
    missing_faults file (missing_columns (schema_of file) (header_of t))

-- the faults of a file by itself
abbrev pub found_faults : InputFile → Bool → Found → List Fault
found_faults file is_needed (Read t) =
    schema_faults file (schema_of file) (missing_columns (schema_of file) (header_of t)) t
found_faults file is_needed found = outer_faults file is_needed found
