-- The files of a folder: which are there, which are needed, and the faults of each by itself. A
-- feed needs what the GTFS Schedule reference requires of these files. The times folder and the
-- query file are this project's own.
use Rattle.std.specs.Prelude.{ℕ, Bool, true, false, not, ◌&&◌, if◌then◌else◌, List, [], ◌∷◌}
use Rattle.feed_tables.specs.Records.{table_records}
use Rattle.flex_model.specs.declared.fault.Fault.{Fault}
use Rattle.flex_model.specs.declared.fault.FaultCode.TheVariants as code
use Rattle.flex_model.specs.declared.fault.InputFile.{InputFile}
use Rattle.flex_model.specs.declared.fault.InputFile.TheVariants.{Agency, Stops, Routes, Trips, StopTimes, Calendar, CalendarDates, Locations, ZoneText, ZoneTzif, Queries}
use Rattle.flex_model.specs.declared.fault.RawFile.{RawFile}
use Rattle.flex_model.specs.declared.fault.RawFile.TheVariants.{Absent, TooLarge, Bytes}
use Rattle.feed_meaning.specs.Tables.{Entry, entries_of, fault}

-- what fetching each file gave
abbrev pub Folder : Type 0
Folder = InputFile → RawFile

-- The file is a table that counts as absent where it has no record. The other tables then lack
-- their header.
abbrev pub may_be_blank : InputFile → Bool
may_be_blank Agency = false
may_be_blank Routes = false
may_be_blank Trips = false
may_be_blank StopTimes = false
may_be_blank Locations = false
may_be_blank ZoneText = false
may_be_blank ZoneTzif = false
may_be_blank Queries = false
may_be_blank file = true

abbrev pub has_no_record : List (List (List ℕ)) → Bool
has_no_record [] = true
has_no_record (header ∷ records) = false

-- a file counts as present: a file over its limit does
abbrev pub counts_as_present : InputFile → RawFile → Bool
counts_as_present file Absent = false
counts_as_present file TooLarge = true
counts_as_present file (Bytes bytes) =
    not (may_be_blank file && has_no_record (table_records bytes))

abbrev pub is_present : Folder → InputFile → Bool
is_present folder file = counts_as_present file (folder file)

-- the folder can't do without the file
abbrev pub is_needed : Folder → InputFile → Bool
is_needed folder Agency = true
is_needed folder Stops = not (is_present folder Locations)
is_needed folder Routes = true
is_needed folder Trips = true
is_needed folder StopTimes = true
is_needed folder Calendar = not (is_present folder CalendarDates)
is_needed folder ZoneText = not (is_present folder ZoneTzif)
is_needed folder Queries = true
is_needed folder file = false

-- the faults of a file by its bytes
abbrev pub Contents : Type 0
Contents = InputFile → List ℕ → List Fault

-- the faults of a file that is present
abbrev pub fetched_faults : Contents → InputFile → RawFile → List Fault
fetched_faults contents file Absent = []
fetched_faults contents file TooLarge = fault file 0 code.FileTooLarge ∷ []
fetched_faults contents file (Bytes bytes) = contents file bytes

-- the faults of a file by itself: it is missing, too large, or as its bytes are
abbrev pub file_faults : Contents → Folder → InputFile → List Fault
file_faults contents folder file =
    if is_present folder file then fetched_faults contents file (folder file)
    else if is_needed folder file then fault file 0 code.MissingFile ∷ []
    else []

-- the bytes of a file, none where there is no file to be read
abbrev pub bytes_of : RawFile → List ℕ
bytes_of Absent = []
bytes_of TooLarge = []
bytes_of (Bytes bytes) = bytes

-- the records of a table, after its header
abbrev pub entries : Folder → InputFile → List Entry
entries folder file = entries_of (table_records (bytes_of (folder file)))
