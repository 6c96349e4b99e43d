-- A feed folder as it was read.
use Rattle.std.specs.Prelude.{◌≡◌, ℕ, Bool, true, false, if◌then◌else◌, List, [], ◌∷◌, Option, None, Some, get_or}
use Rattle.feed_tables.specs.Records.{table_records}
use Rattle.feed_tables.specs.Refusals.{first_refusal}
use Rattle.feed_tables.specs.declared.refusal.TableRefusal.{TableRefusal}
use Rattle.flex_model.specs.declared.fault.InputFile.{InputFile}
use Rattle.flex_model.specs.declared.fault.InputFile.TheVariants.{Agency, Stops, Routes, Trips, StopTimes, Calendar, CalendarDates, Locations, LocationGroups, LocationGroupStops, BookingRules, Transfers, Frequencies}
use Rattle.flex_model.specs.declared.fault.RawFile.{RawFile}
use Rattle.flex_model.specs.declared.fault.RawFile.TheVariants.{Absent, TooLarge, Bytes}
use Rattle.feed_meaning.specs.Folder.{Folder}
use Rattle.feed_meaning.specs.Told.{IsWithin}
use Rattle.feed_rules.specs.Found.{IsFound}
use Rattle.feed_rules.specs.Zones.{AreFoundZones}
use Rattle.feed_rules.specs.declared.found.Found.TheVariants as found
use Rattle.feed_rules.specs.declared.found.Found.{Found}
use Rattle.feed_rules.specs.declared.folder.RawFeed.{RawFeed}
use Rattle.feed_rules.specs.declared.zones.FoundZones.{FoundZones}

-- thirteen files that are absent
abbrev pub absent_files : List RawFile
absent_files =
    Absent ∷ Absent ∷ Absent ∷ Absent ∷ Absent ∷ Absent ∷ Absent ∷ Absent ∷ Absent ∷ Absent ∷ Absent
    ∷ Absent ∷ Absent ∷ []

-- the folder of a feed's files, in their order
abbrev pub folder_of : List RawFile → Folder
folder_of raws Agency = get_or raws 0 Absent
folder_of raws Stops = get_or raws 1 Absent
folder_of raws Routes = get_or raws 2 Absent
folder_of raws Trips = get_or raws 3 Absent
folder_of raws StopTimes = get_or raws 4 Absent
folder_of raws Calendar = get_or raws 5 Absent
folder_of raws CalendarDates = get_or raws 6 Absent
folder_of raws Locations = get_or raws 7 Absent
folder_of raws LocationGroups = get_or raws 8 Absent
folder_of raws LocationGroupStops = get_or raws 9 Absent
folder_of raws BookingRules = get_or raws 10 Absent
folder_of raws Transfers = get_or raws 11 Absent
folder_of raws Frequencies = get_or raws 12 Absent
folder_of raws file = Absent

-- the index of a file among those of the feed
abbrev pub file_index : InputFile → ℕ
file_index Agency = 0
file_index Stops = 1
file_index Routes = 2
file_index Trips = 3
file_index StopTimes = 4
file_index Calendar = 5
file_index CalendarDates = 6
file_index Locations = 7
file_index LocationGroups = 8
file_index LocationGroupStops = 9
file_index BookingRules = 10
file_index Transfers = 11
file_index Frequencies = 12
file_index file = 13

-- what each table of the feed was found to be; other files are no tables
abbrev pub found_of : RawFeed → InputFile → Found
found_of raw Agency = raw.agency
found_of raw Stops = raw.stops
found_of raw Routes = raw.routes
found_of raw Trips = raw.trips
found_of raw StopTimes = raw.stop_times
found_of raw Calendar = raw.calendar
found_of raw CalendarDates = raw.calendar_dates
found_of raw LocationGroups = raw.location_groups
found_of raw LocationGroupStops = raw.location_group_stops
found_of raw BookingRules = raw.booking_rules
found_of raw Transfers = raw.transfers
found_of raw Frequencies = raw.frequencies
found_of raw file = found.Absent

-- the file is a table of a feed
abbrev pub is_feed_table : InputFile → Bool
is_feed_table Agency = true
is_feed_table Stops = true
is_feed_table Routes = true
is_feed_table Trips = true
is_feed_table StopTimes = true
is_feed_table Calendar = true
is_feed_table CalendarDates = true
is_feed_table LocationGroups = true
is_feed_table LocationGroupStops = true
is_feed_table BookingRules = true
is_feed_table Transfers = true
is_feed_table Frequencies = true
is_feed_table file = false

-- the file is one of a feed
abbrev pub is_feed_file : InputFile → Bool
is_feed_file Locations = true
is_feed_file file = is_feed_table file

-- what locations.geojson was found to be
abbrev pub found_zones : RawFeed → FoundZones
found_zones raw = raw.zones

-- What was read stands for the folder: each table was found to be what the folder has, and so were the zones, from fewer
-- than 2^32 bytes.
pub record ReadsFolder (raw : RawFeed) (folder : Folder) : Type 0 where
  pub tables : (file : InputFile) → is_feed_table file ≡ true
      → IsFound (folder file) (found_of raw file)
  pub zones : AreFoundZones (folder Locations) (found_zones raw)
  pub counted : IsWithin 4294967295 (folder Locations)

-- the records of a table that was read, header first
abbrev pub table_of : Found → Option (List (List (List ℕ)))
table_of (found.Read t) = Some t
table_of found = None

-- records that aren't refused
abbrev pub accepted_records : Option TableRefusal → List (List (List ℕ))
    → Option (List (List (List ℕ)))
accepted_records None records = Some records
accepted_records (Some r) records = None

-- the records of a file that is there, within its limit and not refused
abbrev pub raw_table : RawFile → Option (List (List (List ℕ)))
raw_table Absent = None
raw_table TooLarge = None
raw_table (Bytes bytes) = accepted_records (first_refusal (table_records bytes))
    (table_records bytes)

-- the records of a table of a feed, where it can be read
abbrev pub table_in : Folder → InputFile → Option (List (List (List ℕ)))
table_in folder file = if is_feed_table file then raw_table (folder file) else None
