-- The input files' names and limits, what a fetch within a limit gives, and the printed names of
-- the fault codes.
use Rattle.std.specs.Prelude.{ℕ, nat_lt, if◌then◌else◌, List, length, Option, Some, None, codes}
use Rattle.flex_model.specs.declared.fault.FaultCode.{FaultCode}
use Rattle.flex_model.specs.declared.fault.FaultCode.TheVariants as code
use Rattle.flex_model.specs.declared.fault.InputFile.{InputFile}
use Rattle.flex_model.specs.declared.fault.InputFile.TheVariants.{Agency, Stops, Routes, Trips, StopTimes, Calendar, CalendarDates, Locations, LocationGroups, LocationGroupStops, BookingRules, Transfers, Frequencies, ZoneText, ZoneTzif, Points, Direct, Walks, Queries}
use Rattle.flex_model.specs.declared.fault.RawFile.{RawFile}
use Rattle.flex_model.specs.declared.fault.RawFile.TheVariants.{Absent, TooLarge, Bytes}

-- A file's name in its folder and in printed faults: of a feed as the GTFS Schedule reference and
-- its Flex files name it, of a times folder this project's own. The query file has any name, and is
-- printed as `queries`.
abbrev pub file_name : InputFile → List ℕ
file_name Agency = codes "agency.txt"
file_name Stops = codes "stops.txt"
file_name Routes = codes "routes.txt"
file_name Trips = codes "trips.txt"
file_name StopTimes = codes "stop_times.txt"
file_name Calendar = codes "calendar.txt"
file_name CalendarDates = codes "calendar_dates.txt"
file_name Locations = codes "locations.geojson"
file_name LocationGroups = codes "location_groups.txt"
file_name LocationGroupStops = codes "location_group_stops.txt"
file_name BookingRules = codes "booking_rules.txt"
file_name Transfers = codes "transfers.txt"
file_name Frequencies = codes "frequencies.txt"
file_name ZoneText = codes "zone.txt"
file_name ZoneTzif = codes "zone.tzif"
file_name Points = codes "points.txt"
file_name Direct = codes "direct.txt"
file_name Walks = codes "walks.txt"
file_name Queries = codes "queries"

-- The most bytes that a file may have, this project's own: 256 MiB for the two long tables, 1 MiB
-- for a zone and 64 MiB for each other file.
abbrev pub byte_limit : InputFile → ℕ
byte_limit StopTimes = 268435456
byte_limit Direct = 268435456
byte_limit ZoneText = 1048576
byte_limit ZoneTzif = 1048576
byte_limit file = 67108864

-- what a fetch within a limit gives, where a file is there with these bytes or isn't
abbrev pub raw_of : ℕ → Option (List ℕ) → RawFile
raw_of limit None = Absent
raw_of limit (Some bytes) = if nat_lt limit (length bytes) then TooLarge else Bytes bytes

-- the name of a code in printed faults
abbrev pub code_name : FaultCode → List ℕ
code_name code.MissingFile = codes "MISSING_FILE"
code_name code.FileTooLarge = codes "FILE_TOO_LARGE"
code_name code.NotUtf8 = codes "NOT_UTF8"
code_name code.NoHeader = codes "NO_HEADER"
code_name code.DuplicateColumn = codes "DUPLICATE_COLUMN"
code_name code.RowTooLong = codes "ROW_TOO_LONG"
code_name code.TooManyRows = codes "TOO_MANY_ROWS"
code_name code.MissingColumn = codes "MISSING_COLUMN"
code_name code.EmptyField = codes "EMPTY_FIELD"
code_name code.BadEnum = codes "BAD_ENUM"
code_name code.BadTime = codes "BAD_TIME"
code_name code.BadDate = codes "BAD_DATE"
code_name code.BadNumber = codes "BAD_NUMBER"
code_name code.BadCoordinate = codes "BAD_COORDINATE"
code_name code.BadMoment = codes "BAD_MOMENT"
code_name code.BadZone = codes "BAD_ZONE"
code_name code.DuplicateKey = codes "DUPLICATE_KEY"
code_name code.PlaceCount = codes "PLACE_COUNT"
code_name code.WindowPair = codes "WINDOW_PAIR"
code_name code.WindowMissing = codes "WINDOW_MISSING"
code_name code.WindowWithTime = codes "WINDOW_WITH_TIME"
code_name code.WindowOrder = codes "WINDOW_ORDER"
code_name code.WindowPickup = codes "WINDOW_PICKUP"
code_name code.WindowDropOff = codes "WINDOW_DROP_OFF"
code_name code.TimeOrder = codes "TIME_ORDER"
code_name code.UntimedEnd = codes "UNTIMED_END"
code_name code.DateOrder = codes "DATE_ORDER"
code_name code.FieldMissing = codes "FIELD_MISSING"
code_name code.FieldForbidden = codes "FIELD_FORBIDDEN"
code_name code.TimezoneDiffers = codes "TIMEZONE_DIFFERS"
code_name code.JsonSyntax = codes "JSON_SYNTAX"
code_name code.JsonDepth = codes "JSON_DEPTH"
code_name code.GeoShape = codes "GEO_SHAPE"
code_name code.RingOpen = codes "RING_OPEN"
code_name code.RingShort = codes "RING_SHORT"
code_name code.UnknownId = codes "UNKNOWN_ID"
code_name code.BadStopKind = codes "BAD_STOP_KIND"
code_name code.SharedId = codes "SHARED_ID"
