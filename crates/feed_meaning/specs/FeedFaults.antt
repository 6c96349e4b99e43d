-- The fault list of a feed folder. Needed columns are those of the GTFS Schedule reference that
-- this project reads.
use Rattle.std.specs.Prelude.{ℕ, List, [], ◌∷◌, map}
use Rattle.std.specs.List.{flat_map}
use Rattle.feed_tables.specs.Records.{table_records}
use Rattle.flex_model.specs.declared.fault.Fault.{Fault}
use Rattle.flex_model.specs.declared.fault.FaultCode.{FaultCode}
use Rattle.flex_model.specs.declared.fault.InputFile.{InputFile}
use Rattle.flex_model.specs.declared.fault.InputFile.TheVariants.{Agency, Stops, Routes, Trips, StopTimes, Calendar, CalendarDates, Locations, LocationGroups, LocationGroupStops, BookingRules, Transfers, Frequencies}
use Rattle.flex_model.specs.declared.fault.RawFile.{RawFile}
use Rattle.flex_model.specs.declared.fault.RawFile.TheVariants.{Absent, TooLarge, Bytes}
use Rattle.flex_model.specs.declared.place.Polygon.{Polygon}
use Rattle.feed_meaning.specs.FeedLinks.{Links, Tables, booking_rule_links, frequency_links, group_links, group_stop_links, location_links, stop_time_links, transfer_links, trip_links}
use Rattle.feed_meaning.specs.FeedRules.{agency_rules, booking_rules, calendar_date_rules, calendar_rules, frequency_rules, group_rules, group_stop_rules, route_rules, stop_rules, stop_time_rules, transfer_rules, trip_rules}
use Rattle.feed_meaning.specs.Folder.{Contents, Folder, entries, file_faults}
use Rattle.feed_meaning.specs.Rules.{Rules}
use Rattle.feed_meaning.specs.Tables.{Entry, Schema, fault, faults_at, table_faults}
use Prim.Native.String.{String}

-- a feature of locations.geojson, with the row at which it begins
pub record Feature : Type 0 where
  pub row : ℕ
  pub id : List ℕ
  pub polygons : List Polygon

-- what the bytes of locations.geojson hold: faults as rows and codes, or features
pub record Zones : Type 0 where
  pub faults : List (ℕ × FaultCode)
  pub features : List Feature

-- how locations.geojson is read
abbrev pub Geo : Type 0
Geo = List ℕ → Zones

abbrev pub feed_files : List InputFile
feed_files =
    Agency ∷ Stops ∷ Routes ∷ Trips ∷ StopTimes ∷ Calendar ∷ CalendarDates ∷ Locations
    ∷ LocationGroups
    ∷ LocationGroupStops ∷ BookingRules ∷ Transfers ∷ Frequencies ∷ []

-- a table's needed columns and its rules
abbrev pub table : List String → Rules → Schema
table needed rules = record { needed = needed; rules = rules }

abbrev pub agency_schema : Schema
agency_schema = table ("agency_timezone" ∷ []) agency_rules

abbrev pub stops_schema : Schema
stops_schema = table ("stop_id" ∷ []) stop_rules

abbrev pub routes_schema : Schema
routes_schema = table ("route_id" ∷ []) route_rules

abbrev pub trips_schema : Schema
trips_schema = table ("route_id" ∷ "service_id" ∷ "trip_id" ∷ []) trip_rules

abbrev pub stop_times_schema : Schema
stop_times_schema = table ("trip_id" ∷ "stop_sequence" ∷ []) stop_time_rules

abbrev pub calendar_schema : Schema
calendar_schema =
    table ("service_id" ∷ "monday" ∷ "tuesday" ∷ "wednesday" ∷ "thursday" ∷ "friday" ∷ "saturday"
    ∷ "sunday" ∷ "start_date" ∷ "end_date" ∷ [])
    calendar_rules

abbrev pub calendar_dates_schema : Schema
calendar_dates_schema = table ("service_id" ∷ "date" ∷ "exception_type" ∷ []) calendar_date_rules

abbrev pub groups_schema : Schema
groups_schema = table ("location_group_id" ∷ []) group_rules

abbrev pub group_stops_schema : Schema
group_stops_schema = table ("location_group_id" ∷ "stop_id" ∷ []) group_stop_rules

abbrev pub booking_rules_schema : Schema
booking_rules_schema = table ("booking_rule_id" ∷ "booking_type" ∷ []) booking_rules

abbrev pub transfers_schema : Schema
transfers_schema = table ("transfer_type" ∷ []) transfer_rules

abbrev pub frequencies_schema : Schema
frequencies_schema =
    table ("trip_id" ∷ "start_time" ∷ "end_time" ∷ "headway_secs" ∷ []) frequency_rules

-- the faults of each file of a feed by its bytes
abbrev pub feed_contents : Geo → Contents
feed_contents geo Agency bytes = table_faults Agency agency_schema (table_records bytes)
feed_contents geo Stops bytes = table_faults Stops stops_schema (table_records bytes)
feed_contents geo Routes bytes = table_faults Routes routes_schema (table_records bytes)
feed_contents geo Trips bytes = table_faults Trips trips_schema (table_records bytes)
feed_contents geo StopTimes bytes = table_faults StopTimes stop_times_schema (table_records bytes)
feed_contents geo Calendar bytes = table_faults Calendar calendar_schema (table_records bytes)
feed_contents geo CalendarDates bytes =
    table_faults CalendarDates calendar_dates_schema (table_records bytes)
feed_contents geo Locations bytes = map (λ f. fault Locations f.0 f.1) (geo bytes).faults
feed_contents geo LocationGroups bytes =
    table_faults LocationGroups groups_schema (table_records bytes)
feed_contents geo LocationGroupStops bytes =
    table_faults LocationGroupStops group_stops_schema (table_records bytes)
feed_contents geo BookingRules bytes =
    table_faults BookingRules booking_rules_schema (table_records bytes)
feed_contents geo Transfers bytes = table_faults Transfers transfers_schema (table_records bytes)
feed_contents geo Frequencies bytes =
    table_faults Frequencies frequencies_schema (table_records bytes)
feed_contents geo file bytes = []

-- the faults of each file by itself, in the order of the files
abbrev pub feed_level_one : Geo → Folder → List Fault
feed_level_one geo folder = flat_map (file_faults (feed_contents geo) folder) feed_files

-- a feature as a record with its id in the one column
abbrev pub feature_entry : Feature → Entry
feature_entry feature = record { row = feature.row; values = λ column. feature.id }

-- the features that a file holds, none where there is no file to be read
abbrev pub features_in : Geo → RawFile → List Feature
features_in geo Absent = []
features_in geo TooLarge = []
features_in geo (Bytes bytes) = (geo bytes).features

abbrev pub features : Geo → Folder → List Feature
features geo folder = features_in geo (folder Locations)

-- the records of each file of the feed
abbrev pub feed_entries : Geo → Folder → InputFile → List Entry
feed_entries geo folder Locations = map feature_entry (features geo folder)
feed_entries geo folder file = entries folder file

abbrev pub tables : Geo → Folder → Tables
tables geo folder file = map (λ e. e.values) (feed_entries geo folder file)

abbrev pub no_links : Links
no_links others r = []

-- the rules that tie each file to the others
abbrev pub links_of : InputFile → Links
links_of Trips = trip_links
links_of StopTimes = stop_time_links
links_of Locations = location_links
links_of LocationGroups = group_links
links_of LocationGroupStops = group_stop_links
links_of BookingRules = booking_rule_links
links_of Transfers = transfer_links
links_of Frequencies = frequency_links
links_of file = no_links

abbrev pub link_faults : Geo → Folder → InputFile → List Fault
link_faults geo folder file =
    flat_map (λ e. faults_at file e.row (links_of file (tables geo folder) e.values))
    (feed_entries geo folder file)

-- the faults between the files, in the order of the files
abbrev pub feed_level_two : Geo → Folder → List Fault
feed_level_two geo folder = flat_map (link_faults geo folder) feed_files

-- the first list that isn't empty
abbrev pub first_list : List Fault → List Fault → List Fault
first_list [] second = second
first_list (f ∷ more) second = f ∷ more

-- the fault list of a feed: the files by themselves, and where that is empty, between the files
abbrev pub feed_faults : Geo → Folder → List Fault
feed_faults geo folder = first_list (feed_level_one geo folder) (feed_level_two geo folder)
