-- What stands for the tables that records name.
use Rattle.std.specs.Prelude.{◌≡◌, ℕ, List, [], map, true, Option, Some, None, codes}
use Rattle.std.specs.Borrow.{Bor}
use Rattle.std.specs.List.{list_all, list_any}
use Rattle.std.specs.Str.{bytes_eq}
use Rattle.feed_tables.specs.Refusals.{is_given}
use Rattle.flex_model.specs.declared.fault.InputFile.{InputFile}
use Rattle.flex_model.specs.declared.fault.InputFile.TheVariants.{Stops, Routes, Trips, Calendar, CalendarDates, Locations, LocationGroups, BookingRules}
use Rattle.feed_meaning.specs.FeedLinks.{Tables, is_station}
use Rattle.feed_meaning.specs.Indexes.{HasIds}
use Rattle.feed_meaning.specs.Rules.{Values}
use Rattle.feed_meaning.specs.Tables.{Entry, entries_of}
use Rattle.feed_rules.specs.Zones.{zone_values}
use Rattle.feed_rules.specs.declared.known_ids.LinkTables.{LinkTables}
use Rattle.feed_rules.specs.declared.known_ids.PlaceIds.{PlaceIds}
use Rattle.feed_rules.specs.declared.known_ids.TripIds.{TripIds}
use Rattle.feed_rules.specs.declared.links.LinkIds.{LinkIds}
use Prim.Native.String.{String}

-- the ids that trips name are those of the tables
pub record AreTripIds (ids : TripIds) (tables : Tables) : Type 0 where
  pub routes : HasIds ids.routes tables Routes "route_id"
  pub calendar : HasIds ids.calendar tables Calendar "service_id"
  pub dates : HasIds ids.dates tables CalendarDates "service_id"

-- the ids of places are those of the tables
pub record ArePlaceIds (ids : PlaceIds) (tables : Tables) : Type 0 where
  pub stops : HasIds ids.stops tables Stops "stop_id"
  pub stations : (text : List ℕ) → is_given text ≡ true
      → list_any (bytes_eq text) ids.stations ≡ is_station tables text
  pub groups : HasIds ids.groups tables LocationGroups "location_group_id"
  pub zones : HasIds ids.zones tables Locations "id"

-- the ids are those of the tables
pub record StandFor (ids : LinkIds) (tables : Tables) : Type 0 where
  pub routes : HasIds ids.routes tables Routes "route_id"
  pub calendar : HasIds ids.calendar tables Calendar "service_id"
  pub dates : HasIds ids.dates tables CalendarDates "service_id"
  pub trips : HasIds ids.trips tables Trips "trip_id"
  pub stops : HasIds ids.stops tables Stops "stop_id"
  pub stations : (text : List ℕ) → is_given text ≡ true
      → list_any (bytes_eq text) ids.stations ≡ is_station tables text
  pub groups : HasIds ids.groups tables LocationGroups "location_group_id"
  pub zones : HasIds ids.zones tables Locations "id"
  pub booking_rules : HasIds ids.booking_rules tables BookingRules "booking_rule_id"

-- the records of a table, none where there is no such file
abbrev pub records_in : Option (Bor (List (List (List ℕ)))) → List Values
records_in None = []
records_in (Some table) = map (λ e. e.values) (entries_of table.now)

-- the ids stand for the column with this name, in all tables that have the records of the file
abbrev pub StandForColumn : List (List ℕ) → Option (Bor (List (List (List ℕ)))) → List ℕ → Type 0
StandForColumn ids found name = (tables : Tables) (file : InputFile) (column : String)
    → name ≡ codes column → tables file ≡ records_in found → HasIds ids tables file column

-- the tables' records are those of the files
pub record AreTablesOf (found : LinkTables) (tables : Tables) : Type 0 where
  pub routes : tables Routes ≡ records_in found.routes
  pub calendar : tables Calendar ≡ records_in found.calendar
  pub dates : tables CalendarDates ≡ records_in found.dates
  pub trips : tables Trips ≡ records_in found.trips
  pub stops : tables Stops ≡ records_in found.stops
  pub groups : tables LocationGroups ≡ records_in found.groups
  pub booking_rules : tables BookingRules ≡ records_in found.booking_rules
  pub zones : tables Locations ≡ zone_values found.zones

-- each record of location_groups.txt has an id
abbrev pub HaveGroupIds : InputFile → List Entry → Type 0
HaveGroupIds LocationGroups es = list_all (λ e. is_given (e.values "location_group_id")) es ≡ true
HaveGroupIds file es = Unit {0}
