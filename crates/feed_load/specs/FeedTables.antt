-- The tables and zones of a feed, and what reading them rests on.
use Rattle.std.specs.Prelude.{IsTrue, List, [], All, map, Option, None, Some}
use Rattle.std.specs.Borrow.{Bor}
use Rattle.flex_model.specs.declared.fault.InputFile.TheVariants.{Stops, Trips, StopTimes, Calendar, CalendarDates, Locations, LocationGroups, LocationGroupStops, BookingRules, Transfers, Frequencies}
use Rattle.flex_model.specs.SoundFeed.{IsSoundPolygon}
use Rattle.flex_model.specs.SoundTimes.{AreIds}
use Rattle.feed_tables.specs.Refusals.{is_given}
use Rattle.feed_meaning.specs.FeedFaults.{Feature}
use Rattle.feed_meaning.specs.FeedLinks.{Tables}
use Rattle.feed_rules.specs.Links.{records_in}
use Rattle.feed_rules.specs.Zones.{zone_values}
use Rattle.geo_json.specs.Zones.{feature_in}
use Rattle.geo_json.specs.declared.record.ZoneRecord.{ZoneRecord}
use Rattle.feed_load.specs.BookingColumns.{HasCounts}
use Rattle.feed_load.specs.ChangeTables.{AreSoundChanges}
use Rattle.feed_load.specs.Repeats.{HasHeadway}
use Rattle.feed_load.specs.TableValues.{values_in}
use Rattle.feed_load.specs.WholeTrips.{AreTripRecords}
use Rattle.feed_load.specs.declared.tables.FeedTables.{FeedTables}

-- the records of each file, none where there is no such table
abbrev pub tables_of : FeedTables → Tables
tables_of t Stops = records_in t.stops
tables_of t Trips = values_in t.trips.now
tables_of t StopTimes = values_in t.stop_times.now
tables_of t Calendar = records_in t.calendar
tables_of t CalendarDates = records_in t.dates
tables_of t Locations = zone_values t.zones
tables_of t LocationGroups = records_in t.groups
tables_of t LocationGroupStops = records_in t.group_stops
tables_of t BookingRules = records_in t.booking_rules
tables_of t Transfers = records_in t.transfers
tables_of t Frequencies = records_in t.frequencies
tables_of t file = []

-- the zones as features, none where there is no such file
abbrev pub zone_features : Option (Bor (List ZoneRecord)) → List Feature
zone_features None = []
zone_features (Some zones) = map feature_in zones.now

-- zones whose polygons are sound
abbrev pub AreSoundZones : Option (Bor (List ZoneRecord)) → Type 0
AreSoundZones None = Unit {0}
AreSoundZones (Some zones) = All (λ zone. All IsSoundPolygon zone.polygons) zones.now

-- What an accepted folder makes sure of: ids are distinct and not empty, records name services,
-- numbers and times are such where they are given, and of two records of one trip, as of two
-- changes, one comes before the other.
pub record AreAcceptedTables (tables : Tables) : Type 0 where
  pub stop_ids : AreIds (map (λ r. r "stop_id") (tables Stops))
  pub zone_ids : AreIds (map (λ r. r "id") (tables Locations))
  pub group_ids : AreIds (map (λ r. r "location_group_id") (tables LocationGroups))
  pub booking_rule_ids : AreIds (map (λ r. r "booking_rule_id") (tables BookingRules))
  pub trip_ids : AreIds (map (λ r. r "trip_id") (tables Trips))
  pub calendar : All (λ r. IsTrue (is_given (r "service_id"))) (tables Calendar)
  pub dates : All (λ r. IsTrue (is_given (r "service_id"))) (tables CalendarDates)
  pub counts : All HasCounts (tables BookingRules)
  pub records : AreTripRecords (tables StopTimes)
  pub headways : All HasHeadway (tables Frequencies)
  pub changes : AreSoundChanges tables
