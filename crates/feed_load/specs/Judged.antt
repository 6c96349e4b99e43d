-- What a feed folder is found to be.
use Rattle.std.specs.Prelude.{◌≡◌, ◌≢◌, List, [], Option, None, Some}
use Rattle.flex_model.specs.declared.fault.InputFile.TheVariants.{Stops, Trips, StopTimes, Calendar, CalendarDates, Locations, LocationGroups, LocationGroupStops, BookingRules, Transfers, Frequencies}
use Rattle.feed_meaning.specs.FeedFaults.{Feature, Geo, feed_faults, features, tables}
use Rattle.feed_meaning.specs.FeedLinks.{Tables}
use Rattle.feed_meaning.specs.Folder.{Folder}
use Rattle.feed_rules.specs.Links.{records_in}
use Rattle.feed_rules.specs.Zones.{zone_values}
use Rattle.feed_load.specs.FeedTables.{zone_features}
use Rattle.feed_load.specs.TableValues.{values_in}
use Rattle.feed_load.specs.declared.accepted.Judged.{Judged}
use Rattle.feed_load.specs.declared.accepted.Judged.TheVariants.{Accepted, Faulty}
use Rattle.feed_load.specs.declared.tables.FeedTables.{FeedTables}

-- the tables' records are those of the files, and the zones are the features
pub record HaveRecords (t : FeedTables) (tables : Tables) (zones_held : List Feature) : Type 0 where
  pub stops : tables Stops ≡ records_in t.stops
  pub trips : tables Trips ≡ values_in t.trips.now
  pub stop_times : tables StopTimes ≡ values_in t.stop_times.now
  pub calendar : tables Calendar ≡ records_in t.calendar
  pub dates : tables CalendarDates ≡ records_in t.dates
  pub zones : tables Locations ≡ zone_values t.zones
  pub groups : tables LocationGroups ≡ records_in t.groups
  pub group_stops : tables LocationGroupStops ≡ records_in t.group_stops
  pub booking_rules : tables BookingRules ≡ records_in t.booking_rules
  pub transfers : tables Transfers ≡ records_in t.transfers
  pub frequencies : tables Frequencies ≡ records_in t.frequencies
  pub features : zones_held ≡ zone_features t.zones

-- all needed tables are there, with the records of the folder
abbrev pub AreFound : Geo → Folder → Option FeedTables → Type 0
AreFound geo folder None = ⊥
AreFound geo folder (Some t) = HaveRecords t (tables geo folder) (features geo folder)

-- the tables of an accepted folder, or the fault list of another
abbrev pub IsJudged : Geo → Folder → Judged → Type 0
IsJudged geo folder (Accepted t) =
    (feed_faults geo folder ≡ []) × HaveRecords t (tables geo folder) (features geo folder)
IsJudged geo folder (Faulty faults) = (faults ≢ []) × (faults ≡ feed_faults geo folder)
