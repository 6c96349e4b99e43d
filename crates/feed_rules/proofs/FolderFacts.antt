-- What was read stands for the folder, file by file.
use Rattle.std.proofs.Common.{◌≡◌, true}
use Rattle.flex_model.specs.declared.fault.InputFile.{InputFile}
use Rattle.flex_model.specs.declared.fault.InputFile.TheVariants.{Agency, Stops, Routes, Trips, StopTimes, Calendar, CalendarDates, Locations, LocationGroups, LocationGroupStops, BookingRules, Transfers, Frequencies}
use Rattle.feed_meaning.specs.Folder.{Folder}
use Rattle.feed_meaning.specs.Told.{IsWithin}
use Rattle.feed_rules.specs.Folders.{ReadsFolder, found_of, is_feed_table}
use Rattle.feed_rules.specs.Found.{IsFound}
use Rattle.feed_rules.specs.Zones.{AreFoundZones}
use Rattle.feed_rules.specs.declared.folder.RawFeed.{RawFeed}

-- each table and the zones were found to be what the folder has
pub record ReadsEach (raw : RawFeed) (folder : Folder) : Type 0 where
  pub agency : IsFound (folder Agency) raw.agency
  pub stops : IsFound (folder Stops) raw.stops
  pub routes : IsFound (folder Routes) raw.routes
  pub trips : IsFound (folder Trips) raw.trips
  pub stop_times : IsFound (folder StopTimes) raw.stop_times
  pub calendar : IsFound (folder Calendar) raw.calendar
  pub calendar_dates : IsFound (folder CalendarDates) raw.calendar_dates
  pub zones : AreFoundZones (folder Locations) raw.zones
  pub counted : IsWithin 4294967295 (folder Locations)
  pub location_groups : IsFound (folder LocationGroups) raw.location_groups
  pub location_group_stops : IsFound (folder LocationGroupStops) raw.location_group_stops
  pub booking_rules : IsFound (folder BookingRules) raw.booking_rules
  pub transfers : IsFound (folder Transfers) raw.transfers
  pub frequencies : IsFound (folder Frequencies) raw.frequencies

tables_are : (raw : RawFeed) (folder : Folder) → ReadsEach raw folder → (file : InputFile) → is_feed_table file ≡ true → IsFound (folder file) (found_of raw file)
tables_are raw folder each Agency e = each.agency
tables_are raw folder each Stops e = each.stops
tables_are raw folder each Routes e = each.routes
tables_are raw folder each Trips e = each.trips
tables_are raw folder each StopTimes e = each.stop_times
tables_are raw folder each Calendar e = each.calendar
tables_are raw folder each CalendarDates e = each.calendar_dates
tables_are raw folder each LocationGroups e = each.location_groups
tables_are raw folder each LocationGroupStops e = each.location_group_stops
tables_are raw folder each BookingRules e = each.booking_rules
tables_are raw folder each Transfers e = each.transfers
tables_are raw folder each Frequencies e = each.frequencies
tables_are raw folder each file e = cc

pub reads_each : (raw : RawFeed) (folder : Folder) → ReadsEach raw folder → ReadsFolder raw folder
reads_each raw folder each = record { tables = tables_are raw folder each; zones = each.zones; counted = each.counted }
