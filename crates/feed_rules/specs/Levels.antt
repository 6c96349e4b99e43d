-- The fault lists of a feed as it was read.
use Rattle.std.specs.Prelude.{Bool, true, false, not, List}
use Rattle.std.specs.List.{flat_map}
use Rattle.flex_model.specs.declared.fault.Fault.{Fault}
use Rattle.flex_model.specs.declared.fault.InputFile.{InputFile}
use Rattle.flex_model.specs.declared.fault.InputFile.TheVariants.{Agency, Stops, Routes, Trips, StopTimes, Calendar, CalendarDates, Locations}
use Rattle.feed_meaning.specs.FeedFaults.{feed_files}
use Rattle.feed_rules.specs.Folders.{found_of}
use Rattle.feed_rules.specs.Found.{found_faults, is_found}
use Rattle.feed_rules.specs.Zones.{are_found, zone_faults}
use Rattle.feed_rules.specs.declared.folder.RawFeed.{RawFeed}

-- the feed can't do without the table
abbrev pub needs : RawFeed → InputFile → Bool
needs raw Agency = true
needs raw Stops = not (are_found raw.zones)
needs raw Routes = true
needs raw Trips = true
needs raw StopTimes = true
needs raw Calendar = not (is_found CalendarDates raw.calendar_dates)
needs raw file = false

-- the faults of a file by itself
abbrev pub own_faults : RawFeed → InputFile → List Fault
own_faults raw Locations = zone_faults raw.zones
own_faults raw file = found_faults file (needs raw file) (found_of raw file)

-- the faults of the files by themselves
abbrev pub level_one : RawFeed → List Fault
level_one raw = flat_map (own_faults raw) feed_files
