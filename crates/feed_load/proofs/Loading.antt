-- What is loaded of the files that were fetched is loaded of the told folder.
use Rattle.std.proofs.Common.{◌≡◌, ℕ, List, Option, None, Some, map, refl, ◌∙◌, ap, subst}
use Rattle.std.specs.Prelude.{IfSome}
use Rattle.flex_io.specs.Outside.{FileMap}
use Rattle.flex_model.specs.declared.fault.InputFile.{InputFile}
use Rattle.flex_model.specs.declared.fault.InputFile.TheVariants.{Agency, Stops, Routes, Trips, StopTimes, Calendar, CalendarDates, Locations, LocationGroups, LocationGroupStops, BookingRules, Transfers, Frequencies, ZoneText, ZoneTzif, Points, Direct, Walks, Queries}
use Rattle.flex_model.specs.declared.fault.RawFile.{RawFile}
use Rattle.flex_model.specs.declared.fault.RawFile.TheVariants.{Absent}
use Rattle.feed_meaning.specs.FeedFaults.{Geo, feed_files}
use Rattle.feed_meaning.specs.Folder.{Folder}
use Rattle.feed_meaning.specs.Locations.{Scan, zones_of}
use Rattle.feed_meaning.specs.Told.{told_folder}
use Rattle.feed_rules.specs.Folders.{folder_of}
use Rattle.feed_rules.specs.Zones.{ScansFolder}
use Rattle.feed_load.specs.Fetched.{told_feed}
use Rattle.feed_load.specs.Loads.{IsLoaded, IsLoadedBy}
use Rattle.feed_load.specs.declared.folder.Loaded.{Loaded}
use Rattle.feed_load.specs.declared.folder.Loaded.TheVariants.{Clean, Faulty}

-- the files of a feed alone
of_feed : Folder → Folder
of_feed f Agency = f Agency
of_feed f Stops = f Stops
of_feed f Routes = f Routes
of_feed f Trips = f Trips
of_feed f StopTimes = f StopTimes
of_feed f Calendar = f Calendar
of_feed f CalendarDates = f CalendarDates
of_feed f Locations = f Locations
of_feed f LocationGroups = f LocationGroups
of_feed f LocationGroupStops = f LocationGroupStops
of_feed f BookingRules = f BookingRules
of_feed f Transfers = f Transfers
of_feed f Frequencies = f Frequencies
of_feed f file = Absent

fetched-same : (f : Folder) (file : InputFile) → folder_of (map f feed_files) file ≡ of_feed f file
unfolding of_feed
fetched-same f Agency = refl
fetched-same f Stops = refl
fetched-same f Routes = refl
fetched-same f Trips = refl
fetched-same f StopTimes = refl
fetched-same f Calendar = refl
fetched-same f CalendarDates = refl
fetched-same f Locations = refl
fetched-same f LocationGroups = refl
fetched-same f LocationGroupStops = refl
fetched-same f BookingRules = refl
fetched-same f Transfers = refl
fetched-same f Frequencies = refl
fetched-same f ZoneText = refl
fetched-same f ZoneTzif = refl
fetched-same f Points = refl
fetched-same f Direct = refl
fetched-same f Walks = refl
fetched-same f Queries = refl

fetched-all : (f : Folder) → folder_of (map f feed_files) ≡ of_feed f
fetched-all f = λ k file. fetched-same f file k

scans-same : (scan : List ℕ → Scan) (f : Folder) → ScansFolder scan f → ScansFolder scan (of_feed f)
unfolding of_feed
scans-same scan f scans = record { scans = scans.scans }

by-answer : (geo : Geo) (f : Folder) (loaded : Loaded) → IsLoadedBy geo (of_feed f) loaded → IsLoadedBy geo f loaded
unfolding of_feed
by-answer geo f (Clean feed) h = (h.0, h.1)
by-answer geo f (Faulty faults) h = (h.0, h.1)

told_loaded : (told : FileMap) (folder : List ℕ) (raws : List RawFile) (loaded : Loaded) → raws ≡ told_feed told folder → IsLoaded (folder_of raws) loaded → IsLoaded (told_folder told folder) loaded
told_loaded told folder raws loaded same h =
    let of : IsLoaded (of_feed (told_folder told folder)) loaded = subst (λ f. IsLoaded f loaded) (ap folder_of same ∙ fetched-all (told_folder told folder)) h in
    λ scan scans. by-answer (zones_of scan) (told_folder told folder) loaded (of scan (scans-same scan (told_folder told folder) scans))

-- it is loaded of the told folder, where the files tell what they hold
pub told_answer : (o : Option FileMap) (folder : List ℕ) (raws : List RawFile) (loaded : Loaded) → IfSome o (λ told. raws ≡ told_feed told folder) → IsLoaded (folder_of raws) loaded
    → IfSome o (λ told. IsLoaded (told_folder told folder) loaded)
told_answer None folder raws loaded same h = tt
told_answer (Some told) folder raws loaded same h = told_loaded told folder raws loaded same h
