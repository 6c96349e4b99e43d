-- What the fetched files give is what their folder gives.
use Rattle.std.proofs.Common.{◌≡◌, ℕ, ℤ, List, Option, None, Some, IfSome, refl, subst}
use Rattle.flex_model.specs.declared.fault.InputFile.TheVariants.{ZoneText, ZoneTzif, Points, Direct, Walks}
use Rattle.flex_model.specs.declared.fault.RawFile.{RawFile}
use Rattle.flex_model.specs.declared.fault.RawFile.TheVariants.{Absent, TooLarge, Bytes}
use Rattle.flex_model.specs.declared.feed.Feed.{Feed}
use Rattle.flex_io.specs.Outside.{FileMap}
use Rattle.feed_meaning.specs.Folder.{Folder}
use Rattle.feed_meaning.specs.TimesFaults.{BadZones}
use Rattle.feed_meaning.specs.Told.{told_folder}
use Rattle.place_times.specs.Fetches.{AreFetched}
use Rattle.place_times.specs.Levels.{AreRead}
use Rattle.place_times.specs.Loads.{AreLoaded, AreReadWithZone, IsSoundLoad, IsZoneFound, judged_by, without_zone}
use Rattle.place_times.specs.declared.fetch.TimesFiles.{TimesFiles}
use Rattle.place_times.specs.declared.folder.LoadedTimes.{LoadedTimes}
use Rattle.place_times.specs.declared.folder.LoadedTimes.TheVariants.{Clean, Faulty}

if_told : (told : Option FileMap) (P Q : FileMap → Type 0) → IfSome told P → ((files : FileMap) → P files → Q files) → IfSome told Q
if_told None P Q p leads = tt
if_told (Some files) P Q p leads = leads files p

-- zone.tzif matters only where zone.txt is absent
found_there : (text tzif tzif' : RawFile) (bases : Option (List ℤ)) → (text ≡ Absent → tzif ≡ tzif') → IsZoneFound text tzif bases → IsZoneFound text tzif' bases
found_there Absent tzif tzif' bases same found = subst (λ raw. IsZoneFound Absent raw bases) (same refl) found
found_there TooLarge tzif tzif' bases same found = found
found_there (Bytes bytes) tzif tzif' bases same found = found

folder_read : (feed : Feed) (folder : Folder) (files : TimesFiles) (times : LoadedTimes) → AreFetched folder files → AreReadWithZone files feed times → AreLoaded feed folder times
folder_read feed folder files times fetched read = record {
  bases = read.bases;
  found = subst (λ text. IsZoneFound text (folder ZoneTzif) read.bases) fetched.zone_text
      (found_there files.zone_text files.zone_tzif (folder ZoneTzif) read.bases fetched.zone_tzif read.found);
  given = read.given;
  whole = read.whole folder fetched;
}

pub loaded_there : (feed : Feed) (path : List ℕ) (told : Option FileMap) (files : TimesFiles) (times : LoadedTimes) → IfSome told (λ map. AreFetched (told_folder map path) files)
    → AreReadWithZone files feed times → IfSome told (λ map. AreLoaded feed (told_folder map path) times)
loaded_there feed path told files times fetched read = if_told told _ _ fetched (λ map its. folder_read feed (told_folder map path) files times its read)

-- ---- the files alone

-- a folder with these files
abbrev files_folder : TimesFiles → Folder
files_folder files ZoneText = files.zone_text
files_folder files ZoneTzif = files.zone_tzif
files_folder files Points = files.points
files_folder files Direct = files.direct
files_folder files Walks = files.walks
files_folder files file = Absent

has_files : (files : TimesFiles) → AreFetched (files_folder files) files
has_files files = record { zone_text = refl; zone_tzif = λ e. refl; points = refl; direct = refl; walks = refl }

by_times : (is_bad_zone : BadZones) (feed : Feed) (folder : Folder) (times : LoadedTimes) → AreRead is_bad_zone feed folder (without_zone times) → IsSoundLoad feed times
by_times is_bad_zone feed folder (Clean times bases) read = read.2
by_times is_bad_zone feed folder (Faulty faults) read = tt

pub sound_load : (files : TimesFiles) (feed : Feed) (times : LoadedTimes) → AreReadWithZone files feed times → IsSoundLoad feed times
sound_load files feed times read = by_times (judged_by read.bases) feed (files_folder files) times (read.whole (files_folder files) (has_files files))
