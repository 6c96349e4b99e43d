-- The times of a folder with its zone.
use Rattle.std.specs.Prelude.{◌≡◌, ℕ, ℤ, List, Option, None, Some, Ok, is_none}
use Rattle.flex_model.specs.declared.fault.InputFile.TheVariants.{ZoneText, ZoneTzif}
use Rattle.flex_model.specs.declared.fault.RawFile.{RawFile}
use Rattle.flex_model.specs.declared.fault.RawFile.TheVariants.{Absent, TooLarge, Bytes}
use Rattle.flex_model.specs.declared.feed.Feed.{Feed}
use Rattle.flex_model.specs.SoundTimes.{AreSoundTimes}
use Rattle.feed_meaning.specs.Folder.{Folder}
use Rattle.feed_meaning.specs.TimesFaults.{BadZones}
use Rattle.service_days.specs.ZoneForms.{IsBadZone, IsZoneAnswer}
use Rattle.service_days.specs.declared.forms.ZoneForm.{ZoneForm}
use Rattle.service_days.specs.declared.forms.ZoneForm.TheVariants.{Posix, Tzif}
use Rattle.place_times.specs.Fetches.{AreFetched}
use Rattle.place_times.specs.Levels.{AreRead, judged}
use Rattle.place_times.specs.declared.fetch.TimesFiles.{TimesFiles}
use Rattle.place_times.specs.declared.read.ReadTimes.{ReadTimes}
use Rattle.place_times.specs.declared.read.ReadTimes.TheVariants as read
use Rattle.place_times.specs.declared.folder.LoadedTimes.{LoadedTimes}
use Rattle.place_times.specs.declared.folder.LoadedTimes.TheVariants.{Clean, Faulty}

-- what the reader of zones says of bytes: the begins of the zone's days, or that it is bad
abbrev pub IsZoneRead : ZoneForm → List ℕ → Option (List ℤ) → Type 0
IsZoneRead form bytes None = IsBadZone form bytes
IsZoneRead form bytes (Some bases) = IsZoneAnswer form bytes (Ok bases)

-- the zone of the two zone files, none where it is bad or there are no bytes to be read
abbrev pub IsZoneFound : RawFile → RawFile → Option (List ℤ) → Type 0
IsZoneFound Absent Absent zone = zone ≡ None
IsZoneFound Absent TooLarge zone = zone ≡ None
IsZoneFound Absent (Bytes bytes) zone = IsZoneRead Tzif bytes zone
IsZoneFound TooLarge tzif zone = zone ≡ None
IsZoneFound (Bytes bytes) tzif zone = IsZoneRead Posix bytes zone

-- times that are told come with this zone
abbrev pub HasZone : LoadedTimes → Option (List ℤ) → Type 0
HasZone (Clean times bases) found = found ≡ Some bases
HasZone (Faulty faults) found = Unit {0}

abbrev pub without_zone : LoadedTimes → ReadTimes
without_zone (Clean times bases) = read.Clean times
without_zone (Faulty faults) = read.Faulty faults

-- a zone file is bad just where no zone was found in it
abbrev pub judged_by : Option (List ℤ) → BadZones
judged_by bases = judged (is_none bases)

-- The zone is read as its reader says. A folder with these files gives its times where it has no fault, and else its whole
-- fault list.
pub record AreReadWithZone (files : TimesFiles) (feed : Feed) (times : LoadedTimes) : Type 0 where
  pub bases : Option (List ℤ)
  pub found : IsZoneFound files.zone_text files.zone_tzif bases
  pub given : HasZone times bases
  pub whole : (folder : Folder) → AreFetched folder files
      → AreRead (judged_by bases) feed folder (without_zone times)

-- told or not, the times are sound
abbrev pub IsSoundLoad : Feed → LoadedTimes → Type 0
IsSoundLoad feed (Clean times bases) = AreSoundTimes feed times
IsSoundLoad feed (Faulty faults) = Unit {0}

-- What loading a folder gives: where it has no fault, its times and the zone as its reader reads the one zone file that is
-- looked at, and else its whole fault list.
pub record AreLoaded (feed : Feed) (folder : Folder) (times : LoadedTimes) : Type 0 where
  pub bases : Option (List ℤ)
  pub found : IsZoneFound (folder ZoneText) (folder ZoneTzif) bases
  pub given : HasZone times bases
  pub whole : AreRead (judged_by bases) feed folder (without_zone times)
