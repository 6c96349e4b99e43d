-- The fault lists of a times folder as it was read, and its times.
use Rattle.std.specs.Prelude.{◌≡◌, ◌≢◌, Bool, if◌then◌else◌, List, [], ◌∷◌, ◌++◌, map}
use Rattle.std.specs.List.{flat_map}
use Rattle.flex_model.specs.declared.fault.Fault.{Fault}
use Rattle.flex_model.specs.declared.fault.FaultCode.TheVariants as code
use Rattle.flex_model.specs.declared.fault.InputFile.{InputFile}
use Rattle.flex_model.specs.declared.fault.InputFile.TheVariants.{ZoneText, ZoneTzif, Points, Direct, Walks}
use Rattle.flex_model.specs.declared.fault.RawFile.{RawFile}
use Rattle.flex_model.specs.declared.fault.RawFile.TheVariants.{Absent, TooLarge, Bytes}
use Rattle.flex_model.specs.declared.feed.Feed.{Feed}
use Rattle.flex_model.specs.declared.times.Times.{Times}
use Rattle.flex_model.specs.SoundTimes.{AreSoundTimes}
use Rattle.feed_meaning.specs.FeedValue.{rising}
use Rattle.feed_meaning.specs.Folder.{Folder}
use Rattle.feed_meaning.specs.Rules.{Values}
use Rattle.feed_meaning.specs.Tables.{fault, faults_at}
use Rattle.feed_meaning.specs.TimesFaults.{BadZones, point_links, span_links, times_faults}
use Rattle.feed_meaning.specs.TimesValue.{point_of, span_before, span_of, times_of}
use Rattle.place_times.specs.Found.{IsFound, found_faults, records_of, values_of_found}
use Rattle.place_times.specs.declared.fetch.TimesFiles.{TimesFiles}
use Rattle.place_times.specs.declared.found.Found.{Found}
use Rattle.place_times.specs.declared.read.LinkedSpans.{LinkedSpans}
use Rattle.place_times.specs.declared.read.LinkedSpans.TheVariants as linked
use Rattle.place_times.specs.declared.read.ReadTimes.{ReadTimes}
use Rattle.place_times.specs.declared.read.ReadTimes.TheVariants.{Clean, Faulty}
use Rattle.place_times.specs.declared.read.TimesTables.{TimesTables}

abbrev pub bad_zone : InputFile → Bool → List Fault
bad_zone file is_bad = if is_bad then fault file 0 code.BadZone ∷ [] else []

-- the faults of zone.txt, or where that is absent of zone.tzif, by whether its zone is bad
abbrev pub zone_list : RawFile → RawFile → Bool → List Fault
zone_list Absent Absent is_bad = fault ZoneText 0 code.MissingFile ∷ []
zone_list Absent TooLarge is_bad = fault ZoneTzif 0 code.FileTooLarge ∷ []
zone_list Absent (Bytes bytes) is_bad = bad_zone ZoneTzif is_bad
zone_list TooLarge tzif is_bad = fault ZoneText 0 code.FileTooLarge ∷ []
zone_list (Bytes bytes) tzif is_bad = bad_zone ZoneText is_bad

-- whether the zone is bad is said of either file: only one of them is looked at
abbrev pub judged : Bool → BadZones
judged is_bad file bytes = is_bad

-- the tables are those of the files
pub record AreTablesOf (files : TimesFiles) (tables : TimesTables) : Type 0 where
  pub points : IsFound Points files.points tables.points
  pub direct : IsFound Direct files.direct tables.direct
  pub walks : IsFound Walks files.walks tables.walks

-- no table has a fault by itself
pub record AreAcceptedTables (tables : TimesTables) : Type 0 where
  pub points : found_faults Points tables.points ≡ []
  pub direct : found_faults Direct tables.direct ≡ []
  pub walks : found_faults Walks tables.walks ≡ []

-- the faults of the files by themselves, after those of the zone
abbrev pub level_one : List Fault → TimesTables → List Fault
level_one zone tables = ((zone ++ found_faults Points tables.points)
    ++ found_faults Direct tables.direct) ++ found_faults Walks tables.walks

abbrev pub point_link_list : Feed → Found → List Fault
point_link_list feed found = flat_map (λ e. faults_at Points e.row (point_links feed e.values))
    (records_of found)

abbrev pub span_link_list : Feed → List Values → InputFile → Found → List Fault
span_link_list feed points file found =
    flat_map (λ e. faults_at file e.row (span_links feed points e.values)) (records_of found)

-- the faults of the tables beside the feed and the points
abbrev pub link_list : Feed → List Values → TimesTables → List Fault
link_list feed points tables =
    (point_link_list feed tables.points ++ span_link_list feed points Direct tables.direct)
    ++ span_link_list feed points Walks tables.walks

-- the times of the tables
abbrev pub times_in : Feed → TimesTables → Times
times_in feed tables =
    let points = map point_of (values_of_found tables.points) in
    record {
      points = points;
      direct = rising span_before (map (span_of feed points) (values_of_found tables.direct));
      walks = rising span_before (map (span_of feed points) (values_of_found tables.walks));
    }

-- the spans of the tables where they have no faults beside the feed and the points, and else those faults
abbrev pub AreLinked : Feed → TimesTables → LinkedSpans → Type 0
AreLinked feed tables (linked.Clean direct walks) =
    (link_list feed (values_of_found tables.points) tables ≡ [])
    × (direct ≡ (times_in feed tables).direct) × (walks ≡ (times_in feed tables).walks)
AreLinked feed tables (linked.Faulty faults) =
    (link_list feed (values_of_found tables.points) tables ≢ [])
    × (faults ≡ link_list feed (values_of_found tables.points) tables)

-- the times where there are no faults, and else the faults
abbrev pub HoldsTimes : List Fault → Times → ReadTimes → Type 0
HoldsTimes faults times (Clean read) = (faults ≡ []) × (read ≡ times)
HoldsTimes faults times (Faulty read) = (faults ≢ []) × (read ≡ faults)

-- A folder without faults gives its times, which are sound for the feed. Another gives its whole fault list.
abbrev pub AreRead : BadZones → Feed → Folder → ReadTimes → Type 0
AreRead is_bad_zone feed folder (Clean read) = (times_faults is_bad_zone feed folder ≡ [])
    × (read ≡ times_of feed folder) × AreSoundTimes feed read
AreRead is_bad_zone feed folder (Faulty read) =
    (times_faults is_bad_zone feed folder ≢ []) × (read ≡ times_faults is_bad_zone feed folder)
