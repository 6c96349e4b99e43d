-- Laws of the demo: its feed, its times and its queries have no fault, whatever its number is.
use Rattle.std.specs.Prelude.{◌≡◌, ℕ, false, List, [], codes}
use Rattle.feed_meaning.specs.FeedFaults.{feed_faults}
use Rattle.feed_meaning.specs.FeedValue.{feed_of}
use Rattle.feed_meaning.specs.Files.{byte_limit}
use Rattle.feed_meaning.specs.Folder.{Folder}
use Rattle.feed_meaning.specs.Locations.{Scan, zones_of}
use Rattle.feed_meaning.specs.QueryFaults.{query_faults}
use Rattle.feed_meaning.specs.TimesFaults.{BadZones, times_faults}
use Rattle.feed_meaning.specs.TimesValue.{times_of}
use Rattle.feed_meaning.specs.Told.{told_file, told_folder}
use Rattle.flex_model.specs.declared.fault.InputFile.TheVariants.{Queries, ZoneText}
use Rattle.flex_model.specs.declared.fault.RawFile.{RawFile}
use Rattle.flex_model.specs.declared.feed.Feed.{Feed}
use Rattle.flex_model.specs.declared.times.Times.{Times}
use Rattle.geo_json.specs.Scans.{IsScanOf}
use Rattle.feed_gen.specs.DemoFiles.{demo_files}
use Rattle.feed_gen.specs.FeedTexts.{locations_text}
use Rattle.feed_gen.specs.TimesTexts.{zone_text}

-- what fetching the demo's feed gives, and its times, and its queries
abbrev pub demo_feed_folder : ℕ → Folder
demo_feed_folder number = told_folder (demo_files number) (codes "feed")

abbrev pub demo_times_folder : ℕ → Folder
demo_times_folder number = told_folder (demo_files number) (codes "times")

abbrev pub demo_query_file : ℕ → RawFile
demo_query_file number = told_file (demo_files number) (byte_limit Queries) (codes "queries")

-- the feed of the demo, by how the text of locations.geojson is scanned, and the times beside it
abbrev pub demo_feed : (List ℕ → Scan) → ℕ → Feed
demo_feed scan number = feed_of (zones_of scan) (demo_feed_folder number)

abbrev pub demo_times : (List ℕ → Scan) → ℕ → Times
demo_times scan number = times_of (demo_feed scan number) (demo_times_folder number)

-- Texts are scanned in a way that agrees with the grammar of JSON at the demo's zones.
abbrev pub ScansDemo : (List ℕ → Scan) → Type 0
ScansDemo scan = IsScanOf locations_text (scan locations_text)

-- The demo's feed has no fault.
abbrev pub DemoFeedsHaveNoFaults : Type 0
DemoFeedsHaveNoFaults = (number : ℕ) (scan : List ℕ → Scan) → ScansDemo scan
    → feed_faults (zones_of scan) (demo_feed_folder number) ≡ []

-- Beside that feed the demo's times have no fault, where the text of UTC is no bad zone.
abbrev pub DemoTimesHaveNoFaults : Type 0
DemoTimesHaveNoFaults = (number : ℕ) (scan : List ℕ → Scan) (is_bad_zone : BadZones)
    → is_bad_zone ZoneText zone_text ≡ false
    → times_faults is_bad_zone (demo_feed scan number) (demo_times_folder number) ≡ []

-- Beside both the demo's queries have no fault.
abbrev pub DemoQueriesHaveNoFaults : Type 0
DemoQueriesHaveNoFaults = (number : ℕ) (scan : List ℕ → Scan)
    → query_faults (demo_feed scan number) (demo_times scan number) (demo_query_file number) ≡ []
