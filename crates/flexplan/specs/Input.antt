-- The input that told files give, and when it is accepted.
use Rattle.std.specs.Prelude.{◌≡◌, ℤ, List, [], Option, Some}
use Rattle.flex_io.specs.Outside.{FileMap}
use Rattle.flex_model.specs.declared.fault.Fault.{Fault}
use Rattle.flex_model.specs.declared.fault.InputFile.TheVariants.{Queries, ZoneText, ZoneTzif}
use Rattle.flex_model.specs.declared.fault.RawFile.{RawFile}
use Rattle.flex_model.specs.declared.feed.Feed.{Feed}
use Rattle.flex_model.specs.declared.query.Query.{Query}
use Rattle.flex_model.specs.declared.times.Times.{Times}
use Rattle.feed_meaning.specs.FeedFaults.{Geo, feed_faults}
use Rattle.feed_meaning.specs.FeedValue.{feed_of}
use Rattle.feed_meaning.specs.Folder.{Folder}
use Rattle.feed_meaning.specs.QueryFaults.{query_faults}
use Rattle.feed_meaning.specs.TimesFaults.{times_faults}
use Rattle.feed_meaning.specs.TimesValue.{queries_of, times_of}
use Rattle.feed_meaning.specs.Files.{byte_limit}
use Rattle.feed_meaning.specs.Told.{told_file, told_folder}
use Rattle.place_times.specs.Loads.{IsZoneFound, judged_by}
use Rattle.flexplan.specs.Words.{InputPaths}

-- the fault list of a feed folder, by how locations.geojson is read
abbrev pub faults_of_feed : Geo → Folder → List Fault
faults_of_feed geo folder = feed_faults geo folder

module _ (files : FileMap) (paths : InputPaths) where
  abbrev pub feed_folder : Folder
  feed_folder = told_folder files paths.feed

  abbrev pub times_folder : Folder
  times_folder = told_folder files paths.times

  abbrev pub query_file : RawFile
  query_file = told_file files (byte_limit Queries) paths.queries

  -- The zone of the times folder as its reader finds it: the begins of its days, or none where the zone is bad or missing.
  abbrev pub FindsZone : Option (List ℤ) → Type 0
  FindsZone zone = IsZoneFound (times_folder ZoneText) (times_folder ZoneTzif) zone

-- by how locations.geojson is read
module _ (geo : Geo) (files : FileMap) (paths : InputPaths) where
  -- the feed, the times and the queries of the bytes
  abbrev pub feed : Feed
  feed = feed_of geo (feed_folder files paths)

  abbrev pub times : Times
  times = times_of feed (times_folder files paths)

  abbrev pub queries : List Query
  queries = queries_of feed times (query_file files paths)

  -- the fault list of the times folder where this zone is found in it
  abbrev pub faults_of_times : Option (List ℤ) → List Fault
  faults_of_times zone = times_faults (judged_by zone) feed (times_folder files paths)

  abbrev pub faults_of_queries : List Fault
  faults_of_queries = query_faults feed times (query_file files paths)

  -- the feed has no faults
  pub record IsFeedAccepted : Type 0 where
    pub none : faults_of_feed geo (feed_folder files paths) ≡ []

  -- so have the times, and the days of their time zone begin at these bases
  pub record AreTimesAccepted (bases : List ℤ) : Type 0 where
    pub accepted : IsFeedAccepted
    pub zone : FindsZone files paths (Some bases)
    pub none : faults_of_times (Some bases) ≡ []

  -- and so have the queries
  pub record IsAccepted (bases : List ℤ) : Type 0 where
    pub accepted : AreTimesAccepted bases
    pub none : faults_of_queries ≡ []
