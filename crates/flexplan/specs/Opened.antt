-- What opening the input of `plan` gives.
use Rattle.std.specs.Prelude.{◌≡◌, ◌≢◌, ℕ, ℤ, List, [], All, Option}
use Rattle.flex_io.specs.Outside.{FileMap}
use Rattle.flex_model.specs.SoundFeed.{IsSoundFeed}
use Rattle.flex_model.specs.SoundQuery.{IsSoundQuery}
use Rattle.flex_model.specs.SoundTimes.{AreSoundTimes}
use Rattle.flex_model.specs.declared.fault.Fault.{Fault}
use Rattle.flex_model.specs.declared.feed.Feed.{Feed}
use Rattle.flex_model.specs.declared.times.Times.{Times}
use Rattle.feed_meaning.specs.FeedFaults.{Geo}
use Rattle.feed_meaning.specs.Locations.{Scan, zones_of}
use Rattle.feed_rules.specs.Zones.{ScansFolder}
use Rattle.flexplan.specs.Input.{AreTimesAccepted, FindsZone, IsAccepted, IsFeedAccepted, faults_of_feed, faults_of_queries, faults_of_times, feed, feed_folder, queries, times}
use Rattle.flexplan.specs.Words.{InputPaths}
use Rattle.flexplan.specs.declared.input.Input as declared
use Rattle.flexplan.specs.declared.input.Opened.{Opened}
use Rattle.flexplan.specs.declared.input.Opened.TheVariants.{Accepted, Refused}
use Rattle.flexplan.specs.declared.status.Status.{Status}
use Rattle.flexplan.specs.declared.status.Status.TheVariants.{FeedFaulty, TimesFaulty, QueriesFaulty}

-- the feed, or else the times folder, or else the query file has these faults, and what is fetched before it has none
abbrev pub IsRefused : Geo → FileMap → InputPaths → Status → List Fault → Type 0
IsRefused geo files paths FeedFaulty faults =
    (faults ≢ []) × (faults ≡ faults_of_feed geo (feed_folder files paths))
IsRefused geo files paths TimesFaulty faults =
    IsFeedAccepted geo files paths × (faults ≢ [])
    × ((zone : Option (List ℤ)) × FindsZone files paths zone
    × (faults ≡ faults_of_times geo files paths zone))
IsRefused geo files paths QueriesFaulty faults =
    ((bases : List ℤ) × AreTimesAccepted geo files paths bases) × (faults ≢ [])
    × (faults ≡ faults_of_queries geo files paths)
IsRefused geo files paths _ faults = ⊥

-- the feed is that of the bytes
abbrev pub HoldsFeed : Geo → FileMap → InputPaths → Feed → Type 0
HoldsFeed geo files paths held = IsFeedAccepted geo files paths × (held ≡ feed geo files paths)

-- the feed and the times are those of the bytes, in the zone with these bases
abbrev pub HoldsTimes : Geo → FileMap → InputPaths → Feed → Times → List ℤ → Type 0
HoldsTimes geo files paths held its bases =
    AreTimesAccepted geo files paths bases × (held ≡ feed geo files paths)
    × (its ≡ times geo files paths)

-- the feed, the times, the zone and the queries are those of the bytes
pub record HoldsInput (geo : Geo) (files : FileMap) (paths : InputPaths)
    (input : declared.Input) : Type 0 where
  pub accepted : IsAccepted geo files paths input.zone
  pub «feed» : input.feed ≡ feed geo files paths
  pub «times» : input.times ≡ times geo files paths
  pub «queries» : input.queries ≡ queries geo files paths

-- The input is accepted with these values, or refused with these faults, by how locations.geojson is read.
abbrev pub IsOpenedBy : Geo → FileMap → InputPaths → Opened → Type 0
IsOpenedBy geo files paths (Accepted input) = HoldsInput geo files paths input
IsOpenedBy geo files paths (Refused status faults) = IsRefused geo files paths status faults

-- in whichever way that agrees with the grammar of JSON its text is scanned
abbrev pub IsOpened : FileMap → InputPaths → Opened → Type 0
IsOpened files paths opened =
    (scan : List ℕ → Scan) → ScansFolder scan (feed_folder files paths)
    → IsOpenedBy (zones_of scan) files paths opened

-- told or not, what is accepted is sound
pub record IsSoundInput (input : declared.Input) : Type 0 where
  pub «feed» : IsSoundFeed input.feed
  pub «times» : AreSoundTimes input.feed input.times
  pub each : All (IsSoundQuery input.feed input.times) input.queries

abbrev pub IsSoundOpening : Opened → Type 0
IsSoundOpening (Accepted input) = IsSoundInput input
IsSoundOpening (Refused FeedFaulty faults) = Unit {0}
IsSoundOpening (Refused TimesFaulty faults) = Unit {0}
IsSoundOpening (Refused QueriesFaulty faults) = Unit {0}
IsSoundOpening (Refused _ faults) = ⊥
