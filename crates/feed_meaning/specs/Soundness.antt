-- What is accepted is sound.
use Rattle.std.specs.Prelude.{◌≡◌, ℕ, ◌^◌, ◌<◌, List, [], All, length, map}
use Rattle.flex_model.specs.declared.fault.RawFile.{RawFile}
use Rattle.flex_model.specs.declared.feed.Feed.{Feed}
use Rattle.flex_model.specs.declared.times.Times.{Times}
use Rattle.flex_model.specs.SoundFeed.{IsSoundFeed, IsSoundPolygon}
use Rattle.flex_model.specs.SoundQuery.{IsSoundQuery}
use Rattle.flex_model.specs.SoundTimes.{AreIds, AreSoundTimes}
use Rattle.feed_meaning.specs.FeedFaults.{Geo, feed_faults}
use Rattle.feed_meaning.specs.FeedValue.{feed_of}
use Rattle.feed_meaning.specs.Folder.{Folder}
use Rattle.feed_meaning.specs.Locations.{Json, Scan, feature_nodes, scanned, zones_of}
use Rattle.feed_meaning.specs.QueryFaults.{query_faults}
use Rattle.feed_meaning.specs.TimesFaults.{BadZones, times_faults}
use Rattle.feed_meaning.specs.TimesValue.{queries_of, times_of}

-- A reader of locations.geojson gives sound features where it gives no fault: fewer than a number
-- of an index can count, with ids that are distinct and not empty, and sound polygons.
pub record GivesSoundFeatures (geo : Geo) : Type 0 where
  pub few : (bytes : List ℕ) → (geo bytes).faults ≡ [] → length (geo bytes).features < 2 ^ 32
  pub ids : (bytes : List ℕ) → (geo bytes).faults ≡ []
      → AreIds (map (λ f. f.id) (geo bytes).features)
  pub polygons : (bytes : List ℕ) → (geo bytes).faults ≡ []
      → All (λ f. All IsSoundPolygon f.polygons) (geo bytes).features

-- The walk over locations.geojson gives sound features, if there are few, however its text is read.
abbrev pub WalkedFeaturesAreSound : Type 0
WalkedFeaturesAreSound =
    (scan : List ℕ → Scan)
    → ((text : List ℕ) (json : Json) → scan text ≡ scanned json
    → length (feature_nodes json) < 2 ^ 32)
    → GivesSoundFeatures (zones_of scan)

-- A folder without faults holds a sound feed.
abbrev pub AcceptedFeedsAreSound : Type 0
AcceptedFeedsAreSound =
    (geo : Geo) (folder : Folder) → GivesSoundFeatures geo → feed_faults geo folder ≡ []
    → IsSoundFeed (feed_of geo folder)

-- A times folder without faults holds times that are sound for the feed.
abbrev pub AcceptedTimesAreSound : Type 0
AcceptedTimesAreSound =
    (is_bad_zone : BadZones) (feed : Feed) (folder : Folder)
    → times_faults is_bad_zone feed folder ≡ [] → AreSoundTimes feed (times_of feed folder)

-- Beside a sound feed a query file without faults holds sound queries.
abbrev pub AcceptedQueriesAreSound : Type 0
AcceptedQueriesAreSound = (feed : Feed) (times : Times) (raw : RawFile) → IsSoundFeed feed
    → query_faults feed times raw ≡ [] → All (IsSoundQuery feed times) (queries_of feed times raw)
