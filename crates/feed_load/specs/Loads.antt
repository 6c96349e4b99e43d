-- What loading a feed folder gives.
use Rattle.std.specs.Prelude.{◌≡◌, ◌≢◌, ℕ, List, []}
use Rattle.flex_model.specs.SoundFeed.{IsSoundFeed}
use Rattle.feed_meaning.specs.FeedFaults.{Geo, feed_faults}
use Rattle.feed_meaning.specs.FeedValue.{feed_of}
use Rattle.feed_meaning.specs.Folder.{Folder}
use Rattle.feed_meaning.specs.Locations.{Scan, zones_of}
use Rattle.feed_rules.specs.Zones.{ScansFolder}
use Rattle.feed_load.specs.declared.folder.Loaded.{Loaded}
use Rattle.feed_load.specs.declared.folder.Loaded.TheVariants.{Clean, Faulty}

-- the feed of an accepted folder, or the fault list of another, by how locations.geojson is read
abbrev pub IsLoadedBy : Geo → Folder → Loaded → Type 0
IsLoadedBy geo folder (Clean feed) = (feed_faults geo folder ≡ []) × (feed ≡ feed_of geo folder)
IsLoadedBy geo folder (Faulty faults) = (faults ≢ []) × (faults ≡ feed_faults geo folder)

-- in whichever way that agrees with the grammar of JSON its text is scanned
abbrev pub IsLoaded : Folder → Loaded → Type 0
IsLoaded folder loaded = (scan : List ℕ → Scan) → ScansFolder scan folder
    → IsLoadedBy (zones_of scan) folder loaded

-- told or not, a feed is sound
abbrev pub IsSoundLoad : Loaded → Type 0
IsSoundLoad (Clean feed) = IsSoundFeed feed
IsSoundLoad loaded = Unit {0}
