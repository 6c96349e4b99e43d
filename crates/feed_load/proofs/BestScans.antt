-- A way to scan the text of locations.geojson that agrees with the grammar of JSON, by which accepted zones are sound.
use Rattle.std.proofs.Common.{◌≡◌, ℕ, ◌≤◌, List, [], length, ap, subst, arith}
use Rattle.flex_model.specs.SoundFeed.{IsSoundFeed}
use Rattle.flex_model.specs.declared.fault.InputFile.TheVariants.{Locations}
use Rattle.flex_model.specs.declared.fault.RawFile.{RawFile}
use Rattle.flex_model.specs.declared.fault.RawFile.TheVariants.{Absent, TooLarge, Bytes}
use Rattle.feed_meaning.specs.FeedFaults.{feed_faults}
use Rattle.feed_meaning.specs.FeedValue.{feed_of}
use Rattle.feed_meaning.specs.Folder.{Folder, bytes_of}
use Rattle.feed_meaning.specs.Locations.{Scan, without_mark, zones_of}
use Rattle.feed_meaning.specs.Soundness.{GivesSoundFeatures}
use Rattle.feed_meaning.specs.Told.{IsWithin}
use Rattle.feed_meaning.proofs.SoundFeeds.{accepted_feeds}
use Rattle.geo_json.specs.Laws.{FeaturesAreFew, TextsHaveScans}
use Rattle.feed_rules.specs.Zones.{Scans, ScansFolder}
use Rattle.feed_rules.proofs.SoundZones.{cut, cut_scans, sound_cut, unmarked_within}

-- the scan that each text has
each_scan : TextsHaveScans → List ℕ → Scan
each_scan law text = (law text).0

each_agrees : (law : TextsHaveScans) (text : List ℕ) → Scans (each_scan law) text
unfolding each_scan
each_agrees law text = record { agrees = λ e. (law text).1 }

abbrev text_in : Folder → List ℕ
text_in folder = without_mark (bytes_of (folder Locations))

-- that of the file alone
pub best : TextsHaveScans → Folder → List ℕ → Scan
best law folder = cut (each_scan law) (text_in folder)

pub best_scans : (law : TextsHaveScans) (folder : Folder) → ScansFolder (best law folder) folder
unfolding best
best_scans law folder = record {
  scans = λ bytes e. subst (Scans (cut (each_scan law) (text_in folder))) (ap (λ raw. without_mark (bytes_of raw)) e)
      (cut_scans (each_scan law) (text_in folder) (each_agrees law (text_in folder)));
}

few_bytes : (raw : RawFile) → IsWithin 4294967295 raw → length (bytes_of raw) ≤ 4294967295
few_bytes Absent within = omega arith
few_bytes TooLarge within = omega arith
few_bytes (Bytes bytes) within = within

best_gives : FeaturesAreFew → (law : TextsHaveScans) (folder : Folder) → IsWithin 4294967295 (folder Locations) → GivesSoundFeatures (zones_of (best law folder))
unfolding best
best_gives few law folder within =
    sound_cut (each_scan law) (text_in folder) few (each_agrees law (text_in folder))
    (let le = unmarked_within (bytes_of (folder Locations)) in let short = few_bytes (folder Locations) within in omega (arith, le, short))

-- an accepted folder has a sound feed
pub sound : FeaturesAreFew → (law : TextsHaveScans) (folder : Folder) → IsWithin 4294967295 (folder Locations) → feed_faults (zones_of (best law folder)) folder ≡ []
    → IsSoundFeed (feed_of (zones_of (best law folder)) folder)
sound few law folder within none = accepted_feeds (zones_of (best law folder)) folder (best_gives few law folder within) none
