-- The tables and zones that were read of a folder without faults.
use Rattle.std.proofs.Common.{◌≡◌, ℕ, true, List, [], Option, None, Some, map, refl, sym, ◌∙◌, ap}
use Rattle.std.specs.Borrow.{Bor}
use Rattle.std.specs.Option.{option_map}
use Rattle.flex_model.specs.declared.fault.InputFile.{InputFile}
use Rattle.flex_model.specs.declared.fault.InputFile.TheVariants.{Locations}
use Rattle.feed_meaning.specs.FeedFaults.{feed_faults, feed_level_one, feed_level_two, features, tables}
use Rattle.feed_meaning.specs.Locations.{Scan, zones_of}
use Rattle.feed_meaning.specs.Folder.{Folder, entries}
use Rattle.feed_meaning.proofs.KeptFeeds.{lists_are_empty}
use Rattle.feed_rules.specs.Folders.{ReadsFolder, found_of, found_zones, is_feed_table, table_of}
use Rattle.feed_rules.specs.Levels.{level_one, needs}
use Rattle.feed_rules.specs.Zones.{ScansFolder, TellsZones, held, zone_values, zones_in}
use Rattle.feed_rules.specs.declared.zones.FoundZones.{FoundZones}
use Rattle.feed_rules.specs.declared.zones.FoundZones.TheVariants as FoundAs
use Rattle.geo_json.specs.Laws.{FeaturesAreFew}
use Rattle.geo_json.specs.Zones.{feature_in}
use Rattle.geo_json.specs.declared.record.ZoneRecord.{ZoneRecord}
use Rattle.feed_rules.specs.Links.{records_in}
use Rattle.feed_rules.specs.declared.folder.RawFeed.{RawFeed}
use Rattle.feed_rules.proofs.KeptTables.{features_are, linked, linked_zones, needed, some_zones}
use Rattle.feed_rules.proofs.LevelFacts.{level_one-exact}
use Rattle.feed_rules.proofs.SoundZones.{tells_zones}
use Rattle.feed_load.specs.FeedTables.{zone_features}
use Rattle.feed_load.specs.TableValues.{values_in}
use Rattle.feed_load.proofs.PresentTables.{records_are}

-- the zones that were read are the features
held_features : (found : FoundZones) (o : Option (Bor (List ZoneRecord))) → option_map (λ z. z.now) o ≡ zones_in found → (held found).features ≡ zone_features o
held_features FoundAs.Absent None e = refl
held_features FoundAs.Absent (Some zones) e = cc
held_features FoundAs.TooLarge None e = refl
held_features FoundAs.TooLarge (Some zones) e = cc
held_features (FoundAs.Refused code row) None e = refl
held_features (FoundAs.Refused code row) (Some zones) e = cc
held_features (FoundAs.Read read) None e = cc
held_features (FoundAs.Read read) (Some zones) e = ap (map feature_in) (sym (some_zones zones.now read e))

module _ (few : FeaturesAreFew) (scan : List ℕ → Scan) (raw : RawFeed) (folder : Folder) (reads : ReadsFolder raw folder) (scans : ScansFolder scan folder)
    (none : feed_faults (zones_of scan) folder ≡ []) where
  tells : TellsZones (zones_of scan) (folder Locations) (found_zones raw)
  tells = tells_zones few scan raw folder reads scans

  alone : level_one raw ≡ []
  alone = level_one-exact (zones_of scan) raw folder reads tells ∙ (lists_are_empty (feed_level_one (zones_of scan) folder) (feed_level_two (zones_of scan) folder) none).0

  -- a table that may be missing has the records of its file
  pub optional_is : (file : InputFile) → is_feed_table file ≡ true → (o : Option (Bor (List (List (List ℕ))))) → option_map (λ t. t.now) o ≡ table_of (found_of raw file)
      → map (λ e. e.values) (entries folder file) ≡ records_in o
  optional_is = linked raw folder reads alone

  -- so has a table that is there
  pub table_is : (file : InputFile) → is_feed_table file ≡ true → (t : Bor (List (List (List ℕ)))) → Some t.now ≡ table_of (found_of raw file)
      → map (λ e. e.values) (entries folder file) ≡ values_in t.now
  table_is file e t is = linked raw folder reads alone file e (Some t) is ∙ records_are t.now

  -- a needed table isn't missing
  pub is_there : (file : InputFile) → is_feed_table file ≡ true → needs raw file ≡ true → (o : Option (Bor (List (List (List ℕ))))) → option_map (λ t. t.now) o ≡ table_of (found_of raw file)
      → o ≡ None → ⊥
  is_there = needed raw folder reads alone

  -- the zones have the records of their file
  pub zones_are : (o : Option (Bor (List ZoneRecord))) → option_map (λ z. z.now) o ≡ zones_in (found_zones raw) → tables (zones_of scan) folder Locations ≡ zone_values o
  zones_are o is = linked_zones (zones_of scan) raw folder reads tells o is

  -- and are its features
  pub features_are_zones : (o : Option (Bor (List ZoneRecord))) → option_map (λ z. z.now) o ≡ zones_in (found_zones raw) → features (zones_of scan) folder ≡ zone_features o
  features_are_zones o is = features_are (zones_of scan) (folder Locations) raw.zones reads.zones tells ∙ held_features raw.zones o is
