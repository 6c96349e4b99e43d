-- What locations.geojson was found to be, and the zones that it has.
use Rattle.std.specs.Prelude.{◌≡◌, ◌≢◌, ℕ, Bool, true, false, List, [], ◌∷◌, All, map, Option, None, Some}
use Rattle.std.specs.Borrow.{Bor}
use Rattle.std.specs.Str.{is_utf8}
use Rattle.flex_model.specs.declared.fault.RawFile.{RawFile}
use Rattle.flex_model.specs.declared.fault.RawFile.TheVariants as raw_file
use Rattle.flex_model.specs.declared.fault.FaultCode.{FaultCode}
use Rattle.flex_model.specs.declared.fault.FaultCode.TheVariants.{FileTooLarge}
use Rattle.flex_model.specs.declared.fault.Fault.{Fault}
use Rattle.flex_model.specs.declared.fault.InputFile.TheVariants.{Locations}
use Rattle.feed_meaning.specs.FeedFaults.{Geo, Zones, feature_entry}
use Rattle.feed_meaning.specs.Folder.{Folder}
use Rattle.feed_meaning.specs.Locations.{Scan, one_fault, walked, without_mark, zones_of}
use Rattle.feed_meaning.specs.Rules.{Values}
use Rattle.feed_meaning.specs.Tables.{Entry, fault}
use Rattle.feed_tables.specs.Refusals.{is_given}
use Rattle.geo_json.specs.Scans.{IsScanOf}
use Rattle.geo_json.specs.Zones.{feature_in}
use Rattle.geo_json.specs.declared.record.ZoneRecord.{ZoneRecord}
use Rattle.feed_rules.specs.declared.zones.FoundZones.{FoundZones}
use Rattle.feed_rules.specs.declared.zones.FoundZones.TheVariants.{Absent, TooLarge, Refused, Read}

-- Texts are scanned in a way that agrees with the grammar of JSON at this text. Of bytes that aren't UTF-8 nothing is asked.
pub record Scans (scan : List ℕ → Scan) (text : List ℕ) : Type 0 where
  pub agrees : is_utf8 text ≡ true → IsScanOf text (scan text)

-- the bytes of the file hold this, in whichever way that agrees with JSON their text is scanned
pub record Hold (bytes : List ℕ) (zones : Zones) : Type 0 where
  pub by_each_scan : (scan : List ℕ → Scan) → Scans scan (without_mark bytes)
      → zones_of scan bytes ≡ zones

-- The bytes are refused for one fault.
abbrev pub AreRefused : List ℕ → ℕ → FaultCode → Type 0
AreRefused bytes row code = Hold bytes (one_fault row code)

-- The walk over the text finds no fault, and the zones are its features, each and all of them in order. Features whose
-- id is given again are among them.
abbrev pub HoldZones : List ℕ → List ZoneRecord → Type 0
HoldZones bytes zones = Hold bytes (walked (map feature_in zones) [])

-- the file was found to be this
abbrev pub AreFoundZones : RawFile → FoundZones → Type 0
AreFoundZones raw Absent = raw ≡ raw_file.Absent
AreFoundZones raw TooLarge = raw ≡ raw_file.TooLarge
AreFoundZones raw (Refused code row) =
    (bytes : List ℕ) × (raw ≡ raw_file.Bytes bytes) × AreRefused bytes row code
AreFoundZones raw (Read zones) =
    (bytes : List ℕ) × (raw ≡ raw_file.Bytes bytes) × HoldZones bytes zones

-- the zones that were read
abbrev pub zones_in : FoundZones → Option (List ZoneRecord)
zones_in (Read zones) = Some zones
zones_in found = None

-- The zones of the file: none where it is absent, over its limit or refused, and otherwise its features.
abbrev pub AreZonesOf : RawFile → Option (List ZoneRecord) → Type 0
AreZonesOf raw_file.Absent zones = zones ≡ None
AreZonesOf raw_file.TooLarge zones = zones ≡ None
AreZonesOf (raw_file.Bytes bytes) None = (row : ℕ) × (code : FaultCode) × AreRefused bytes row code
AreZonesOf (raw_file.Bytes bytes) (Some zones) = HoldZones bytes zones

-- the file was found, and doesn't count as absent
abbrev pub are_found : FoundZones → Bool
are_found Absent = false
are_found found = true

-- what the bytes that were found hold
abbrev pub held : FoundZones → Zones
held (Refused code row) = one_fault row code
held (Read zones) = walked (map feature_in zones) []
held found = record { faults = []; features = [] }

-- the faults of the file by itself, which every feed can do without
abbrev pub zone_faults : FoundZones → List Fault
zone_faults TooLarge = fault Locations 0 FileTooLarge ∷ []
zone_faults found = map (λ f. fault Locations f.0 f.1) (held found).faults

-- a zone as a record with its id in the one column
abbrev pub zone_entry : ZoneRecord → Entry
zone_entry zone = feature_entry (feature_in zone)

-- the zones as records, none where there is no such file
abbrev pub zone_values : Option (Bor (List ZoneRecord)) → List Values
zone_values None = []
zone_values (Some zones) = map (λ e. e.values) (map zone_entry zones.now)

-- each zone has an id
abbrev pub HaveZoneIds : List ZoneRecord → Type 0
HaveZoneIds zones = All (λ zone. is_given zone.id ≡ true) zones

-- the bytes of the file are read as they were found to be
pub record TellsZones (geo : Geo) (raw : RawFile) (found : FoundZones) : Type 0 where
  pub told : (bytes : List ℕ) → raw ≡ raw_file.Bytes bytes → geo bytes ≡ held found
  pub given : (held found).faults ≡ [] → All (λ f. f.id ≢ []) (held found).features

-- Texts are scanned in a way that agrees with the grammar of JSON at the text of locations.geojson, where there is one.
pub record ScansFolder (scan : List ℕ → Scan) (folder : Folder) : Type 0 where
  pub scans : (bytes : List ℕ) → folder Locations ≡ raw_file.Bytes bytes
      → Scans scan (without_mark bytes)
