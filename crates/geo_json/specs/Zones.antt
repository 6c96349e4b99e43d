-- What reading the zones of a text gives.
use Rattle.std.specs.Prelude.{◌≡◌, List, map, Result, Ok, Err}
use Rattle.feed_meaning.specs.FeedFaults.{Feature, Zones}
use Rattle.feed_meaning.specs.Locations.{one_fault, repeated}
use Rattle.geo_json.specs.declared.refusal.GeoRefusal.{GeoRefusal}
use Rattle.geo_json.specs.declared.refusal.GeoRefusal.TheVariants.{Fault, NoMemory}
use Rattle.geo_json.specs.declared.record.ZoneRecord.{ZoneRecord}

abbrev pub feature_in : ZoneRecord → Feature
feature_in zone = record { row = zone.line; id = zone.id; polygons = zone.polygons }

-- The zones are the features that the text holds, with no other faults than ids which are given
-- again; a fault is the one that the text has.
abbrev pub AreZones : Zones → Result (List ZoneRecord) GeoRefusal → Type 0
AreZones zones (Ok records) =
    zones
    ≡ record { faults = repeated (map feature_in records); features = map feature_in records }
AreZones zones (Err (Fault code line)) = zones ≡ one_fault line code
AreZones zones (Err NoMemory) = Unit {0}
