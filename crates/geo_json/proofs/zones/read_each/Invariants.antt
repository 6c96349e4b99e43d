use Rattle.std.proofs.Common.{◌≡◌, ◌++◌, ◌<◌, ◌≤◌, ◌^◌, ℕ, length, map}
use Rattle.feed_meaning.specs.Locations.{Json, feature_checks, feature_of}
use Rattle.geo_json.specs.Scans.{IsJsonOf}
use Rattle.geo_json.specs.Steps.{AreRead}
use Rattle.geo_json.specs.There.{AreThere}
use Rattle.geo_json.specs.Zones.{feature_in}
use Rattle.geo_json.proofs.zones.read_each.Given as goal

abbrev pub invariant-loop-feature : goal.invariant-loop-feature
invariant-loop-feature l = record {
  there : (least : ℕ) × AreThere l.json least l.feature-iterator × (length l.zones < least) × (least ≤ 2 ^ 32);
  text : l.lines ≡ l.text;
  items : (j : Json) → IsJsonOf l.json j → j.items l.array ≡ l.yielded ++ l.feature-iterator;
  read : (j : Json) → IsJsonOf l.json j → AreRead (feature_checks j) (feature_of l.text j) l.yielded (map feature_in l.zones);
}
