use Rattle.std.proofs.Common.{◌≡◌, ◌++◌, ℕ}
use Rattle.feed_meaning.specs.Locations.{Json, polygon_checks, polygon_of}
use Rattle.geo_json.specs.Scans.{IsJsonOf}
use Rattle.geo_json.specs.Steps.{AreRead}
use Rattle.geo_json.specs.There.{AreThere}
use Rattle.geo_json.proofs.polygons.read_several.Given as goal

abbrev pub invariant-loop-polygon : goal.invariant-loop-polygon
invariant-loop-polygon l = record {
  there : (least : ℕ) × AreThere l.json least l.polygon-iterator;
  items : (j : Json) → IsJsonOf l.json j → j.items l.array ≡ l.yielded ++ l.polygon-iterator;
  read : (j : Json) → IsJsonOf l.json j → AreRead (polygon_checks j) (polygon_of j) l.yielded l.polygons;
}
