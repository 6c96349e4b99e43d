use Rattle.std.proofs.Common.{◌≡◌, ◌++◌, ℕ}
use Rattle.feed_meaning.specs.Locations.{Json, ring_checks}
use Rattle.geo_json.specs.Scans.{IsJsonOf}
use Rattle.geo_json.specs.Steps.{AreRead, ring_of}
use Rattle.geo_json.specs.There.{AreThere}
use Rattle.geo_json.proofs.polygons.read_rings.Given as goal

abbrev pub invariant-loop-ring : goal.invariant-loop-ring
invariant-loop-ring l = record {
  there : (least : ℕ) × AreThere l.json least l.ring-iterator;
  items : (j : Json) → IsJsonOf l.json j → j.items l.polygon ≡ l.yielded ++ l.ring-iterator;
  read : (j : Json) → IsJsonOf l.json j → AreRead (ring_checks j) (ring_of j) l.yielded l.rings;
}
