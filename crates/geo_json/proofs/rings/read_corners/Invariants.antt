use Rattle.std.proofs.Common.{◌≡◌, ◌++◌, ℕ}
use Rattle.feed_meaning.specs.Locations.{Json, position_checks, position_of}
use Rattle.geo_json.specs.Scans.{IsJsonOf}
use Rattle.geo_json.specs.Steps.{AreRead}
use Rattle.geo_json.specs.There.{AreThere}
use Rattle.geo_json.proofs.rings.read_corners.Given as goal

abbrev pub invariant-loop-position : goal.invariant-loop-position
invariant-loop-position l = record {
  there : (least : ℕ) × AreThere l.json least l.position-iterator;
  items : (j : Json) → IsJsonOf l.json j → j.items l.ring ≡ l.yielded ++ l.position-iterator;
  read : (j : Json) → IsJsonOf l.json j → AreRead (position_checks j) (position_of j) l.yielded l.corners;
}
