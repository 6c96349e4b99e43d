-- Laws of scans.
use Rattle.std.specs.Prelude.{ℕ, ◌^◌, ◌<◌, List, length}
use Rattle.feed_meaning.specs.Locations.{Json, Scan, feature_nodes}
use Rattle.geo_json.specs.Scans.{IsJsonOf, IsScanOf}

-- Each text has a scan.
abbrev pub TextsHaveScans : Type 0
TextsHaveScans = (bytes : List ℕ) → (scan : Scan) × IsScanOf bytes scan

-- A text that isn't long has few features.
abbrev pub FeaturesAreFew : Type 0
FeaturesAreFew = (bytes : List ℕ) (json : Json)
    → IsJsonOf bytes json → length bytes < 2 ^ 32 → length (feature_nodes json) < 2 ^ 32
