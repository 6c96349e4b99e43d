-- The checks of a feature and of a collection of features.
use Rattle.std.specs.Prelude.{◌&&◌, ℕ, List, [], ◌∷◌, Some, length, map, nat_lt}
use Rattle.feed_meaning.specs.FeedFaults.{Feature}
use Rattle.feed_meaning.specs.Locations.{Check, Json, Scan, check, check_member, checks, depth_fault, feature_nodes, feature_of, is_word, scanned, syntax_fault}
use Rattle.flex_model.specs.declared.fault.FaultCode.TheVariants.{GeoShape, JsonDepth, JsonSyntax}

-- those before the checks of a feature's geometry
abbrev pub own_checks : Json → ℕ → List Check
own_checks json f =
    check (json.is_object f) (json.place f) GeoShape
    ∷ check_member json f "type" (is_word json "Feature")
    ∷ check_member json f "id" (λ v. json.is_word v && nat_lt 0 (length (json.text v)))
    ∷ check_member json f "geometry" json.is_object
    ∷ []

-- those before the checks of the features
abbrev pub root_checks : Json → List Check
root_checks json =
    check (json.is_object json.root) (json.place json.root) GeoShape
    ∷ check_member json json.root "type" (is_word json "FeatureCollection")
    ∷ check_member json json.root "features" json.is_array
    ∷ []

-- The fault of a scan is found before every other.
abbrev pub scan_checks : Scan → List Check
scan_checks (syntax_fault at) = Some (at, JsonSyntax) ∷ []
scan_checks (depth_fault at) = Some (at, JsonDepth) ∷ []
scan_checks (scanned json) = checks json

abbrev pub scan_features : List ℕ → Scan → List Feature
scan_features text (syntax_fault at) = []
scan_features text (depth_fault at) = []
scan_features text (scanned json) = map (feature_of text json) (feature_nodes json)
