-- Which stops a zone serves: those that can be boarded and lie in it. A stop can be boarded where its location_type is 0 or
-- empty (GTFS Schedule reference, stops.txt).
use Rattle.std.specs.Prelude.{◌≡◌, ℕ, IsTrue, Some, List, slice_get}
use Rattle.flex_model.specs.declared.place.Polygon.{Polygon}
use Rattle.flex_model.specs.declared.place.Stop.{Stop}
use Rattle.flex_model.specs.Zone.{is_in_zone}

-- the stop of this number can be boarded and lies in the zone of these polygons
abbrev pub IsServed : List Polygon → List Stop → ℕ → Type 0
IsServed polygons stops s =
    (stop : Stop) × (slice_get stops s ≡ Some stop) × IsTrue stop.boards
    × IsTrue (is_in_zone polygons stop.at)
