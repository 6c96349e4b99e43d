-- What the bytes of locations.geojson hold, a GeoJSON text (RFC 7946, RFC 8259): the first fault of
-- the walk over its value, or its features. A ring has four or more positions and is closed.
use Rattle.std.specs.Prelude.{ℕ, ◌+◌, nat_eq, nat_lt, nat_le, Bool, true, not, ◌&&◌, ◌||◌, if◌then◌else◌, pos, List, [], ◌∷◌, ◌++◌, count_by, drop, get_or, length, map, take, Option, Some, None, is_none, unwrap_or, codes}
use Rattle.std.specs.List.{filter_map, flat_map, list_any, starts_with}
use Rattle.std.specs.Option.{option_map_or}
use Rattle.std.specs.Ordering.{int_eq}
use Rattle.std.specs.Str.{bytes_eq, is_utf8}
use Rattle.std.specs.Str.Lossy.{utf8_valid_len}
use Rattle.flex_model.specs.declared.fault.FaultCode.{FaultCode}
use Rattle.flex_model.specs.declared.fault.FaultCode.TheVariants.{BadCoordinate, DuplicateKey, GeoShape, JsonDepth, JsonSyntax, NotUtf8, RingOpen, RingShort}
use Rattle.flex_model.specs.declared.place.Polygon.{Polygon}
use Rattle.flex_model.specs.declared.place.Position.{Position}
use Rattle.feed_meaning.specs.FeedFaults.{Feature, Zones}
use Rattle.field_text.specs.Grammars.{degree}
use Rattle.feed_meaning.specs.Tables.{with_earlier}
use Prim.Native.String.{String}

-- A JSON value by its nodes. A node has a place in the text, and what its kind has: a member is the
-- first one of that name, and only an object has one; only a list has items.
pub record Json : Type 0 where
  pub root : ℕ
  pub place : ℕ → ℕ
  pub is_object : ℕ → Bool
  pub is_array : ℕ → Bool
  pub is_word : ℕ → Bool
  pub is_number : ℕ → Bool
  pub member : ℕ → List ℕ → Option ℕ
  pub items : ℕ → List ℕ
  pub text : ℕ → List ℕ
  pub digits : ℕ → List ℕ

-- what a scan of a text gives
pub data Scan : Type 0 where
  syntax_fault : ℕ → Scan
  depth_fault : ℕ → Scan
  scanned : Json → Scan

-- a check at a place: its fault, where it fails
abbrev pub Check : Type 0
Check = Option (ℕ × FaultCode)

abbrev pub check : Bool → ℕ → FaultCode → Check
check holds place code = if holds then None else Some (place, code)

-- the member's value passes; where there is none the object itself is at fault
abbrev pub check_member : Json → ℕ → String → (ℕ → Bool) → Check
check_member json object name test =
    option_map_or (λ value. check (test value) (json.place value) GeoShape)
    (json.member object (codes name)) (Some (json.place object, GeoShape))

abbrev pub is_word : Json → String → ℕ → Bool
is_word json word node = json.is_word node && bytes_eq (json.text node) (codes word)

-- the member's value, or the node itself, where an earlier check has failed
abbrev pub member : Json → ℕ → String → ℕ
member json node name = unwrap_or (json.member node (codes name)) node

abbrev pub is_filled_array : Json → ℕ → Bool
is_filled_array json node = json.is_array node && nat_lt 0 (length (json.items node))

-- the first two items of a position
abbrev pub longitude : Json → ℕ → ℕ
longitude json position = get_or (json.items position) 0 position

abbrev pub latitude : Json → ℕ → ℕ
latitude json position = get_or (json.items position) 1 position

abbrev pub is_degree : Json → ℕ → ℕ → Bool
is_degree json greatest node = not (is_none (degree greatest (json.digits node)))

abbrev pub position_checks : Json → ℕ → List Check
position_checks json p =
    check
    (json.is_array p && nat_le 2 (length (json.items p)) && json.is_number (longitude json p)
    && json.is_number (latitude json p))
    (json.place p) GeoShape
    ∷ check (is_degree json 180 (longitude json p)) (json.place (longitude json p)) BadCoordinate
    ∷ check (is_degree json 90 (latitude json p)) (json.place (latitude json p)) BadCoordinate
    ∷ []

abbrev pub position_of : Json → ℕ → Position
position_of json p = record {
  lon = unwrap_or (degree 180 (json.digits (longitude json p))) (pos 0);
  lat = unwrap_or (degree 90 (json.digits (latitude json p))) (pos 0);
}

abbrev pub corners : Json → ℕ → List Position
corners json ring = map (position_of json) (json.items ring)

abbrev pub is_same_position : Position → Position → Bool
is_same_position a b = int_eq a.lon b.lon && int_eq a.lat b.lat

-- the last position is the first one again
abbrev pub closes : List Position → Bool
closes [] = true
closes (first ∷ others) = is_same_position first (get_or (first ∷ others) (length others) first)

abbrev pub ring_checks : Json → ℕ → List Check
ring_checks json ring =
    check (json.is_array ring) (json.place ring) GeoShape
    ∷ flat_map (position_checks json) (json.items ring)
    ++ check (nat_le 4 (length (json.items ring))) (json.place ring) RingShort
    ∷ check (closes (corners json ring)) (json.place ring) RingOpen
    ∷ []

abbrev pub polygon_checks : Json → ℕ → List Check
polygon_checks json polygon =
    check (is_filled_array json polygon) (json.place polygon) GeoShape
    ∷ flat_map (ring_checks json) (json.items polygon)

-- the polygons of a geometry, by its type
abbrev pub polygons : Json → ℕ → List ℕ
polygons json geometry =
    if is_word json "Polygon" (member json geometry "type")
    then member json geometry "coordinates" ∷ []
    else json.items (member json geometry "coordinates")

abbrev pub geometry_checks : Json → ℕ → List Check
geometry_checks json g =
    check_member json g "type" (λ v. is_word json "Polygon" v || is_word json "MultiPolygon" v)
    ∷ check_member json g "coordinates" json.is_array
    ∷ check (is_filled_array json (member json g "coordinates"))
    (json.place (member json g "coordinates")) GeoShape
    ∷ flat_map (polygon_checks json) (polygons json g)

abbrev pub feature_checks : Json → ℕ → List Check
feature_checks json f =
    check (json.is_object f) (json.place f) GeoShape
    ∷ check_member json f "type" (is_word json "Feature")
    ∷ check_member json f "id" (λ v. json.is_word v && nat_lt 0 (length (json.text v)))
    ∷ check_member json f "geometry" json.is_object
    ∷ geometry_checks json (member json f "geometry")

abbrev pub feature_nodes : Json → List ℕ
feature_nodes json = json.items (member json json.root "features")

-- every check of the walk in its order; only the first that fails counts
abbrev pub checks : Json → List Check
checks json =
    check (json.is_object json.root) (json.place json.root) GeoShape
    ∷ check_member json json.root "type" (is_word json "FeatureCollection")
    ∷ check_member json json.root "features" json.is_array
    ∷ flat_map (feature_checks json) (feature_nodes json)

-- the row of an offset: 1 and the line feeds before it
abbrev pub row_at : List ℕ → ℕ → ℕ
row_at text offset = 1 + count_by (nat_eq 10) (take offset text)

abbrev pub polygon_of : Json → ℕ → Polygon
polygon_of json polygon = record {
  rings = map (λ ring. record { corners = corners json ring }) (json.items polygon);
}

abbrev pub feature_of : List ℕ → Json → ℕ → Feature
feature_of text json f = record {
  row = row_at text (json.place f);
  id = json.text (member json f "id");
  polygons = map (polygon_of json) (polygons json (member json f "geometry"));
}

-- features with an id that an earlier one has
abbrev pub repeated : List Feature → List (ℕ × FaultCode)
repeated features =
    filter_map
    (λ p. if list_any (λ e. bytes_eq p.1.id e.id) p.0 then Some (p.1.row, DuplicateKey) else None)
    (with_earlier features)

abbrev pub walked : List Feature → List (ℕ × FaultCode) → Zones
walked features [] = record { faults = repeated features; features = features }
walked features (first ∷ others) = record { faults = first ∷ []; features = [] }

-- the faults at rows
abbrev pub at_rows : List ℕ → List Check → List (ℕ × FaultCode)
at_rows text found = map (λ f. (row_at text f.0, f.1)) (filter_map (λ c. c) found)

abbrev pub one_fault : ℕ → FaultCode → Zones
one_fault row code = record { faults = (row, code) ∷ []; features = [] }

abbrev pub zones_of_scan : List ℕ → Scan → Zones
zones_of_scan text (syntax_fault place) = one_fault (row_at text place) JsonSyntax
zones_of_scan text (depth_fault place) = one_fault (row_at text place) JsonDepth
zones_of_scan text (scanned json) =
    walked (map (feature_of text json) (feature_nodes json)) (at_rows text (checks json))

-- a text without one byte order mark at its start
abbrev pub without_mark : List ℕ → List ℕ
without_mark bytes =
    if starts_with nat_eq bytes (0xEF ∷ 0xBB ∷ 0xBF ∷ []) then drop 3 bytes else bytes

abbrev pub zones_of_text : (List ℕ → Scan) → List ℕ → Zones
zones_of_text scan text =
    if is_utf8 text then zones_of_scan text (scan text)
    else one_fault (row_at text (utf8_valid_len text)) NotUtf8

-- what the bytes of the file hold, by how its text is scanned
abbrev pub zones_of : (List ℕ → Scan) → List ℕ → Zones
zones_of scan bytes = zones_of_text scan (without_mark bytes)
