-- The forms of a geometry (RFC 7946).
use Rattle.std.specs.Prelude.{ℕ, if◌then◌else◌, List, [], ◌∷◌}
use Rattle.feed_meaning.specs.Locations.{Json, is_word, member}
use Rattle.geo_json.specs.declared.form.Form.{Form}
use Rattle.geo_json.specs.declared.form.Form.TheVariants.{Polygon, MultiPolygon}

-- the form that a geometry's type tells
abbrev pub form_in : Json → ℕ → Form
form_in json geometry =
    if is_word json "Polygon" (member json geometry "type") then Polygon else MultiPolygon

-- the polygons of coordinates
abbrev pub parts : Form → Json → ℕ → List ℕ
parts Polygon json coordinates = coordinates ∷ []
parts MultiPolygon json coordinates = json.items coordinates
