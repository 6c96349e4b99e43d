-- The checks of a feature and of its geometry, by what was read of them.
use Rattle.std.proofs.Common.{◌≡◌, ◌∙◌, ◌&&◌, ◌||◌, ℕ, List, [], ◌∷◌, ◌++◌, Bool, true, false, if◌then◌else◌, IfOk, None, Result, ap, length, map, nat_lt, refl, subst, sym}
use Rattle.std.specs.List.{flat_map}
use Rattle.feed_meaning.specs.Locations.{Check, Json, check, check_member, checks, feature_checks, feature_nodes, geometry_checks, is_filled_array, is_word, member, polygon_checks, polygons}
use Rattle.flex_model.specs.declared.fault.FaultCode.TheVariants.{GeoShape}
use Rattle.flex_model.specs.declared.place.Polygon.{Polygon}
use Rattle.geo_json.specs.Features.{own_checks, root_checks}
use Rattle.geo_json.specs.Forms.{form_in, parts}
use Rattle.geo_json.specs.Walks.{Refuses, TellsFirst, first_fault}
use Rattle.geo_json.specs.declared.form.Form.{Form}
use Rattle.geo_json.specs.declared.form.Form.TheVariants as Forms
use Rattle.geo_json.specs.declared.refusal.WalkRefusal.{WalkRefusal}
use Rattle.geo_json.specs.declared.refusal.WalkRefusal.TheVariants.{Fault}
use Rattle.geo_json.proofs.Firsts.{clear, clear_both, faulty, goes_on, refused, refuses_after, refuses_among, stops}

module _ (json : Json) (f : ℕ) where
  abbrev shape : List Check
  shape = check (json.is_object f) (json.place f) GeoShape ∷ []

  abbrev kind : List Check
  kind = check_member json f "type" (is_word json "Feature") ∷ []

  abbrev named : List Check
  named = check_member json f "id" (λ v. json.is_word v && nat_lt 0 (length (json.text v))) ∷ []

  abbrev located : List Check
  located = check_member json f "geometry" json.is_object ∷ []

  module _ (is : json.is_object f ≡ true) (feature : first_fault kind ≡ None) where
    pub bad_id : (refusal : WalkRefusal) → Refuses named refusal → Refuses (own_checks json f) refusal
    bad_id refusal refuses =
        refuses_after shape (kind ++ (named ++ located)) refusal (clear (json.is_object f) (json.place f) GeoShape is) (refuses_among kind named located refusal feature refuses)

    pub bad_place : (refusal : WalkRefusal) → first_fault named ≡ None → Refuses located refusal → Refuses (own_checks json f) refusal
    bad_place refusal id refuses =
        refuses_after shape (kind ++ (named ++ located)) refusal (clear (json.is_object f) (json.place f) GeoShape is)
        (refuses_after kind (named ++ located) refusal feature (refuses_after named located refusal id refuses))

    pub good_parts : first_fault named ≡ None → first_fault located ≡ None → first_fault (own_checks json f) ≡ None
    good_parts id place =
        clear_both shape (kind ++ (named ++ located)) (clear (json.is_object f) (json.place f) GeoShape is)
        (clear_both kind (named ++ located) feature (clear_both named located id place))

  pub bad_parts : (refusal : WalkRefusal) → Refuses (own_checks json f) refusal → Refuses (feature_checks json f) refusal
  bad_parts refusal refuses = stops (own_checks json f) (geometry_checks json (member json f "geometry")) refusal refuses

-- What coordinates are taken for is what they are.
parts_are : (json : Json) (g : ℕ) → parts (form_in json g) json (member json g "coordinates") ≡ polygons json g
parts_are json g = by (is_word json "Polygon" (member json g "type")) (member json g "coordinates")
  where
    by : (b : Bool) (m : ℕ) → parts (if b then Forms.Polygon else Forms.MultiPolygon) json m ≡ (if b then m ∷ [] else json.items m)
    by true m = refl
    by false m = refl

module _ (json : Json) (g : ℕ) where
  abbrev typed : List Check
  typed = check_member json g "type" (λ v. is_word json "Polygon" v || is_word json "MultiPolygon" v) ∷ []

  abbrev listed : List Check
  listed = check_member json g "coordinates" json.is_array ∷ []

  abbrev filled : List Check
  filled = check (is_filled_array json (member json g "coordinates")) (json.place (member json g "coordinates")) GeoShape ∷ []

  abbrev inner : List Check
  inner = flat_map (polygon_checks json) (polygons json g)

  pub bad_form : (refusal : WalkRefusal) → Refuses typed refusal → Refuses (geometry_checks json g) refusal
  bad_form refusal refuses = stops typed (listed ++ (filled ++ inner)) refusal refuses

  pub bad_coordinates : (refusal : WalkRefusal) → first_fault typed ≡ None → Refuses listed refusal → Refuses (geometry_checks json g) refusal
  bad_coordinates refusal form refuses = refuses_among typed listed (filled ++ inner) refusal form refuses

  module _ (form : first_fault typed ≡ None) (list : first_fault listed ≡ None) (coordinates : ℕ) (at : coordinates ≡ member json g "coordinates") where
    before : first_fault (typed ++ listed) ≡ None
    before = clear_both typed listed form list

    pub empty_coordinates : (refusal : WalkRefusal) → is_filled_array json coordinates ≡ false → refusal ≡ Fault GeoShape (json.place coordinates) → Refuses (geometry_checks json g) refusal
    empty_coordinates refusal empty e =
        refuses_after (typed ++ listed) (filled ++ inner) refusal before
        (refused (filled ++ inner) (json.place (member json g "coordinates")) GeoShape refusal (e ∙ ap (λ n. Fault GeoShape (json.place n)) at)
        (faulty (is_filled_array json (member json g "coordinates")) (json.place (member json g "coordinates")) GeoShape inner (ap (is_filled_array json) (sym at) ∙ empty)))

    same_parts : (told : Form) → told ≡ form_in json g → parts told json coordinates ≡ polygons json g
    same_parts told is = ap (λ n. parts told json n) at ∙ ap (λ z. parts z json (member json g "coordinates")) is ∙ parts_are json g

    pub good_coordinates : {T : Type 0} (told : Form) (result : Result T WalkRefusal) → told ≡ form_in json g → is_filled_array json coordinates ≡ true
        → TellsFirst (flat_map (polygon_checks json) (parts told json coordinates)) result → TellsFirst (geometry_checks json g) result
    good_coordinates told result is full tells =
        goes_on (typed ++ listed) (filled ++ inner) result before
        (goes_on filled inner result (clear (is_filled_array json (member json g "coordinates")) (json.place (member json g "coordinates")) GeoShape (ap (is_filled_array json) (sym at) ∙ full))
        (subst (λ z. TellsFirst (flat_map (polygon_checks json) z) result) (same_parts told is) tells))

    pub good_polygons : (told : Form) (f : ℕ → Polygon) (result : Result (List Polygon) WalkRefusal) → told ≡ form_in json g
        → IfOk result (λ value. value ≡ map f (parts told json coordinates)) → IfOk result (λ value. value ≡ map f (polygons json g))
    good_polygons told f result is value = subst (λ z. IfOk result (λ v. v ≡ map f z)) (same_parts told is) value

module _ (json : Json) (collection : ℕ) (at : collection ≡ json.root) (is : json.is_object collection ≡ true) where
  abbrev root_shape : List Check
  root_shape = check (json.is_object json.root) (json.place json.root) GeoShape ∷ []

  abbrev root_type : ℕ → List Check
  root_type node = check_member json node "type" (is_word json "FeatureCollection") ∷ []

  abbrev root_list : ℕ → List Check
  root_list node = check_member json node "features" json.is_array ∷ []

  root_is : first_fault root_shape ≡ None
  root_is = clear (json.is_object json.root) (json.place json.root) GeoShape (ap json.is_object (sym at) ∙ is)

  pub bad_kind : (refusal : WalkRefusal) → Refuses (root_type collection) refusal → Refuses (root_checks json) refusal
  bad_kind refusal refuses = refuses_among root_shape (root_type json.root) (root_list json.root) refusal root_is (subst (λ n. Refuses (root_type n) refusal) at refuses)

  pub good_kind : {T : Type 0} (result : Result T WalkRefusal) → first_fault (root_type collection) ≡ None → TellsFirst (root_list collection) result → TellsFirst (root_checks json) result
  good_kind result kind_is tells =
      goes_on root_shape (root_type json.root ++ root_list json.root) result root_is
      (goes_on (root_type json.root) (root_list json.root) result (ap (λ n. first_fault (root_type n)) (sym at) ∙ kind_is) (subst (λ n. TellsFirst (root_list n) result) at tells))

pub bad_collection : (json : Json) (refusal : WalkRefusal) → Refuses (root_checks json) refusal → Refuses (checks json) refusal
bad_collection json refusal refuses = stops (root_checks json) (flat_map (feature_checks json) (feature_nodes json)) refusal refuses
