-- The walk over locations.geojson gives sound features.
use Rattle.std.proofs.Common.{◌≡◌, ◌≢◌, ℕ, zero, suc, ◌^◌, ◌<◌, Bool, true, false, ◌&&◌, List, [], ◌∷◌, ◌++◌, All, Option, None, Some, map, take, length, get_or, nat_lt, refl, sym, ◌∙◌, ap, subst, arith}
use Rattle.std.specs.Prelude.{if◌then◌else◌, codes, unwrap_or}
use Rattle.std.specs.List.{cons_option, filter_map, flat_map, list_any}
use Rattle.std.specs.Option.{option_map_or}
use Rattle.std.specs.Str.{bytes_eq, is_utf8}
use Rattle.std.specs.Str.Lossy.{utf8_valid_len}
use Rattle.std.proofs.lemmas.Bool.{and_parts, false≢true, ltb-true}
use Rattle.std.proofs.lemmas.List.{append-nil, append_assoc, get_or-map, get_or-take, length-map, length-take-le}
use Rattle.std.proofs.lemmas.List.Elements.{All-cons, All-map, All-nil, filter_map-append}
use Rattle.std.proofs.lemmas.List.Folds.{list_any_at}
use Rattle.std.proofs.lemmas.Slice.Eq.{bytes_eq-Decides}
use Rattle.flex_model.specs.declared.fault.FaultCode.{FaultCode}
use Rattle.flex_model.specs.declared.fault.FaultCode.TheVariants.{DuplicateKey, GeoShape, NotUtf8}
use Rattle.flex_model.specs.declared.place.Ring.{Ring}
use Rattle.flex_model.specs.SoundFeed.{IsSoundPolygon}
use Rattle.flex_model.specs.SoundTimes.{AreIds, IsOnGlobe}
use Rattle.feed_meaning.specs.FeedFaults.{Feature, Zones}
use Rattle.feed_meaning.specs.Locations.{Check, Json, Scan, at_rows, check, check_member, checks, corners, depth_fault, feature_checks, feature_nodes, feature_of, geometry_checks, is_filled_array, latitude, longitude, member, one_fault, polygon_checks, polygon_of, polygons, position_of, repeated, row_at, scanned, syntax_fault, walked, without_mark, zones_of, zones_of_scan}
use Rattle.feed_meaning.specs.Soundness.{WalkedFeaturesAreSound}
use Rattle.feed_meaning.specs.Tables.{with_earlier_from}
use Rattle.feed_meaning.proofs.FieldBounds.{is_on_globe}
use Rattle.feed_meaning.proofs.Kept.{nil_from_map, nil_parts}
use Prim.Native.String.{String}

-- ---- checks that don't fail

-- none of the checks fails
record HaveNone (checks : List Check) : Type 0 where
  none : filter_map (λ c. c) checks ≡ []

first-kept : (c : Check) (others : List Check) → filter_map (λ c. c) (c ∷ others) ≡ [] → (c ≡ None) × HaveNone others
first-kept None others e = (refl, record { none = e })
first-kept (Some f) others e = cc

first-passes : (c : Check) (others : List Check) → HaveNone (c ∷ others) → (c ≡ None) × HaveNone others
first-passes c others e = first-kept c others e.none

parts-pass : {X : Type 0} (f : X → List Check) (xs : List X) → HaveNone (flat_map f xs) → All (λ x. HaveNone (f x)) xs
parts-pass f [] e = All-nil (λ x. HaveNone (f x))
parts-pass f (x ∷ xs) e =
    let both = nil_parts (filter_map (λ c. c) (f x)) (filter_map (λ c. c) (flat_map f xs)) (sym (filter_map-append (λ c. c) (f x) (flat_map f xs)) ∙ e.none) in
    All-cons (λ y. HaveNone (f y)) x xs (record { none = both.0 }) (parts-pass f xs (record { none = both.1 }))

holds : (b : Bool) (place : ℕ) (code : FaultCode) → check b place code ≡ None → b ≡ true
holds true place code e = refl
holds false place code e = cc

-- a member that passes is there
member-passes : (json : Json) (object : ℕ) (name : String) (test : ℕ → Bool) → check_member json object name test ≡ None → test (member json object name) ≡ true
member-passes json object name test e = by (json.member object (codes name)) e
  where
    by : (o : Option ℕ) → option_map_or (λ value. check (test value) (json.place value) GeoShape) o (Some (json.place object, GeoShape)) ≡ None → test (unwrap_or o object) ≡ true
    by None h = cc
    by (Some v) h = holds (test v) (json.place v) GeoShape h

-- ---- features

position-sound : (json : Json) (p : ℕ) → IsOnGlobe (position_of json p)
position-sound json p = is_on_globe (json.digits (longitude json p)) (json.digits (latitude json p))

rings-there : {X : Type 0} (f : ℕ → X) (items : List ℕ) → nat_lt 0 (length items) ≡ true → map f items ≢ []
rings-there f [] some e = false≢true some
rings-there f (x ∷ items) some e = cc

polygon-sound : (json : Json) (p : ℕ) → HaveNone (polygon_checks json p) → IsSoundPolygon (polygon_of json p)
polygon-sound json p none =
    let filled = holds (is_filled_array json p) (json.place p) GeoShape (first-passes (check (is_filled_array json p) (json.place p) GeoShape) _ none).0 in
    record {
      exterior = rings-there (λ ring. record { corners = corners json ring }) (json.items p) (and_parts (json.is_array p) (nat_lt 0 (length (json.items p))) filled).1;
      on_globe = All-map (λ (ring : Ring). All IsOnGlobe ring.corners) (λ ring. record { corners = corners json ring }) (json.items p)
          (λ i d low. All-map IsOnGlobe (position_of json) (json.items (get_or (json.items p) i d)) (λ j e h. position-sound json (get_or (json.items (get_or (json.items p) i d)) j e)));
    }

geometry-sound : (json : Json) (g : ℕ) → HaveNone (geometry_checks json g) → All (λ p. IsSoundPolygon (polygon_of json p)) (polygons json g)
geometry-sound json g none =
    let second = (first-passes _ _ none).1 in
    let third = (first-passes _ _ second).1 in
    let rest = (first-passes _ _ third).1 in
    λ i d low. polygon-sound json (get_or (polygons json g) i d) (parts-pass (polygon_checks json) (polygons json g) rest i d low)

-- what the checks of a feature say of it
record IsChecked (text : List ℕ) (json : Json) (f : ℕ) : Type 0 where
  id : (feature_of text json f).id ≢ []
  polygons : All IsSoundPolygon (feature_of text json f).polygons

feature-checked : (text : List ℕ) (json : Json) (f : ℕ) → HaveNone (feature_checks json f) → IsChecked text json f
feature-checked text json f none =
    let second = (first-passes _ _ none).1 in
    let third = (first-passes _ _ second).1 in
    let id = first-passes (check_member json f "id" (λ v. json.is_word v && nat_lt 0 (length (json.text v)))) _ third in
    let rest = (first-passes _ _ id.1).1 in
    let named = member-passes json f "id" (λ v. json.is_word v && nat_lt 0 (length (json.text v))) id.0 in
    let v = member json f "id" in
    let some : 0 < length (json.text v) = ltb-true 0 (length (json.text v)) (and_parts (json.is_word v) (nat_lt 0 (length (json.text v))) named).1 in
    record {
      id = λ e. let size = ap length e in omega (arith, some, size);
      polygons = All-map IsSoundPolygon (polygon_of json) (polygons json (member json f "geometry")) (geometry-sound json (member json f "geometry") rest);
    }

-- ---- ids

-- the fault of a feature beside those before it
abbrev duplicate : List Feature × Feature → Option (ℕ × FaultCode)
duplicate p = if list_any (λ e. bytes_eq p.1.id e.id) p.0 then Some (p.1.row, DuplicateKey) else None

none-repeats : (first features : List Feature)
    → filter_map duplicate (with_earlier_from first features) ≡ []
    → (i : ℕ) (d : Feature) → i < length features → list_any (λ e. bytes_eq (get_or features i d).id e.id) (first ++ take i features) ≡ false
unfolding with_earlier_from
none-repeats first [] e i d low = absurd (omega arith)
none-repeats first (f ∷ features) e zero d low =
    subst (λ xs. list_any (λ e. bytes_eq f.id e.id) xs ≡ false) (sym (append-nil first)) (here (list_any (λ e. bytes_eq f.id e.id) first) e)
  where
    rest : List (ℕ × FaultCode)
    rest = filter_map duplicate (with_earlier_from (first ++ f ∷ []) features)

    here : (b : Bool) → cons_option (if b then Some (f.row, DuplicateKey) else None) rest ≡ [] → b ≡ false
    here true h = cc
    here false h = refl
none-repeats first (f ∷ features) e (suc i) d low =
    subst (λ xs. list_any (λ e. bytes_eq (get_or features i d).id e.id) xs ≡ false) (append_assoc first (f ∷ []) (take i features))
    (none-repeats (first ++ f ∷ []) features (later (list_any (λ e. bytes_eq f.id e.id) first) e) i d (omega arith))
  where
    rest : List (ℕ × FaultCode)
    rest = filter_map duplicate (with_earlier_from (first ++ f ∷ []) features)

    later : (b : Bool) → cons_option (if b then Some (f.row, DuplicateKey) else None) rest ≡ [] → rest ≡ []
    later true h = cc
    later false h = h

ids-sound : (features : List Feature) → repeated features ≡ [] → All (λ (f : Feature). f.id ≢ []) features → AreIds (map (λ f. f.id) features)
ids-sound [] none given = record { distinct = λ i j d lt low. absurd (omega arith); given = All-nil (λ x. x ≢ []) }
ids-sound (f ∷ more) none given =
    let features = f ∷ more in
    let size = length-map features (λ (x : Feature). x.id) in
    record {
      distinct = λ i j d lt low e.
          let at_j : j < length features = omega (arith, low, size) in
          let at_i : i < length features = omega (arith, lt, at_j) in
          let there : get_or (take j features) i f ≡ get_or features i f = get_or-take j features i f lt in
          let same : (get_or features j f).id ≡ (get_or (take j features) i f).id =
          sym (get_or-map (λ (x : Feature). x.id) features j f d at_j) ∙ sym e ∙ get_or-map (λ (x : Feature). x.id) features i f d at_i ∙ ap (λ (x : Feature). x.id) (sym there) in
          false≢true (sym (none-repeats [] features none j f at_j)
          ∙ list_any_at (λ e. bytes_eq (get_or features j f).id e.id) (take j features) i f (omega (arith, length-take-le j features (omega (arith, at_j)), lt)) ((bytes_eq-Decides (get_or features j f).id (get_or (take j features) i f).id).1 same));
      given = All-map (λ x. x ≢ []) (λ (x : Feature). x.id) features given;
    }

-- ---- the walk

record AreSound (zones : Zones) : Type 0 where
  few : length zones.features < 2 ^ 32
  ids : AreIds (map (λ f. f.id) zones.features)
  polygons : All (λ f. All IsSoundPolygon f.polygons) zones.features

walk-sound : (text : List ℕ) (json : Json) → length (feature_nodes json) < 2 ^ 32 → (found : List (ℕ × FaultCode)) → at_rows text (checks json) ≡ found
    → (walked (map (feature_of text json) (feature_nodes json)) found).faults ≡ [] → AreSound (walked (map (feature_of text json) (feature_nodes json)) found)
walk-sound text json few (f ∷ more) is none = cc
walk-sound text json few [] is none =
    let nodes = feature_nodes json in
    let all : HaveNone (checks json) = record { none = nil_from_map (λ f. (row_at text f.0, f.1)) (filter_map (λ c. c) (checks json)) is } in
    let second = (first-passes _ _ all).1 in
    let third = (first-passes _ _ second).1 in
    let rest = (first-passes _ _ third).1 in
    let checked : All (IsChecked text json) nodes = λ i d low. feature-checked text json (get_or nodes i d) (parts-pass (feature_checks json) nodes rest i d low) in
    record {
      few = omega (arith, few, length-map nodes (feature_of text json));
      ids = ids-sound (map (feature_of text json) nodes) none (All-map (λ (f : Feature). f.id ≢ []) (feature_of text json) nodes (λ i d low. (checked i d low).id));
      polygons = All-map (λ (f : Feature). All IsSoundPolygon f.polygons) (feature_of text json) nodes (λ i d low. (checked i d low).polygons);
    }

scan-sound : (text : List ℕ) (scan : Scan) → ((json : Json) → scan ≡ scanned json → length (feature_nodes json) < 2 ^ 32) → (zones_of_scan text scan).faults ≡ [] → AreSound (zones_of_scan text scan)
scan-sound text (syntax_fault place) few none = cc
scan-sound text (depth_fault place) few none = cc
scan-sound text (scanned json) few none = walk-sound text json (few json refl) (at_rows text (checks json)) refl none

all-sound : (scan : List ℕ → Scan) → ((text : List ℕ) (json : Json) → scan text ≡ scanned json → length (feature_nodes json) < 2 ^ 32) → (bytes : List ℕ) → (zones_of scan bytes).faults ≡ [] → AreSound (zones_of scan bytes)
all-sound scan few bytes none = by (is_utf8 text) none
  where
    text : List ℕ
    text = without_mark bytes

    by : (b : Bool) → (if b then zones_of_scan text (scan text) else one_fault (row_at text (utf8_valid_len text)) NotUtf8).faults ≡ []
        → AreSound (if b then zones_of_scan text (scan text) else one_fault (row_at text (utf8_valid_len text)) NotUtf8)
    by true h = scan-sound text (scan text) (few text) h
    by false h = cc

pub walked_features : WalkedFeaturesAreSound
walked_features scan few = record {
  few = λ bytes none. (all-sound scan few bytes none).few;
  ids = λ bytes none. (all-sound scan few bytes none).ids;
  polygons = λ bytes none. (all-sound scan few bytes none).polygons;
}
