-- The stops that a zone serves, and the zones of a feed.
use Rattle.std.proofs.Common.{◌≡◌, ℕ, ◌+◌, ◌<◌, ◌&&◌, ◌↔◌, List, [], ◌∷◌, ◌++◌, All, AllPairs, Contains, Option, None, Some, length, map, get_or, take, sym, ◌∙◌, ap, subst, arith}
use Rattle.std.specs.Borrow.{Bor}
use Rattle.std.proofs.Math.ListN as Raw
use Rattle.std.proofs.lemmas.Bool.{and_from, and_parts}
use Rattle.std.proofs.lemmas.List.{length-map, map-append, take_more}
use Rattle.flex_model.specs.SoundFeed.{IsSoundZone}
use Rattle.flex_model.specs.Zone.{is_in_zone}
use Rattle.flex_model.specs.declared.feed.Feed.{Feed}
use Rattle.flex_model.specs.declared.place.Polygon.{Polygon}
use Rattle.flex_model.specs.declared.place.Stop.{Stop}
use Rattle.flex_model.specs.declared.place.Zone.{Zone}
use Rattle.feed_meaning.specs.FeedValue.{indices_where, zone_of}
use Rattle.feed_meaning.proofs.Places.{places_are, places_rise}
use Rattle.geo_json.specs.Zones.{feature_in}
use Rattle.geo_json.specs.declared.record.ZoneRecord.{ZoneRecord}
use Rattle.zone_test.specs.Served.{IsServed}
use Rattle.feed_load.specs.FeedTables.{AreSoundZones, zone_features}
use Rattle.feed_load.proofs.RisingMembers.{rising_lists}

-- the stops that are served, rising, are those of the definition
pub served_places : (polygons : List Polygon) (stops : List Stop) (numbers : List ℕ) → AllPairs (λ a b. a < b) numbers → ((s : ℕ) → Contains numbers s ↔ IsServed polygons stops s)
    → numbers ≡ indices_where (λ stop. stop.boards && is_in_zone polygons stop.at) stops
served_places polygons stops numbers rise are =
    let test = λ (stop : Stop). stop.boards && is_in_zone polygons stop.at in
    rising_lists numbers (indices_where test stops) rise (places_rise test stops)
    (λ k c. (let served = (are k).0 c in (places_are test stops k).1 (served.0, served.1, and_from served.0.boards (is_in_zone polygons served.0.at) served.2 served.3)))
    (λ k c. (let place = (places_are test stops k).0 c in let both = and_parts place.0.boards (is_in_zone polygons place.0.at) place.2 in (are k).1 (place.0, place.1, both.0, both.1)))

-- a zone by its parts
made : List ℕ → List Polygon → List ℕ → Zone
made id polygons stops = record { id = id; polygons = polygons; stops = stops }

pub zone_is : (stops : List Stop) (zone : ZoneRecord) (id : List ℕ) (polygons : List Polygon) (served : List ℕ) → id ≡ zone.id → polygons ≡ zone.polygons
    → served ≡ indices_where (λ stop. stop.boards && is_in_zone zone.polygons stop.at) stops
    → record { id = id; polygons = polygons; stops = served } ≡ zone_of stops (feature_in zone)
unfolding made
zone_is stops zone id polygons served a b c =
    ap (λ x. made x polygons served) a ∙ ap (λ x. made zone.id x served) b ∙ ap (made zone.id zone.polygons) c

-- one zone more
pub zone_more : (stops : List Stop) (zones : List ZoneRecord) (at : ℕ) (zone : ZoneRecord) (before after : List Zone) (own : Zone) → at < length zones → zone ≡ get_or zones at zone
    → before ≡ map (zone_of stops) (map feature_in (take at zones)) → own ≡ zone_of stops (feature_in zone) → after ≡ before ++ own ∷ []
    → after ≡ map (zone_of stops) (map feature_in (take (at + 1) zones))
zone_more stops zones at zone before after own low is earlier here added =
    let list = map (zone_of stops) (map feature_in (take at zones)) in
    added ∙ ap (λ l. l ++ own ∷ []) earlier ∙ ap (λ z. list ++ z ∷ []) here
    ∙ sym (map-append (zone_of stops) (map feature_in (take at zones)) (feature_in zone ∷ []))
    ∙ ap (map (zone_of stops)) (sym (map-append feature_in (take at zones) (zone ∷ [])))
    ∙ ap (λ l. map (zone_of stops) (map feature_in l)) (sym (take_more zones at zone low ∙ ap (λ z. take at zones ++ z ∷ []) (sym is)))

-- the zones of a sound feed have sound polygons
pub sound_zones : (feed : Feed) (stops : List Stop) (o : Option (Bor (List ZoneRecord))) → All (IsSoundZone feed) (map (zone_of stops) (zone_features o)) → AreSoundZones o
sound_zones feed stops None all = tt
sound_zones feed stops (Some zones) all = λ k d low.
    let first = length-map zones.now feature_in in
    let second = length-map (map feature_in zones.now) (zone_of stops) in
    let sound = all k (zone_of stops (feature_in d)) (omega (arith, first, second, low)) in
    (subst (IsSoundZone feed) (Raw.get_or-map (zone_of stops) (map feature_in zones.now) k (feature_in d) ∙ ap (zone_of stops) (Raw.get_or-map feature_in zones.now k d)) sound).polygons
