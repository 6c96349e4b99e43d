-- The places that texts name are found by their ids.
use Rattle.std.proofs.Common.{◌≡◌, ℕ, Bool, true, false, cond, ◌&&◌, ◌||◌, List, [], map, length, get_or, slice_get, pos, None, Some, Option, refl, sym, ◌∙◌, ap}
use Rattle.std.specs.Prelude.{position, unwrap_or, if◌then◌else◌}
use Rattle.std.specs.List.{list_any, position_or_len}
use Rattle.std.specs.Option.{option_map_or}
use Rattle.std.specs.Str.{bytes_eq}
use Rattle.std.proofs.lemmas.Bool.{and_from, false_from_ne_true, false≢true, lt-ltb}
use Rattle.std.proofs.lemmas.List.Folds.{list_any_at}
use Rattle.std.proofs.lemmas.List.Quantifiers.{position-Some}
use Rattle.std.proofs.lemmas.Option.{none-some, slice_get-get_or}
use Rattle.flex_model.specs.declared.feed.Feed.{Feed}
use Rattle.flex_model.specs.declared.place.Place.TheVariants as place
use Rattle.flex_model.specs.declared.place.Point.{Point}
use Rattle.flex_model.specs.declared.place.Stop.{Stop}
use Rattle.feed_meaning.specs.FeedValue.{first_index}
use Rattle.feed_meaning.specs.Rules.{Values}
use Rattle.feed_meaning.specs.TimesFaults.{is_boarding_stop, is_place, is_stop}
use Rattle.feed_meaning.specs.TimesValue.{place_named, point_of}
use Rattle.feed_meaning.proofs.IdFacts.{list_any-map, position-map}
use Rattle.feed_meaning.proofs.NamedStops.{any_weaker}
use Rattle.feed_meaning.proofs.Places.{first_is_low}
use Rattle.feed_meaning.proofs.PlacesNamed.{boarding_stop}
use Rattle.std.proofs.lemmas.Bool.{and_parts}
use Rattle.place_times.specs.Places.{ArePlaceIds}
use Rattle.place_times.specs.declared.places.PlaceIds.{PlaceIds}

-- where there is no such place no item passes
none_passes : {X : Type 0} (p : X → Bool) (xs : List X) → position p xs ≡ None → list_any p xs ≡ false
none_passes p xs e =
    false_from_ne_true (list_any p xs) (λ h.
    none-some (position_or_len p xs) (sym e ∙ ap (λ b. cond b (Some (position_or_len p xs)) None) (lt-ltb (position_or_len p xs) (length xs) (first_is_low p xs h))))

some_passes : {X : Type 0} (p : X → Bool) (xs : List X) (s : ℕ) (d : X) → position p xs ≡ Some s → list_any p xs ≡ true
some_passes p xs s d e = let at = position-Some p xs s d e in list_any_at p xs s d at.0 at.1

no_stop : Stop
no_stop = record { id = []; at = record { lon = pos 0; lat = pos 0 }; boards = false }

-- there is a stop with this number where one can board
abbrev pub boards : Feed → ℕ → Bool
boards feed s = option_map_or (λ stop. stop.boards) (slice_get feed.stops s) false

module _ (feed : Feed) (points : List Point) (ids : PlaceIds) (are : ArePlaceIds feed points ids) (text : List ℕ) where
  abbrev is_it : Stop → Bool
  is_it stop = bytes_eq text stop.id

  pub stop_there : list_any (bytes_eq text) ids.stops ≡ is_stop feed text
  stop_there = ap (list_any (bytes_eq text)) are.stop_ids ∙ list_any-map (λ (stop : Stop). stop.id) (bytes_eq text) feed.stops

  pub point_there : list_any (bytes_eq text) ids.points ≡ list_any (λ point. bytes_eq text point.id) points
  point_there = ap (list_any (bytes_eq text)) are.point_ids ∙ list_any-map (λ (point : Point). point.id) (bytes_eq text) points

  module _ (s : ℕ) (found : Some s ≡ position (bytes_eq text) ids.stops) where
    at : position is_it feed.stops ≡ Some s
    at = sym (position-map (λ stop. stop.id) (bytes_eq text) feed.stops) ∙ ap (position (bytes_eq text)) (sym are.stop_ids) ∙ sym found

    stop-is : is_stop feed text ≡ true
    stop-is = some_passes is_it feed.stops s no_stop at

    -- one can board at the stop just where a stop with the id boards
    pub boards-same : is_boarding_stop feed text ≡ boards feed s
    boards-same = by (is_boarding_stop feed text) refl
      where
        there : boards feed s ≡ (get_or feed.stops s no_stop).boards
        there = ap (λ o. option_map_or (λ stop. stop.boards) o false) (slice_get-get_or feed.stops s no_stop (position-Some is_it feed.stops s no_stop at).0)

        by : (b : Bool) → is_boarding_stop feed text ≡ b → b ≡ boards feed s
        by true is =
            let has = (boarding_stop feed are.sound text is).1 in
            sym (ap (λ k. boards feed k) (sym (ap (λ o. unwrap_or o 0) at)) ∙ ap (λ o. option_map_or (λ stop. stop.boards) o false) has.1 ∙ has.2)
        by false is = sym (false_from_ne_true (boards feed s) (λ h.
            let passes = position-Some is_it feed.stops s no_stop at in
            false≢true (sym is ∙ list_any_at (λ stop. bytes_eq text stop.id && stop.boards) feed.stops s no_stop passes.0
            (and_from (bytes_eq text (get_or feed.stops s no_stop).id) (get_or feed.stops s no_stop).boards passes.1 (sym there ∙ h)))))

    pub found_stop : place.Stop s ≡ place_named feed points text
    found_stop =
        ap place.Stop (sym (ap (λ o. unwrap_or o 0) at))
        ∙ ap (λ b. if b then place.Stop (first_index is_it feed.stops) else place.Point (first_index (λ point. bytes_eq text point.id) points)) (sym stop-is)

  module _ (absent : None ≡ position (bytes_eq text) ids.stops) where
    stop-absent : is_stop feed text ≡ false
    stop-absent = none_passes is_it feed.stops (sym (position-map (λ stop. stop.id) (bytes_eq text) feed.stops) ∙ ap (position (bytes_eq text)) (sym are.stop_ids) ∙ sym absent)

    pub no_boarding : is_boarding_stop feed text ≡ false
    no_boarding = false_from_ne_true (is_boarding_stop feed text) (λ h.
        false≢true (sym stop-absent ∙ any_weaker (λ (s : Stop). bytes_eq text s.id && s.boards) is_it feed.stops (λ s e. (and_parts (bytes_eq text s.id) s.boards e).0) h))

    pub found_point : (o : Option ℕ) (k : ℕ) → o ≡ position (bytes_eq text) ids.points → k ≡ unwrap_or o 0 → place.Point k ≡ place_named feed points text
    found_point o k found is =
        ap place.Point (is ∙ ap (λ p. unwrap_or p 0) (found ∙ ap (position (bytes_eq text)) are.point_ids ∙ position-map (λ (point : Point). point.id) (bytes_eq text) points))
        ∙ ap (λ b. if b then place.Stop (first_index is_it feed.stops) else place.Point (first_index (λ point. bytes_eq text point.id) points)) (sym stop-absent)

-- ---- a text that is a place

module _ (feed : Feed) (points : List Values) (ids : PlaceIds) (are : ArePlaceIds feed (map point_of points) ids) (text : List ℕ) where
  point-values : list_any (bytes_eq text) ids.points ≡ list_any (λ p. bytes_eq text (p "point_id")) points
  point-values = point_there feed (map point_of points) ids are text ∙ list_any-map point_of (λ (point : Point). bytes_eq text point.id) points

  pub point_is_place : list_any (bytes_eq text) ids.points ≡ true → true ≡ is_place feed points text
  point_is_place h = ap (λ b. b || is_boarding_stop feed text) (sym h ∙ point-values)

  pub stop_is_place : (b : Bool) → list_any (bytes_eq text) ids.points ≡ false → b ≡ is_boarding_stop feed text → b ≡ is_place feed points text
  stop_is_place b h is = is ∙ ap (λ c. c || is_boarding_stop feed text) (sym h ∙ point-values)
