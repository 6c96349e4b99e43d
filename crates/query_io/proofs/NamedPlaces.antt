-- The place that a text names is found by its id.
use Rattle.std.proofs.Common.{◌≡◌, ℕ, Bool, true, false, not, cond, ◌&&◌, ◌||◌, List, [], ◌∷◌, map, length, get_or, slice_get, pos, None, Some, refl, sym, ◌∙◌, ap}
use Rattle.std.specs.Prelude.{position, unwrap_or, if◌then◌else◌}
use Rattle.std.specs.List.{list_any, position_or_len}
use Rattle.std.specs.Option.{option_map_or}
use Rattle.std.specs.Str.{bytes_eq}
use Rattle.std.proofs.lemmas.Bool.{and_from, false_from_ne_true, false≢true, lt-ltb}
use Rattle.std.proofs.lemmas.List.Folds.{list_any_at}
use Rattle.std.proofs.lemmas.List.Quantifiers.{position-Some}
use Rattle.std.proofs.lemmas.Option.{none-some, slice_get-get_or}
use Rattle.flex_model.specs.declared.fault.FaultCode.TheVariants as code
use Rattle.flex_model.specs.declared.feed.Feed.{Feed}
use Rattle.flex_model.specs.declared.place.Place.TheVariants as place
use Rattle.flex_model.specs.declared.place.Stop.{Stop}
use Rattle.flex_model.specs.declared.times.Times.{Times}
use Rattle.flex_model.specs.SoundFeed.{IsSoundFeed}
use Rattle.feed_meaning.specs.FeedValue.{first_index}
use Rattle.feed_meaning.specs.QueryFaults.{is_point, place_rule}
use Rattle.feed_meaning.specs.Rules.{Rule, first_of, is_empty, rule}
use Rattle.feed_meaning.specs.TimesFaults.{is_boarding_stop, is_stop}
use Rattle.feed_meaning.specs.TimesValue.{place_named}
use Rattle.feed_meaning.proofs.IdFacts.{position-map}
use Rattle.feed_meaning.proofs.Places.{first_is_low}
use Rattle.feed_meaning.proofs.PlacesNamed.{boarding_stop}

-- ---- the place of an item that passes

-- where there is no such place no item passes
none_passes : {X : Type 0} (p : X → Bool) (xs : List X) → position p xs ≡ None → list_any p xs ≡ false
none_passes p xs e =
    false_from_ne_true (list_any p xs) (λ h.
    none-some (position_or_len p xs) (sym e ∙ ap (λ b. cond b (Some (position_or_len p xs)) None) (lt-ltb (position_or_len p xs) (length xs) (first_is_low p xs h))))

some_passes : {X : Type 0} (p : X → Bool) (xs : List X) (s : ℕ) (d : X) → position p xs ≡ Some s → list_any p xs ≡ true
some_passes p xs s d e = let at = position-Some p xs s d e in list_any_at p xs s d at.0 at.1

-- ---- the rules of a place

-- by whether the text is empty, a stop's id, a point's, and the id of a stop where one can board
abbrev place_rule_by : Bool → Bool → Bool → Bool → Rule
place_rule_by empty stop point boards = first_of (rule code.EmptyField empty ∷ rule code.UnknownId (not (stop || point)) ∷ rule code.BadStopKind (stop && not boards) ∷ [])

rules-same : (e e' s s' p p' b b' : Bool) → e ≡ e' → s ≡ s' → p ≡ p' → b ≡ b' → place_rule_by e s p b ≡ place_rule_by e' s' p' b'
rules-same e e' s s' p p' b b' he hs hp hb =
    ap (λ x. place_rule_by x s p b) he ∙ ap (λ x. place_rule_by e' x p b) hs ∙ ap (λ x. place_rule_by e' s' x b) hp ∙ ap (λ x. place_rule_by e' s' p' x) hb

pub empty_place : (feed : Feed) (times : Times) (text : List ℕ) → is_empty text ≡ true → place_rule feed times text ≡ Some code.EmptyField
empty_place feed times text empty =
    let s = is_stop feed text in
    let p = is_point times text in
    let b = is_boarding_stop feed text in
    rules-same (is_empty text) true s s p p b b empty refl refl refl

no_stop : Stop
no_stop = record { id = []; at = record { lon = pos 0; lat = pos 0 }; boards = false }

module _ (feed : Feed) (times : Times) (sound : IsSoundFeed feed) (text : List ℕ) (given : is_empty text ≡ false) where
  abbrev is_it : Stop → Bool
  is_it stop = bytes_eq text stop.id

  abbrev boards : ℕ → Bool
  boards s = option_map_or (λ stop. stop.boards) (slice_get feed.stops s) false

  module _ (s : ℕ) (found : position (bytes_eq text) (map (λ stop. stop.id) feed.stops) ≡ Some s) where
    at : position is_it feed.stops ≡ Some s
    at = sym (position-map (λ stop. stop.id) (bytes_eq text) feed.stops) ∙ found

    stop-is : is_stop feed text ≡ true
    stop-is = some_passes is_it feed.stops s no_stop at

    -- one can board at the stop just where a stop with the id boards
    boards-same : is_boarding_stop feed text ≡ boards s
    boards-same = by (is_boarding_stop feed text) refl
      where
        there : boards s ≡ (get_or feed.stops s no_stop).boards
        there = ap (λ o. option_map_or (λ stop. stop.boards) o false) (slice_get-get_or feed.stops s no_stop (position-Some is_it feed.stops s no_stop at).0)

        by : (b : Bool) → is_boarding_stop feed text ≡ b → b ≡ boards s
        by true is =
            let has = (boarding_stop feed sound text is).1 in
            sym (ap (λ k. boards k) (sym (ap (λ o. unwrap_or o 0) at)) ∙ ap (λ o. option_map_or (λ stop. stop.boards) o false) has.1 ∙ has.2)
        by false is = sym (false_from_ne_true (boards s) (λ h.
            let passes = position-Some is_it feed.stops s no_stop at in
            false≢true (sym is ∙ list_any_at (λ stop. bytes_eq text stop.id && stop.boards) feed.stops s no_stop passes.0
            (and_from (bytes_eq text (get_or feed.stops s no_stop).id) (get_or feed.stops s no_stop).boards passes.1 (sym there ∙ h)))))

    pub barred_stop : boards s ≡ false → place_rule feed times text ≡ Some code.BadStopKind
    barred_stop barred =
        let p = is_point times text in
        rules-same (is_empty text) false (is_stop feed text) true p p (is_boarding_stop feed text) false given stop-is refl (boards-same ∙ barred)

    pub found_stop : boards s ≡ true → (place_rule feed times text ≡ None) × (place.Stop s ≡ place_named feed times.points text)
    found_stop boarded =
        let p = is_point times text in (
          rules-same (is_empty text) false (is_stop feed text) true p p (is_boarding_stop feed text) true given stop-is refl (boards-same ∙ boarded),
          ap place.Stop (sym (ap (λ o. unwrap_or o 0) at))
              ∙ ap (λ b. if b then place.Stop (first_index is_it feed.stops) else place.Point (first_index (λ point. bytes_eq text point.id) times.points)) (sym stop-is),
        )

  module _ (absent : position (bytes_eq text) (map (λ stop. stop.id) feed.stops) ≡ None) where
    stop-absent : is_stop feed text ≡ false
    stop-absent = none_passes is_it feed.stops (sym (position-map (λ stop. stop.id) (bytes_eq text) feed.stops) ∙ absent)

    pub found_point : (k : ℕ) → position (bytes_eq text) (map (λ point. point.id) times.points) ≡ Some k
        → (place_rule feed times text ≡ None) × (place.Point k ≡ place_named feed times.points text)
    found_point k found =
        let b = is_boarding_stop feed text in
        let at = sym (position-map (λ point. point.id) (bytes_eq text) times.points) ∙ found in
        let is : is_point times text ≡ true = some_passes (λ point. bytes_eq text point.id) times.points k (record { id = []; at = record { lon = pos 0; lat = pos 0 } }) at in (
          rules-same (is_empty text) false (is_stop feed text) false (is_point times text) true b b given stop-absent is refl,
          ap place.Point (sym (ap (λ o. unwrap_or o 0) at))
              ∙ ap (λ c. if c then place.Stop (first_index is_it feed.stops) else place.Point (first_index (λ point. bytes_eq text point.id) times.points)) (sym stop-absent),
        )

    pub no_place : position (bytes_eq text) (map (λ point. point.id) times.points) ≡ None → place_rule feed times text ≡ Some code.UnknownId
    no_place absent' =
        let b = is_boarding_stop feed text in
        let none : is_point times text ≡ false = none_passes (λ point. bytes_eq text point.id) times.points (sym (position-map (λ point. point.id) (bytes_eq text) times.points) ∙ absent') in
        rules-same (is_empty text) false (is_stop feed text) false (is_point times text) false b b given stop-absent none refl
