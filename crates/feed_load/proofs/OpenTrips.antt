-- Trips that are being gathered, after one more record of a table.
use Rattle.std.proofs.Common.{◌≡◌, ℕ, ◌<◌, Bool, true, false, cond, List, [], ◌∷◌, ◌++◌, Some, None, map, length, get_or, refl, sym, ◌∙◌, ap, arith}
use Rattle.std.specs.Prelude.{filter, position}
use Rattle.std.specs.Str.{bytes_eq}
use Rattle.std.proofs.Math.ListN.{set}
use Rattle.std.proofs.lemmas.Bool.{false≢true}
use Rattle.std.proofs.lemmas.List.{append-nil, append_assoc, get_or-map, length-map, map-append}
use Rattle.std.proofs.lemmas.List.Elements.{filter-append}
use Rattle.feed_meaning.specs.Rules.{Values}
use Rattle.feed_meaning.specs.Tables.{values_of}
use Rattle.feed_tables.specs.Records.{RowFields}
use Rattle.feed_load.specs.OpenTrips.{AreTripIds, of_trip, with_drafts, with_repeats}
use Rattle.feed_load.specs.TableValues.{values_under}
use Rattle.feed_load.specs.declared.open_trips.OpenTrip.{OpenTrip}
use Rattle.feed_load.proofs.Texts.{values_more}
use Rattle.feed_load.proofs.Grouping.{equal, found_is, found_low, ids_differ, not_equal, not_found, one_changed, unchanged}

-- as many ids as trips
pub size : (ids : List (List ℕ)) (trips : List OpenTrip) → AreTripIds ids trips → length ids ≡ length trips
size ids trips of = ap length of.are ∙ length-map trips (λ (trip : OpenTrip). trip.id)

-- Of each record a piece goes to the end of the trip that it names.
pub record IsAdded {A : Type 0} (add : List A → OpenTrip → OpenTrip) : Type 0 where
  pub none : (trip : OpenTrip) → add [] trip ≡ trip
  pub last : (pieces : List A) (a : A) (trip : OpenTrip) → add (pieces ++ a ∷ []) trip ≡ add (a ∷ []) (add pieces trip)

pub drafts_added : IsAdded with_drafts
drafts_added = record {
  none = λ trip. ap (λ xs. record trip { drafts = xs }) (append-nil trip.drafts);
  last = λ pieces a trip. ap (λ xs. record trip { drafts = xs }) (sym (append_assoc trip.drafts pieces (a ∷ [])));
}

pub repeats_added : IsAdded with_repeats
repeats_added = record {
  none = λ trip. ap (λ xs. record trip { repeats = xs }) (append-nil trip.repeats);
  last = λ pieces a trip. ap (λ xs. record trip { repeats = xs }) (sym (append_assoc trip.repeats pieces (a ∷ [])));
}

module _ {A : Type 0} (piece : Values → A) (add : List A → OpenTrip → OpenTrip) (is_added : IsAdded add) where
  -- a trip with the pieces of its records of those that were seen
  abbrev pub gathered : List Values → OpenTrip → OpenTrip
  gathered seen trip = add (map piece (of_trip trip seen)) trip

  pub nothing_yet : (trips : List OpenTrip) → trips ≡ map (gathered []) trips
  nothing_yet [] = refl
  nothing_yet (trip ∷ trips) = ap (λ x. x ∷ trips) (sym (is_added.none trip)) ∙ ap (λ xs. add [] trip ∷ xs) (nothing_yet trips)

  -- the trip that a record names has its piece, and each other trip is as it was
  trip-more : (seen : List Values) (s : Values) (trip : OpenTrip) (same : Bool) → bytes_eq trip.id (s "trip_id") ≡ same
      → gathered (seen ++ s ∷ []) trip ≡ cond same (add (piece s ∷ []) (gathered seen trip)) (gathered seen trip)
  trip-more seen s trip same is =
      let test : Values → Bool = λ x. bytes_eq trip.id (x "trip_id") in
      ap (λ pieces. add pieces trip) (ap (map piece) (filter-append test seen (s ∷ [])) ∙ map-append piece (filter test seen) (cond (test s) (s ∷ []) []))
      ∙ ap (λ b. add (map piece (filter test seen) ++ map piece (cond b (s ∷ []) [])) trip) is ∙ by same
    where
      by : (b : Bool) → add (map piece (of_trip trip seen) ++ map piece (cond b (s ∷ []) [])) trip ≡ cond b (add (piece s ∷ []) (gathered seen trip)) (gathered seen trip)
      by true = is_added.last (map piece (of_trip trip seen)) (piece s) trip
      by false = ap (λ pieces. add pieces trip) (append-nil (map piece (of_trip trip seen)))

  module _ (trips : List OpenTrip) (ids : List (List ℕ)) (of : AreTripIds ids trips) where
    -- the id of the trip at a index
    id-at : (i : ℕ) (d : OpenTrip) → i < length trips → get_or ids i [] ≡ (get_or trips i d).id
    id-at i d low = ap (λ xs. get_or xs i []) of.are ∙ get_or-map (λ (trip : OpenTrip). trip.id) trips i d [] low

    -- the trips after a record of the trip at a index
    trips-more : (seen : List Values) (s : Values) (k : ℕ) (d : OpenTrip) → position (bytes_eq (s "trip_id")) ids ≡ Some k
        → map (gathered (seen ++ s ∷ [])) trips ≡ set (map (gathered seen) trips) k (add (piece s ∷ []) (get_or (map (gathered seen) trips) k d))
    trips-more seen s k d e =
        let low_k = found_low ids (s "trip_id") k e in
        let many = size ids trips of in
        let low : k < length trips = omega (arith, many, low_k) in
        one_changed (gathered seen) (gathered (seen ++ s ∷ [])) (add (piece s ∷ [])) trips k d d low
        (trip-more seen s (get_or trips k d) true (equal (get_or trips k d).id (s "trip_id") (sym (id-at k d low) ∙ found_is ids (s "trip_id") k [] e)))
        (λ i f low_i ne. trip-more seen s (get_or trips i f) false (not_equal (get_or trips i f).id (s "trip_id") (λ h.
        ids_differ ids of.distinct i k [] (omega (arith, many, low_i)) low_k ne (id-at i f low_i ∙ h ∙ sym (found_is ids (s "trip_id") k [] e)))))

    -- and after a record of none of them
    trips-stay : (seen : List Values) (s : Values) → position (bytes_eq (s "trip_id")) ids ≡ None
        → map (gathered (seen ++ s ∷ [])) trips ≡ map (gathered seen) trips
    trips-stay seen s e =
        let many = size ids trips of in
        unchanged (gathered seen) (gathered (seen ++ s ∷ [])) trips
        (λ i d low. trip-more seen s (get_or trips i d) false (not_equal (get_or trips i d).id (s "trip_id") (λ h.
        false≢true (sym (not_found ids (s "trip_id") i [] e (omega (arith, many, low))) ∙ equal (s "trip_id") (get_or ids i []) (sym (id-at i d low ∙ h))))))

    -- ---- a pass over the records

    module _ (header : List (List ℕ)) (seen : List RowFields) (row : RowFields) (items : List OpenTrip)
        (earlier : items ≡ map (gathered (values_under header seen)) trips) (id : List ℕ) (id_is : id ≡ values_of header row.fields "trip_id") where
      -- one more record is of the trip at a index
      pub piece_added : (k : ℕ) (a : A) (old new : OpenTrip) → position (bytes_eq id) ids ≡ Some k → a ≡ piece (values_of header row.fields)
          → old ≡ get_or items k old → new ≡ add (a ∷ []) old → set items k new ≡ map (gathered (values_under header (seen ++ row ∷ []))) trips
      piece_added k a old new found piece_is was becomes =
          let s = values_of header row.fields in
          ap (set items k) (becomes ∙ ap (add (a ∷ [])) was ∙ ap (λ x. add (x ∷ []) (get_or items k old)) piece_is)
          ∙ ap (λ xs. set xs k (add (piece s ∷ []) (get_or xs k old))) earlier
          ∙ sym (trips-more (values_under header seen) s k old (ap (λ t. position (bytes_eq t) ids) (sym id_is) ∙ found))
          ∙ ap (λ vs. map (gathered vs) trips) (sym (values_more header seen row))

      -- or of none of them
      pub piece_passed : position (bytes_eq id) ids ≡ None → items ≡ map (gathered (values_under header (seen ++ row ∷ []))) trips
      piece_passed found =
          earlier ∙ sym (trips-stay (values_under header seen) (values_of header row.fields) (ap (λ t. position (bytes_eq t) ids) (sym id_is) ∙ found))
          ∙ ap (λ vs. map (gathered vs) trips) (sym (values_more header seen row))
