-- A times folder without faults holds times that are sound for the feed.
use Rattle.std.proofs.Common.{◌≡◌, ◌≢◌, ℕ, ◌<◌, ◌≤◌, Bool, true, false, not, ◌&&◌, List, [], ◌∷◌, All, AllPairs, Option, None, Some, map, take, length, get_or, refl, sym, ◌∙◌, ap, subst, arith, lit<, inl, inr}
use Rattle.std.specs.Prelude.{if◌then◌else◌, is_none}
use Rattle.std.specs.List.{flat_map, list_any}
use Rattle.std.specs.Str.{bytes_eq}
use Rattle.std.proofs.lemmas.Bool.{and_parts, false≢true, not-false, or_cases, or_left, or_right}
use Rattle.std.proofs.lemmas.List.{get_or-take, length-map, length-take-le}
use Rattle.std.proofs.lemmas.List.Concat.{flat_map-append}
use Rattle.std.proofs.lemmas.List.Elements.{All-map}
use Rattle.std.proofs.lemmas.List.Folds.{list_any_at}
use Rattle.std.proofs.lemmas.Simd.{map-map}
use Rattle.std.proofs.lemmas.Slice.Eq.{bytes_eq-Decides}
use Rattle.flex_model.specs.declared.fault.Fault.{Fault}
use Rattle.flex_model.specs.declared.fault.FaultCode.TheVariants as code
use Rattle.flex_model.specs.declared.fault.InputFile.{InputFile}
use Rattle.flex_model.specs.declared.fault.InputFile.TheVariants.{ZoneText, ZoneTzif, Points, Direct, Walks}
use Rattle.flex_model.specs.declared.feed.Feed.{Feed}
use Rattle.flex_model.specs.declared.place.Point.{Point}
use Rattle.flex_model.specs.declared.place.Stop.{Stop}
use Rattle.flex_model.specs.declared.times.Span.{Span}
use Rattle.flex_model.specs.declared.times.Times.{Times}
use Rattle.flex_model.specs.SoundTimes.{AreIds, AreSoundSpans, AreSoundTimes, IsInRange, IsOnGlobe}
use Rattle.field_text.specs.Grammars.{count, id, number}
use Rattle.feed_meaning.specs.FeedValue.{rising}
use Rattle.feed_meaning.specs.Folder.{Folder, entries, file_faults, is_present}
use Rattle.feed_meaning.specs.QueryFaults.{is_point}
use Rattle.feed_meaning.specs.Rules.{Values, are_same_pairs, both, is_empty, is_no, repeats_id, repeats_ids, stand}
use Rattle.feed_meaning.specs.Soundness.{AcceptedTimesAreSound}
use Rattle.feed_meaning.specs.Tables.{Entry}
use Rattle.feed_meaning.specs.TimesFaults.{BadZones, direct_schema, is_boarding_stop, is_place, is_stop, point_links, point_rules, points_schema, span_links, span_rules, times_contents, times_faults, times_level_one, times_level_two, times_link_faults, times_links, walks_schema}
use Rattle.feed_meaning.specs.TimesValue.{point_of, span_before, span_of, times_of, values}
use Rattle.feed_meaning.proofs.FieldBounds.{count_is, is_on_globe}
use Rattle.feed_meaning.proofs.IdFacts.{list_any-map}
use Rattle.feed_meaning.proofs.Kept.{AreKept, IsKeptTable, ObeysRules, file_keeps, is_kept, links_kept, nil_parts, parts_are_nil}
use Rattle.feed_meaning.proofs.KeptFeeds.{lists_are_empty}
use Rattle.feed_meaning.proofs.NamedLists.{IdsAreKept, filled_is_given, kept_ids}
use Rattle.feed_meaning.proofs.NamedStops.{any_weaker}
use Rattle.feed_meaning.proofs.Places.{AllPairs-map}
use Rattle.feed_meaning.proofs.PlacesNamed.{IsKnownPlace, one_place, place_in_range, span_before_is, span_irreflexive, span_transitive, spans_in_order}
use Rattle.feed_meaning.proofs.RisingItems.{IsOrdered, rising_all, rising_rises}
use Rattle.feed_meaning.proofs.SoundChanges.{same_ids}

point_ids : (rs : List Values) → ObeysRules point_rules rs → IdsAreKept "point_id" rs
point_ids rs kept = record {
  given = λ i d low. is_kept code.EmptyField (is_empty (get_or rs i d "point_id")) (kept.at i d low 0 None (lit< tt));
  fresh = λ i d low. is_kept code.DuplicateKey (repeats_id "point_id" (take i rs) (get_or rs i d)) (kept.at i d low 1 None (lit< tt));
}

-- the seconds of a span
counted : (most : ℕ) (text : List ℕ) (o : Option ℕ) → count most text ≡ o → is_none o ≡ false → number text ≤ most
counted most text None is kept = cc
counted most text (Some n) is kept = let c = count_is most text n is in let low = c.0 in let e = c.1 in omega (arith, low, e)

pub count_low : (most : ℕ) (text : List ℕ) → is_no (count most) text ≡ false → number text ≤ most
count_low most text kept = counted most text (count most text) refl kept

-- ---- spans

module _ (feed : Feed) (times : Times) (points : List Values) (same : times.points ≡ map point_of points) (most : ℕ) (rs : List Values)
    (alone : ObeysRules (span_rules most) rs) (linked : All (λ r. AreKept (span_links feed points r)) rs) where
  known-place : (text : List ℕ) → is_place feed points text ≡ true → IsKnownPlace feed times text
  known-place text h = elim (or_cases (list_any (λ p. bytes_eq text (p "point_id")) points) (is_boarding_stop feed text) h) [
    | inl point ↦ or_right (is_stop feed text) (is_point times text)
        (ap (list_any (λ p. bytes_eq text p.id)) same ∙ list_any-map point_of (λ (p : Point). bytes_eq text p.id) points ∙ point)
    | inr stop ↦ or_left (is_stop feed text) (is_point times text)
        (any_weaker (λ (s : Stop). bytes_eq text s.id && s.boards) (λ (s : Stop). bytes_eq text s.id) feed.stops (λ s e. (and_parts (bytes_eq text s.id) s.boards e).0) stop)
  ]

  from-known : (i : ℕ) (d : Values) → i < length rs → IsKnownPlace feed times (get_or rs i d "from_id")
  from-known i d low = known-place (get_or rs i d "from_id") (not-false (is_place feed points (get_or rs i d "from_id"))
      (is_kept code.UnknownId (not (is_place feed points (get_or rs i d "from_id"))) (linked i d low 0 None (lit< tt))))

  to-known : (i : ℕ) (d : Values) → i < length rs → IsKnownPlace feed times (get_or rs i d "to_id")
  to-known i d low = known-place (get_or rs i d "to_id") (not-false (is_place feed points (get_or rs i d "to_id"))
      (is_kept code.UnknownId (not (is_place feed points (get_or rs i d "to_id"))) (linked i d low 1 None (lit< tt))))

  -- two records don't join the same places
  differ : (i j : ℕ) (d : Values) → i < j → j < length rs → get_or rs j d "from_id" ≡ get_or rs i d "from_id" → get_or rs j d "to_id" ≡ get_or rs i d "to_id" → ⊥
  differ i j d lt low e f =
      let r = get_or rs j d in
      let kept = alone.at j d low in
      let test : Values → Bool = λ x. stand (are_same_pairs bytes_eq bytes_eq) (both (id (r "from_id")) (id (r "to_id"))) (both (id (x "from_id")) (id (x "to_id"))) in
      let from_given = filled_is_given (r "from_id") (is_kept code.EmptyField (is_empty (r "from_id")) (kept 0 None (lit< tt))) in
      let to_given = filled_is_given (r "to_id") (is_kept code.EmptyField (is_empty (r "to_id")) (kept 1 None (lit< tt))) in
      let fresh : list_any test (take j rs) ≡ false = is_kept code.DuplicateKey (repeats_ids "from_id" "to_id" (take j rs) r) (kept 3 None (lit< tt)) in
      let there : get_or (take j rs) i d ≡ get_or rs i d = get_or-take j rs i d lt in
      false≢true (sym fresh ∙ list_any_at test (take j rs) i d (omega (arith, length-take-le j rs (omega (arith, low))))
      (ap test there ∙ same_ids (r "from_id") (r "to_id") (get_or rs i d "from_id") (get_or rs i d "to_id") from_given to_given e f))

  abbrev found : List Span
  found = map (span_of feed times.points) rs

  in-order : AllPairs (IsOrdered span_before span_irreflexive span_transitive) found
  in-order = AllPairs-map (IsOrdered span_before span_irreflexive span_transitive) (span_of feed times.points) rs (λ i j d lt low.
      let a = get_or rs i d in
      let b = get_or rs j d in
      spans_in_order (span_of feed times.points a) (span_of feed times.points b) (λ e f.
      differ i j d lt low
      (one_place feed times (b "from_id") (a "from_id") (from-known j d low) (from-known i d (omega (arith, lt, low))) (sym e))
      (one_place feed times (b "to_id") (a "to_id") (to-known j d low) (to-known i d (omega (arith, lt, low))) (sym f))))

  pub spans_sound : AreSoundSpans feed times (rising span_before (map (span_of feed times.points) rs)) most
  spans_sound = record {
    from = rising_all span_before (λ (s : Span). IsInRange feed times s.from) found
        (All-map (λ (s : Span). IsInRange feed times s.from) (span_of feed times.points) rs (λ i d low. place_in_range feed times (get_or rs i d "from_id") (from-known i d low)));
    to = rising_all span_before (λ (s : Span). IsInRange feed times s.to) found
        (All-map (λ (s : Span). IsInRange feed times s.to) (span_of feed times.points) rs (λ i d low. place_in_range feed times (get_or rs i d "to_id") (to-known i d low)));
    seconds = rising_all span_before (λ (s : Span). s.seconds ≤ most) found
        (All-map (λ (s : Span). s.seconds ≤ most) (span_of feed times.points) rs (λ i d low.
        count_low most (get_or rs i d "seconds") (is_kept code.BadNumber (is_no (count most) (get_or rs i d "seconds")) (alone.at i d low 2 None (lit< tt)))));
    rising = λ i j d lt low. span_before_is (get_or (rising span_before found) i d) (get_or (rising span_before found) j d)
        (rising_rises span_before span_irreflexive span_transitive found in-order i j d lt low);
  }

-- ---- folders

module _ (is_bad_zone : BadZones) (feed : Feed) (folder : Folder) (none : times_faults is_bad_zone feed folder ≡ []) where
  abbrev first-files : List InputFile
  first-files = ZoneText ∷ (if is_present folder ZoneText then [] else ZoneTzif ∷ [])

  abbrev tables : List InputFile
  tables = Points ∷ Direct ∷ Walks ∷ []

  alone-none : All (λ file. file_faults (times_contents is_bad_zone) folder file ≡ []) tables
  alone-none =
      let faults : InputFile → List Fault = file_faults (times_contents is_bad_zone) folder in
      let one = (lists_are_empty (times_level_one is_bad_zone folder) (times_level_two feed folder) none).0 in
      parts_are_nil faults tables (nil_parts (flat_map faults first-files) (flat_map faults tables) (sym (flat_map-append faults first-files tables) ∙ one)).1

  linked-none : All (λ file. times_link_faults feed folder file ≡ []) tables
  linked-none = parts_are_nil (times_link_faults feed folder) tables (lists_are_empty (times_level_one is_bad_zone folder) (times_level_two feed folder) none).1

  points-kept : IsKeptTable points_schema (entries folder Points)
  points-kept = file_keeps (times_contents is_bad_zone) folder Points points_schema (λ bytes. refl) (alone-none 0 Points (lit< tt))

  direct-kept : IsKeptTable direct_schema (entries folder Direct)
  direct-kept = file_keeps (times_contents is_bad_zone) folder Direct direct_schema (λ bytes. refl) (alone-none 1 Points (lit< tt))

  walks-kept : IsKeptTable walks_schema (entries folder Walks)
  walks-kept = file_keeps (times_contents is_bad_zone) folder Walks walks_schema (λ bytes. refl) (alone-none 2 Points (lit< tt))

  links-of : (file : InputFile) → times_link_faults feed folder file ≡ [] → All (λ r. AreKept (times_links feed folder file r)) (values folder file)
  links-of file h = links_kept file (times_links feed folder file) (entries folder file) h

  no-stop : (r : Values) → AreKept (point_links feed r) → All (λ (stop : Stop). r "point_id" ≢ stop.id) feed.stops
  no-stop r kept i d low e =
      let shared : is_stop feed (r "point_id") ≡ false = is_kept code.SharedId (is_stop feed (r "point_id")) (kept 0 None (lit< tt)) in
      false≢true (sym shared ∙ list_any_at (λ (stop : Stop). bytes_eq (r "point_id") stop.id) feed.stops i d low ((bytes_eq-Decides (r "point_id") (get_or feed.stops i d).id).1 e))

  pub times_sound : AreSoundTimes feed (times_of feed folder)
  times_sound =
      let rs = values folder Points in
      let size = length-map (entries folder Points) (λ (e : Entry). e.values) in
      let size' = length-map rs point_of in
      let few_points = points-kept.few in
      record {
        few = omega (arith, size, size', few_points);
        ids = subst AreIds (sym (map-map (λ (p : Point). p.id) point_of rs)) (kept_ids "point_id" rs (point_ids rs points-kept.rules));
        no_stop = All-map (λ (p : Point). All (λ (stop : Stop). p.id ≢ stop.id) feed.stops) point_of rs (λ i d low. no-stop (get_or rs i d) (links-of Points (linked-none 0 Points (lit< tt)) i d low));
        on_globe = All-map (λ (p : Point). IsOnGlobe p.at) point_of rs (λ i d low. is_on_globe (get_or rs i d "point_lon") (get_or rs i d "point_lat"));
        direct = spans_sound feed (times_of feed folder) rs refl 604800 (values folder Direct) direct-kept.rules (links-of Direct (linked-none 1 Points (lit< tt)));
        walks = spans_sound feed (times_of feed folder) rs refl 86400 (values folder Walks) walks-kept.rules (links-of Walks (linked-none 2 Points (lit< tt)));
      }

pub accepted_times : AcceptedTimesAreSound
accepted_times is_bad_zone feed folder none = times_sound is_bad_zone feed folder none
