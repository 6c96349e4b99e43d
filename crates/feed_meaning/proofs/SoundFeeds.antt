-- A folder without faults holds a sound feed.
use Rattle.std.proofs.Common.{◌≡◌, ℕ, ◌^◌, ◌<◌, ◌≤◌, zero, suc, List, [], All, AllPairs, None, map, length, get_or, refl, sym, ◌∙◌, ap, arith, lit<, inl, inr}
use Rattle.std.specs.Str.{bytes_eq}
use Rattle.std.proofs.lemmas.Bool.{cases_lt}
use Rattle.std.proofs.lemmas.List.{length-map}
use Rattle.std.proofs.lemmas.List.Elements.{All-filter, All-map, All-nil}
use Rattle.flex_model.specs.declared.fault.FaultCode.TheVariants as code
use Rattle.flex_model.specs.declared.fault.InputFile.TheVariants.{Trips, StopTimes, Locations}
use Rattle.flex_model.specs.declared.fault.RawFile.{RawFile}
use Rattle.flex_model.specs.declared.fault.RawFile.TheVariants.{Absent, TooLarge, Bytes}
use Rattle.flex_model.specs.declared.trip.Row.{Row}
use Rattle.flex_model.specs.SoundFeed.{DoesNotFall, IsSoundFeed, IsSoundPolygon, IsSoundRow, IsSoundTrip}
use Rattle.flex_model.specs.SoundTimes.{AreIds}
use Rattle.field_text.specs.Grammars.{number}
use Rattle.feed_meaning.specs.FeedFaults.{Feature, Geo, feature_entry, features, features_in, feed_contents, feed_files, feed_level_one, feed_level_two, tables}
use Rattle.feed_meaning.specs.FeedLinks.{Tables, is_before, is_unknown_service}
use Rattle.feed_meaning.specs.FeedValue.{rising, row_of, trip_of}
use Rattle.feed_meaning.specs.Folder.{Folder, file_faults}
use Rattle.feed_meaning.specs.Rules.{Values, is_empty}
use Rattle.feed_meaning.specs.Soundness.{AcceptedFeedsAreSound, GivesSoundFeatures}
use Rattle.feed_meaning.specs.Tables.{Entry, fault}
use Rattle.feed_meaning.proofs.FieldBounds.{count_is}
use Rattle.feed_meaning.proofs.Kept.{is_kept, nil_from_map, parts_are_nil}
use Rattle.feed_meaning.proofs.KeptFeeds.{KeepsFeedRules, feed_keeps, lists_are_empty}
use Rattle.feed_meaning.proofs.NamedLists.{filled_is_given, no_ids}
use Rattle.feed_meaning.proofs.Places.{AllPairs-map}
use Rattle.feed_meaning.proofs.RisingItems.{rising_all}
use Rattle.feed_meaning.proofs.SoundChanges.{changes_rise, changes_sound}
use Rattle.feed_meaning.proofs.SoundLists.{feed, groups_named, groups_sound, rules_named, service_low, services_named, stops_named, stops_on_globe, trips_named, zones_named, zones_sound}
use Rattle.feed_meaning.proofs.SoundNotices.{notices_sound}
use Rattle.feed_meaning.proofs.SoundRepeats.{frequent_is, repeats_sound}
use Rattle.feed_meaning.proofs.TripOrder.{has_number, number_rises, records_of, records_rise}
use Rattle.feed_meaning.proofs.TripRows.{kept_record, row_sound}
use Rattle.feed_meaning.proofs.TripTimes.{times_rise}

-- in rows that rise, each sequence is at least the row's place
at-least : (rows : List Row) (d : Row) (k : ℕ) → AllPairs (λ a b. a.sequence < b.sequence) rows → k < length rows → k ≤ (get_or rows k d).sequence
at-least rows d zero rising low = omega arith
at-least rows d (suc k) rising low =
    let before = at-least rows d k rising (omega arith) in
    let more = rising k (suc k) d (omega arith) low in
    omega (arith, before, more)

-- rows that rise below a number are no more than it
rows-below : (rows : List Row) (d : Row) (n : ℕ) → AllPairs (λ a b. a.sequence < b.sequence) rows → All (λ (row : Row). row.sequence < n) rows → length rows ≤ n
rows-below rows d n rising below = elim (cases_lt n (length rows)) [
  | inl many ↦ let high = at-least rows d n rising many in let low = below n d many in absurd (omega (arith, high, low))
  | inr few ↦ few
]

module _ (tables : Tables) (features : List Feature) (kept : KeepsFeedRules tables) (same : length (tables Locations) ≡ length features) where
  abbrev rs : List Values
  rs = tables StopTimes

  abbrev sorted : List ℕ → List Values
  sorted trip = rising is_before (records_of rs kept.stop_times.alone trip)

  rows-sound : (trip : List ℕ) → All (IsSoundRow (feed tables features kept)) (map (row_of tables) (sorted trip))
  rows-sound trip =
      All-map (IsSoundRow (feed tables features kept)) (row_of tables) (sorted trip)
      (rising_all is_before (λ r. IsSoundRow (feed tables features kept) (row_of tables r)) (records_of rs kept.stop_times.alone trip)
      (All-filter (λ s. bytes_eq trip (s "trip_id")) (λ r. IsSoundRow (feed tables features kept) (row_of tables r)) rs
      (λ i d low. row_sound tables features kept same (get_or rs i d) (kept_record tables kept i d low))))

  rows-rise : (trip : List ℕ) → AllPairs (λ a b. a.sequence < b.sequence) (map (row_of tables) (sorted trip))
  rows-rise trip = AllPairs-map (λ (a b : Row). a.sequence < b.sequence) (row_of tables) (sorted trip)
      (λ i j d lt low. number_rises (get_or (sorted trip) i d) (get_or (sorted trip) j d) (records_rise rs kept.stop_times.alone trip i j d lt low))

  numbers-low : (trip : List ℕ) → All (λ (row : Row). row.sequence < 4294967295) (map (row_of tables) (sorted trip))
  numbers-low trip =
      All-map (λ (row : Row). row.sequence < 4294967295) (row_of tables) (sorted trip)
      (rising_all is_before (λ r. number (r "stop_sequence") < 4294967295) (records_of rs kept.stop_times.alone trip)
      (All-filter (λ s. bytes_eq trip (s "trip_id")) (λ r. number (r "stop_sequence") < 4294967295) rs
      (λ i d low.
      let n = has_number rs kept.stop_times.alone i d low in
      let c = count_is 4294967294 (get_or rs i d "stop_sequence") n.n n.is in
      let e = c.1 in
      let small = n.low in
      omega (arith, e, small))))

  rows-few : (trip : List ℕ) → length (map (row_of tables) (sorted trip)) < 2 ^ 32
  rows-few trip =
      let no_row = row_of tables (λ column. []) in
      let few = rows-below (map (row_of tables) (sorted trip)) no_row 4294967295 (rows-rise trip) (numbers-low trip) in
      omega (arith, few)

  trips_sound : All (IsSoundTrip (feed tables features kept)) (feed tables features kept).trips
  trips_sound = All-map (IsSoundTrip (feed tables features kept)) (trip_of tables) (tables Trips) (λ i d low.
      let r = get_or (tables Trips) i d in
      let trip = r "trip_id" in
      record {
        service = service_low tables features kept (r "service_id")
            (filled_is_given (r "service_id") (is_kept code.EmptyField (is_empty (r "service_id")) (kept.trips.alone.at i d low 2 None (lit< tt))))
            (is_kept code.UnknownId (is_unknown_service tables (r "service_id")) (kept.trips.linked i d low 1 None (lit< tt)));
        few = rows-few trip;
        rows = rows-sound trip;
        rising = rows-rise trip;
        times = AllPairs-map (λ (a b : Row). DoesNotFall a.timing b.timing) (row_of tables) (sorted trip) (times_rise tables kept trip);
        frequent = frequent_is tables trip;
        repeats = repeats_sound tables kept trip;
      })

  pub feed_sound : length features < 2 ^ 32 → AreIds (map (λ f. f.id) features) → All (λ f. All IsSoundPolygon f.polygons) features → IsSoundFeed (feed tables features kept)
  feed_sound few ids polygons = record {
    stops = stops_named tables features kept;
    stops_on_globe = stops_on_globe tables features kept;
    zones = zones_named tables features kept few ids;
    each_zone = zones_sound tables features kept polygons;
    groups = groups_named tables features kept;
    each_group = groups_sound tables features kept;
    services = services_named tables features kept;
    rules = rules_named tables features kept;
    each_rule = notices_sound tables features kept;
    trips = trips_named tables features kept;
    each_trip = trips_sound;
    changes_rise = changes_rise tables features kept;
    each_change = changes_sound tables features kept;
  }

-- ---- features

record AreSoundFeatures (found : List Feature) : Type 0 where
  few : length found < 2 ^ 32
  ids : AreIds (map (λ f. f.id) found)
  polygons : All (λ f. All IsSoundPolygon f.polygons) found

no-features : AreSoundFeatures []
no-features = record { few = omega arith; ids = no_ids; polygons = All-nil (λ f. All IsSoundPolygon f.polygons) }

features-sound : (geo : Geo) (folder : Folder) → GivesSoundFeatures geo → (raw : RawFile) → folder Locations ≡ raw → file_faults (feed_contents geo) folder Locations ≡ [] → AreSoundFeatures (features_in geo raw)
features-sound geo folder gives Absent is none = no-features
features-sound geo folder gives TooLarge is none = no-features
features-sound geo folder gives (Bytes bytes) is none =
    let faults : (geo bytes).faults ≡ [] = nil_from_map (λ f. fault Locations f.0 f.1) (geo bytes).faults (sym (ap (λ raw. file_faults (feed_contents geo) (λ file. raw) Locations) is) ∙ none) in
    record { few = gives.few bytes faults; ids = gives.ids bytes faults; polygons = gives.polygons bytes faults }

pub accepted_feeds : AcceptedFeedsAreSound
accepted_feeds geo folder gives none =
    let lists = lists_are_empty (feed_level_one geo folder) (feed_level_two geo folder) none in
    let one = parts_are_nil (file_faults (feed_contents geo) folder) feed_files lists.0 in
    let sound = features-sound geo folder gives (folder Locations) refl (one 7 Trips (lit< tt)) in
    let found = features geo folder in
    let records = length-map (map feature_entry found) (λ (e : Entry). e.values) in
    let entries = length-map found feature_entry in
    feed_sound (tables geo folder) found (feed_keeps geo folder none) (records ∙ entries) sound.few sound.ids sound.polygons
