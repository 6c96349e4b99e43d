-- The stops, zones, groups and services of tables without faults are sound.
use Rattle.std.proofs.Common.{◌≡◌, ◌≢◌, ℕ, ◌^◌, ◌<◌, ◌≤◌, Bool, true, false, not, ◌&&◌, ◌||◌, List, [], ◌∷◌, ◌++◌, All, None, map, take, fold, length, get_or, refl, sym, ◌∙◌, ap, subst, arith, lit<}
use Rattle.std.specs.List.{list_any}
use Rattle.std.specs.Str.{bytes_eq}
use Rattle.std.proofs.lemmas.Bool.{and_from, and_parts, not-false, true≢false}
use Rattle.std.proofs.lemmas.List.{length-append, length-map, map-id}
use Rattle.std.proofs.lemmas.List.Elements.{All-append, All-map}
use Rattle.std.proofs.lemmas.List.Folds.{list_any-append}
use Rattle.std.proofs.lemmas.Simd.{map-map}
use Rattle.flex_model.specs.declared.fault.FaultCode.TheVariants as code
use Rattle.flex_model.specs.declared.fault.InputFile.{InputFile}
use Rattle.flex_model.specs.declared.fault.InputFile.TheVariants.{Stops, Trips, Calendar, CalendarDates, LocationGroups, BookingRules}
use Rattle.flex_model.specs.declared.feed.Feed.{Feed}
use Rattle.flex_model.specs.declared.place.Stop.{Stop}
use Rattle.flex_model.specs.SoundFeed.{IsNamed, IsSoundGroup, IsSoundPolygon, IsSoundZone}
use Rattle.flex_model.specs.SoundTimes.{AreIds, IsOnGlobe}
use Rattle.flex_model.specs.Zone.{is_in_zone}
use Rattle.feed_tables.specs.Refusals.{is_given}
use Rattle.flex_model.specs.declared.limits.TheConstants.{MOST_RECORDS}
use Rattle.feed_meaning.specs.FeedFaults.{Feature}
use Rattle.feed_meaning.specs.FeedLinks.{Tables, is_in, is_unknown, is_unknown_service}
use Rattle.feed_meaning.specs.FeedRules.{booking_rules, group_rules, stop_rules, trip_rules}
use Rattle.feed_meaning.specs.FeedValue.{feed_of_tables, group_of, index_in, is_paired, rule_of, service_ids, service_index, service_of, stop_of, trip_of, zone_of}
use Rattle.feed_meaning.specs.Noted.{noted}
use Rattle.feed_meaning.specs.Rules.{Values, is_empty, repeats_id}
use Rattle.feed_meaning.proofs.FieldBounds.{is_on_globe}
use Rattle.feed_meaning.proofs.IdFacts.{all_noted-has, list_any-map}
use Rattle.feed_meaning.proofs.Kept.{ObeysRules, is_kept}
use Rattle.feed_meaning.proofs.KeptFeeds.{KeepsFeedRules}
use Rattle.feed_meaning.proofs.NamedLists.{IdsAreKept, all_noted_few, all_noted_ids, filled_is_given, first_appearances-noted, given_is, kept_ids, no_ids}
use Rattle.feed_meaning.proofs.Places.{place_passes, places_are, places_low, places_rise}
use Prim.Native.String.{String}

-- items that are made of records are named as those
pub named : {X : Type 0} (column : String) (of : Values → X) (id_of : X → List ℕ) (rs : List Values) → ((r : Values) → id_of (of r) ≡ r column)
    → length rs ≤ MOST_RECORDS → IdsAreKept column rs → IsNamed id_of (map of rs)
named column of id_of rs same few kept = record {
  few = omega (arith, few, length-map rs of);
  ids = subst AreIds (sym (map-map id_of of rs ∙ agree rs)) (kept_ids column rs kept);
}
  where
    agree : (xs : List Values) → map (λ r. id_of (of r)) xs ≡ map (λ r. r column) xs
    agree [] = refl
    agree (x ∷ xs) = ap (λ t. t ∷ map (λ r. id_of (of r)) xs) (same x) ∙ ap (λ ts. x column ∷ ts) (agree xs)

-- ---- what tables without faults say of ids

pub stop_ids : (rs : List Values) → ObeysRules stop_rules rs → IdsAreKept "stop_id" rs
stop_ids rs kept = record {
  given = λ i d low. is_kept code.EmptyField (is_empty (get_or rs i d "stop_id")) (kept.at i d low 0 None (lit< tt));
  fresh = λ i d low. is_kept code.DuplicateKey (repeats_id "stop_id" (take i rs) (get_or rs i d)) (kept.at i d low 1 None (lit< tt));
}

pub trip_ids : (rs : List Values) → ObeysRules trip_rules rs → IdsAreKept "trip_id" rs
trip_ids rs kept = record {
  given = λ i d low. is_kept code.EmptyField (is_empty (get_or rs i d "trip_id")) (kept.at i d low 0 None (lit< tt));
  fresh = λ i d low. is_kept code.DuplicateKey (repeats_id "trip_id" (take i rs) (get_or rs i d)) (kept.at i d low 3 None (lit< tt));
}

pub group_ids : (rs : List Values) → ObeysRules group_rules rs → IdsAreKept "location_group_id" rs
group_ids rs kept = record {
  given = λ i d low. is_kept code.EmptyField (is_empty (get_or rs i d "location_group_id")) (kept.at i d low 0 None (lit< tt));
  fresh = λ i d low. is_kept code.DuplicateKey (repeats_id "location_group_id" (take i rs) (get_or rs i d)) (kept.at i d low 1 None (lit< tt));
}

pub booking_rule_ids : (rs : List Values) → ObeysRules booking_rules rs → IdsAreKept "booking_rule_id" rs
booking_rule_ids rs kept = record {
  given = λ i d low. is_kept code.EmptyField (is_empty (get_or rs i d "booking_rule_id")) (kept.at i d low 0 None (omega arith));
  fresh = λ i d low. is_kept code.DuplicateKey (repeats_id "booking_rule_id" (take i rs) (get_or rs i d)) (kept.at i d low 1 None (omega arith));
}

-- ---- ids that other tables name

-- a text that is given and isn't unknown is there
pub known : (tables : Tables) (file : InputFile) (column : String) (text : List ℕ) → is_given text ≡ true → is_unknown tables file column text ≡ false → is_in tables file column text ≡ true
known tables file column text given kept = not-false (is_in tables file column text) (sym (ap (λ g. g && not (is_in tables file column text)) given) ∙ kept)

-- the index of a text that is there is in range
pub index_low : (tables : Tables) (file : InputFile) (column : String) (text : List ℕ) → is_in tables file column text ≡ true → index_in tables file column text < length (tables file)
index_low tables file column text here = (place_passes (λ s. bytes_eq text (s column)) (tables file) here).0

module _ (tables : Tables) (features : List Feature) (kept : KeepsFeedRules tables) where
  abbrev pub feed : Feed
  feed = feed_of_tables tables features

  pub stops_named : IsNamed (λ stop. stop.id) feed.stops
  stops_named = named "stop_id" stop_of (λ stop. stop.id) (tables Stops) (λ r. refl) kept.stops.few (stop_ids (tables Stops) kept.stops.alone)

  pub stops_on_globe : All (λ stop. IsOnGlobe stop.at) feed.stops
  stops_on_globe = All-map (λ stop. IsOnGlobe stop.at) stop_of (tables Stops) (λ i d low. is_on_globe (get_or (tables Stops) i d "stop_lon") (get_or (tables Stops) i d "stop_lat"))

  pub groups_named : IsNamed (λ group. group.id) feed.groups
  groups_named = named "location_group_id" (group_of tables) (λ group. group.id) (tables LocationGroups) (λ r. refl) kept.groups.few (group_ids (tables LocationGroups) kept.groups.alone)

  pub groups_sound : All (IsSoundGroup feed) feed.groups
  groups_sound = All-map (IsSoundGroup feed) (group_of tables) (tables LocationGroups) (λ i d low.
      let test : Values → Bool = is_paired tables (get_or (tables LocationGroups) i d) in
      record {
        in_range = λ k e h. let in_table = places_low test (tables Stops) k e h in let size = length-map (tables Stops) stop_of in omega (arith, in_table, size);
        rising = places_rise test (tables Stops);
      })

  pub rules_named : IsNamed (λ rule. rule.id) feed.rules
  rules_named = named "booking_rule_id" (rule_of tables) (λ rule. rule.id) (tables BookingRules) (λ r. refl) kept.booking_rules.few (booking_rule_ids (tables BookingRules) kept.booking_rules.alone)

  pub trips_named : IsNamed (λ trip. trip.id) feed.trips
  trips_named = named "trip_id" (trip_of tables) (λ trip. trip.id) (tables Trips) (λ r. refl) kept.trips.few (trip_ids (tables Trips) kept.trips.alone)

  -- ---- services

  abbrev service_texts : List (List ℕ)
  service_texts = map (λ r. r "service_id") (tables Calendar ++ tables CalendarDates)

  pub services_given : All (λ t. t ≢ []) service_texts
  services_given = All-map (λ t. t ≢ []) (λ (r : Values). r "service_id") (tables Calendar ++ tables CalendarDates)
      (All-append (λ r. r "service_id" ≢ []) (tables Calendar) (tables CalendarDates)
      (λ i d low. given_is (get_or (tables Calendar) i d "service_id") (filled_is_given (get_or (tables Calendar) i d "service_id") (is_kept code.EmptyField (is_empty (get_or (tables Calendar) i d "service_id")) (kept.calendar.alone.at i d low 0 None (lit< tt)))))
      (λ i d low. given_is (get_or (tables CalendarDates) i d "service_id") (filled_is_given (get_or (tables CalendarDates) i d "service_id") (is_kept code.EmptyField (is_empty (get_or (tables CalendarDates) i d "service_id")) (kept.calendar_dates.alone.at i d low 0 None (lit< tt))))))

  -- the services are those that are noted of both calendars
  pub service_ids-noted : service_ids tables ≡ fold noted [] service_texts
  service_ids-noted = first_appearances-noted service_texts services_given

  pub services_named : IsNamed (λ service. service.id) feed.services
  services_named =
      let count = all_noted_few [] service_texts in
      let size = length-map (tables Calendar ++ tables CalendarDates) (λ (r : Values). r "service_id") in
      let both = length-append (tables Calendar) (tables CalendarDates) in
      let services = length-map (service_ids tables) (service_of tables) in
      let same = ap length service_ids-noted in
      let few_calendar = kept.calendar.few in
      let few_dates = kept.calendar_dates.few in
      record {
        few = omega (arith, count, size, both, services, same, few_calendar, few_dates);
        ids = subst AreIds (sym (map-map (λ service. service.id) (service_of tables) (service_ids tables) ∙ map-id (service_ids tables) ∙ service_ids-noted)) (all_noted_ids [] service_texts no_ids);
      }

  in-calendar : (text : List ℕ) (a b : Bool) → is_in tables Calendar "service_id" text ≡ a → is_in tables CalendarDates "service_id" text ≡ b → is_given text ≡ true
      → is_unknown_service tables text ≡ false → (is_in tables Calendar "service_id" text || is_in tables CalendarDates "service_id" text) ≡ true
  in-calendar text true b ea eb given known = ap (λ c. c || is_in tables CalendarDates "service_id" text) ea
  in-calendar text false true ea eb given known = ap (λ c. c || is_in tables CalendarDates "service_id" text) ea ∙ eb
  in-calendar text false false ea eb given known =
      absurd (true≢false (sym (ap (λ g. (g && not (is_in tables Calendar "service_id" text)) && (g && not (is_in tables CalendarDates "service_id" text))) given
      ∙ ap (λ c. not c && not (is_in tables CalendarDates "service_id" text)) ea ∙ ap (λ c. not c) eb) ∙ known))

  -- a service that isn't unknown has a number in range
  pub service_low : (text : List ℕ) → is_given text ≡ true → is_unknown_service tables text ≡ false → service_index tables text < length feed.services
  service_low text given known =
      let some = in-calendar text (is_in tables Calendar "service_id" text) (is_in tables CalendarDates "service_id" text) refl refl given known in
      let here : list_any (bytes_eq text) (service_ids tables) ≡ true =
      ap (list_any (bytes_eq text)) service_ids-noted ∙ all_noted-has text [] service_texts given
      ∙ list_any-map (λ r. r "service_id") (bytes_eq text) (tables Calendar ++ tables CalendarDates)
      ∙ list_any-append (λ r. bytes_eq text (r "service_id")) (tables Calendar) (tables CalendarDates) ∙ some in
      let low = (place_passes (bytes_eq text) (service_ids tables) here).0 in
      let size = length-map (service_ids tables) (service_of tables) in
      omega (arith, low, size)

  -- ---- zones

  pub zones_named : length features < 2 ^ 32 → AreIds (map (λ f. f.id) features) → IsNamed (λ zone. zone.id) feed.zones
  zones_named few ids = record {
    few = omega (arith, few, length-map features (zone_of feed.stops));
    ids = subst AreIds (sym (map-map (λ zone. zone.id) (zone_of feed.stops) features)) ids;
  }

  pub zones_sound : All (λ f. All IsSoundPolygon f.polygons) features → All (IsSoundZone feed) feed.zones
  zones_sound polygons = All-map (IsSoundZone feed) (zone_of feed.stops) features (λ i d low.
      let shape = (get_or features i d).polygons in
      let test : Stop → Bool = λ stop. stop.boards && is_in_zone shape stop.at in
      record {
        polygons = polygons i d low;
        rising = places_rise test feed.stops;
        stops = λ s.
            let both = places_are test feed.stops s in (
              λ c. let p = both.0 c in let b = and_parts p.0.boards (is_in_zone shape p.0.at) p.2 in (p.0, p.1, b.0, b.1),
              λ p. both.1 (p.0, p.1, and_from p.0.boards (is_in_zone shape p.0.at) p.2 p.3),
            );
      })
