-- The trips whose times are filled are those of the feed.
use Rattle.std.proofs.Common.{◌≡◌, ℕ, ◌<◌, ◌≤◌, Bool, true, false, not, ◌&&◌, ◌||◌, List, [], ◌∷◌, All, AllPairs, Option, None, Some, map, length, get_or, refl, sym, ◌∙◌, ap, subst, arith, ◌⊎◌, inl, inr}
use Rattle.std.specs.Prelude.{if◌then◌else◌, IsSome, filter, unwrap_or}
use Rattle.std.specs.Borrow.{Bor}
use Rattle.std.specs.List.{AllZip}
use Rattle.std.specs.List.Sorted.{IsNonDecreasingBy, IsPermutation}
use Rattle.std.specs.Str.{bytes_eq}
use Rattle.std.proofs.Math.ListN as Raw
use Rattle.std.proofs.lemmas.Bool.{false_from_ne_true, false≢true}
use Rattle.std.proofs.lemmas.List.{ext_get_or, length-map}
use Rattle.std.proofs.lemmas.List.Elements.{All-filter}
use Rattle.std.proofs.lemmas.List.Sorted.{All-permutation}
use Rattle.flex_model.specs.declared.fault.InputFile.TheVariants.{Stops, Trips, StopTimes, Locations, LocationGroups, BookingRules, Frequencies}
use Rattle.flex_model.specs.declared.trip.Repeat.{Repeat}
use Rattle.flex_model.specs.declared.trip.Row.{Row}
use Rattle.flex_model.specs.declared.trip.Spot.{Spot}
use Rattle.flex_model.specs.declared.trip.Spot.TheVariants as spot
use Rattle.flex_model.specs.declared.trip.Timing.{Timing}
use Rattle.flex_model.specs.declared.trip.Timing.TheVariants as timing
use Rattle.flex_model.specs.declared.trip.Trip.{Trip}
use Rattle.flex_model.specs.declared.trip.Way.{Way}
use Rattle.flex_model.specs.declared.trip.Way.TheVariants.{No, Free, Book}
use Rattle.feed_tables.specs.Refusals.{is_given}
use Rattle.field_text.specs.Grammars.{number}
use Rattle.feed_meaning.specs.FeedLinks as Link
use Rattle.feed_meaning.specs.FeedLinks.{Tables, is_before, is_in}
use Rattle.feed_meaning.specs.FeedRules.{has_time, has_window, sequence as stop_sequence}
use Rattle.feed_meaning.specs.FeedValue.{filled, index_in, records_of_trip, repeat_of, rising, row_of, seconds, service_index, spot_of, timing_of, trip_of, way_of}
use Rattle.feed_meaning.specs.Rules.{Values, is_empty, is_text}
use Rattle.feed_meaning.proofs.FieldBounds.{count_is}
use Rattle.feed_meaning.proofs.LinkFacts.{index_in-position}
use Rattle.feed_meaning.proofs.Rising.{rising-unique}
use Rattle.feed_meaning.proofs.TripOrder.{before_irreflexive, before_is, before_transitive}
use Rattle.feed_load.specs.Columns.{place_among}
use Rattle.feed_load.specs.Drafts.{draft_of, given_of, row_with, spot_among, way_among}
use Rattle.feed_load.specs.LinearTimes.{AreFilled, IsFilledAt, arrival, departure, is_untimed, row_at}
use Rattle.feed_load.specs.OpenTrips.{open_trip}
use Rattle.feed_load.specs.Repeats.{HasHeadway, read_repeat}
use Rattle.feed_load.specs.TableValues.{values_in}
use Rattle.feed_load.specs.WholeTrips.{AreRowsOf, AreTripRecords, AreTripTables, IsTripRecord, IsWhole}
use Rattle.feed_load.specs.declared.drafts.Draft.{Draft}
use Rattle.feed_load.specs.declared.named_ids.FeedIds.{FeedIds}
use Rattle.feed_load.specs.declared.linear_times.GivenRow.{GivenRow}
use Rattle.feed_rules.specs.Links.{records_in}
use Rattle.feed_load.proofs.Grouping.{unchanged}
use Rattle.feed_load.proofs.RepeatRecords.{repeat_is, some_kept}
use Rattle.feed_load.proofs.FilledRecords.{row-is, untimed-is, untimed-times}
use Rattle.feed_load.proofs.Permuted.{AllPairs-permutation, items_of}

-- ---- the parts of a row

number-is : (text : List ℕ) (o : Option ℕ) → stop_sequence text ≡ o → IsSome o → unwrap_or o 0 ≡ number text
number-is text None is some = absurd (false≢true some)
number-is text (Some n) is some = sym (count_is 4294967294 text n is).1

module _ (tables : Tables) (ids : FeedIds) (stops : ids.stops ≡ map (λ s. s "stop_id") (tables Stops)) (groups : ids.groups ≡ map (λ s. s "location_group_id") (tables LocationGroups))
    (booking_rules : ids.booking_rules ≡ map (λ s. s "booking_rule_id") (tables BookingRules)) (zones : ids.zones ≡ map (λ s. s "id") (tables Locations)) where
  stop-is : (text : List ℕ) → place_among ids.stops text ≡ index_in tables Stops "stop_id" text
  stop-is text = ap (λ xs. place_among xs text) stops ∙ sym (index_in-position tables Stops "stop_id" text)

  group-is : (text : List ℕ) → place_among ids.groups text ≡ index_in tables LocationGroups "location_group_id" text
  group-is text = ap (λ xs. place_among xs text) groups ∙ sym (index_in-position tables LocationGroups "location_group_id" text)

  rule-is : (text : List ℕ) → place_among ids.booking_rules text ≡ index_in tables BookingRules "booking_rule_id" text
  rule-is text = ap (λ xs. place_among xs text) booking_rules ∙ sym (index_in-position tables BookingRules "booking_rule_id" text)

  zone-is : (text : List ℕ) → place_among ids.zones text ≡ index_in tables Locations "id" text
  zone-is text = ap (λ xs. place_among xs text) zones ∙ sym (index_in-position tables Locations "id" text)

  spot-is : (r : Values) → spot_among ids (r "stop_id") (r "location_group_id") (r "location_id") ≡ spot_of tables r
  spot-is r =
      ap (λ n. if is_given (r "stop_id") then spot.Stop n else if is_given (r "location_group_id") then spot.Group (place_among ids.groups (r "location_group_id")) else spot.Zone (place_among ids.zones (r "location_id"))) (stop-is (r "stop_id"))
      ∙ ap (λ n. if is_given (r "stop_id") then spot.Stop (index_in tables Stops "stop_id" (r "stop_id")) else if is_given (r "location_group_id") then spot.Group n else spot.Zone (place_among ids.zones (r "location_id"))) (group-is (r "location_group_id"))
      ∙ ap (λ n. if is_given (r "stop_id") then spot.Stop (index_in tables Stops "stop_id" (r "stop_id"))
      else if is_given (r "location_group_id") then spot.Group (index_in tables LocationGroups "location_group_id" (r "location_group_id")) else spot.Zone n) (zone-is (r "location_id"))

  way-is : (windowed : Bool) (kind rule : List ℕ) → way_among ids.booking_rules windowed kind rule ≡ way_of tables windowed kind rule
  way-is windowed kind rule =
      ap (λ n. if is_text kind "1" then No else if is_text kind "2" || (is_empty kind && windowed) then Book (if is_given rule then Some n else None) else Free) (rule-is rule)

  made : ℕ → Spot → Timing → Way → Way → Row
  made n s t p d = record { sequence = n; «spot» = s; timing = t; pickup = p; drop_off = d }

  row-made : (r : Values) (times : GivenRow) → IsSome (stop_sequence (r "stop_sequence"))
      → (if has_window r then timing.Window (seconds (r "start_pickup_drop_off_window")) (seconds (r "end_pickup_drop_off_window")) else timing.Times (arrival times) (departure times)) ≡ timing_of tables r
      → row_with (draft_of ids r) times ≡ row_of tables r
  unfolding made
  row-made r times numbered timed =
      let spot = spot_among ids (r "stop_id") (r "location_group_id") (r "location_id") in
      let own = if has_window r then timing.Window (seconds (r "start_pickup_drop_off_window")) (seconds (r "end_pickup_drop_off_window")) else timing.Times (arrival times) (departure times) in
      let pickup = way_among ids.booking_rules (has_window r) (r "pickup_type") (r "pickup_booking_rule_id") in
      let drop_off = way_among ids.booking_rules (has_window r) (r "drop_off_type") (r "drop_off_booking_rule_id") in
      ap (λ x. made x spot own pickup drop_off) (number-is (r "stop_sequence") (stop_sequence (r "stop_sequence")) refl numbered)
      ∙ ap (λ x. made (number (r "stop_sequence")) x own pickup drop_off) (spot-is r)
      ∙ ap (λ x. made (number (r "stop_sequence")) (spot_of tables r) x pickup drop_off) timed
      ∙ ap (λ x. made (number (r "stop_sequence")) (spot_of tables r) (timing_of tables r) x drop_off) (way-is (has_window r) (r "pickup_type") (r "pickup_booking_rule_id"))
      ∙ ap (made (number (r "stop_sequence")) (spot_of tables r) (timing_of tables r) (way_of tables (has_window r) (r "pickup_type") (r "pickup_booking_rule_id")))
      (way-is (has_window r) (r "drop_off_type") (r "drop_off_booking_rule_id"))

  -- ---- the records of a trip in their order

  module _ (kept : AreTripRecords (tables StopTimes)) (trip : List ℕ) (zs : List Values) (moved : IsPermutation (filter (λ s. bytes_eq trip (s "trip_id")) (tables StopTimes)) zs)
      (up : AllPairs (λ a b. is_before a b ≡ true) zs) where
    abbrev rs : List Values
    rs = tables StopTimes

    abbrev at : ℕ → Values
    at i = get_or zs i (λ name. [])

    abbrev gs : List GivenRow
    gs = map given_of zs

    record-at : (i : ℕ) → i < length zs → IsTripRecord (at i)
    record-at i low = All-permutation IsTripRecord (filter (λ s. bytes_eq trip (s "trip_id")) rs) zs moved (All-filter (λ s. bytes_eq trip (s "trip_id")) IsTripRecord rs kept.each) i (λ name. []) low

    -- a row that isn't untimed has its own times
    own-times : (i : ℕ) (row : GivenRow) → i < length zs → is_untimed (given_of (at i)) ≡ false → IsFilledAt gs i row → row ≡ given_of (at i)
    own-times i row low timed fill =
        let is = row-is rs zs trip moved up kept.each i low in
        fill.kept (λ p q b. false≢true (sym timed ∙ ap is_untimed (sym is) ∙ b.untimed)) ∙ is

    timing-is : (i : ℕ) (row : GivenRow) → i < length zs → IsFilledAt gs i row → (w t : Bool) → has_window (at i) ≡ w → has_time (at i) ≡ t
        → (if w then timing.Window (seconds (at i "start_pickup_drop_off_window")) (seconds (at i "end_pickup_drop_off_window")) else timing.Times (arrival row) (departure row))
        ≡ (if w then timing.Window (seconds (at i "start_pickup_drop_off_window")) (seconds (at i "end_pickup_drop_off_window"))
        else if t then timing.Times (unwrap_or (Link.arrival (at i)) 0) (unwrap_or (Link.departure (at i)) 0)
        else timing.Times (filled rs (at i)) (filled rs (at i)))
    timing-is i row low fill true t is_w is_t = refl
    timing-is i row low fill false true is_w is_t =
        let timed : is_untimed (given_of (at i)) ≡ false = untimed-is (at i) (record-at i low) ∙ ap (λ b. not (has_window (at i)) && not b) is_t ∙ nothing (has_window (at i)) in
        let own = own-times i row low timed fill in
        ap (λ x. timing.Times (arrival x) (departure x)) own
      where
        nothing : (w : Bool) → (not w && false) ≡ false
        nothing true = refl
        nothing false = refl
    timing-is i row low fill false false is_w is_t =
        let untimed : is_untimed (row_at gs i) ≡ true =
        ap is_untimed (row-is rs zs trip moved up kept.each i low) ∙ untimed-is (at i) (record-at i low) ∙ ap (λ b. not b && not (has_time (at i))) is_w ∙ ap (λ b. true && not b) is_t in
        let times = untimed-times rs zs trip moved up kept.each i row low untimed fill in
        ap (λ n. timing.Times n (departure row)) times.0 ∙ ap (timing.Times (filled rs (at i))) times.1

    rows-are : (rows : List Row) → AreRowsOf (map (draft_of ids) zs) rows → rows ≡ map (row_of tables) zs
    rows-are rows o =
        let drafts = map (draft_of ids) zs in
        let size = length-map zs (draft_of ids) in
        let size' = length-map zs (row_of tables) in
        let blank : Values = λ name. [] in
        let given : map (λ (draft : Draft). draft.given) drafts ≡ gs = Rattle.std.proofs.lemmas.Simd.map-map (λ (draft : Draft). draft.given) (draft_of ids) zs in
        let fill : AreFilled gs o.times = subst (λ xs. AreFilled xs o.times) given o.filled in
        let many = o.are.many in
        let many' : length rows ≡ length (map (row_of tables) zs) = omega (arith, many, size, size') in
        ext_get_or (row_of tables blank) rows (map (row_of tables) zs) many'
        (λ i low.
        let low' : i < length zs = omega (arith, many, size) in
        let size'' = length-map zs given_of in
        o.are.each i (row_of tables blank) (draft_of ids blank) (omega (arith, size))
        ∙ ap (λ x. row_with x (row_at o.times i)) (Raw.get_or-map (draft_of ids) zs i blank)
        ∙ row-made (at i) (row_at o.times i) (record-at i low').numbered
        (timing-is i (row_at o.times i) low' (fill.each i (omega (arith, size''))) (has_window (at i)) (has_time (at i)) refl refl)
        ∙ sym (Raw.get_or-map (row_of tables) zs i blank))

-- ---- one of two records of a trip comes before the other

abbrev Ordered : Values → Values → Type 0
Ordered a b = (is_before a b ≡ true) ⊎ (is_before b a ≡ true)

turned : (a b : Values) → Ordered a b → Ordered b a
turned a b (inl h) = inr h
turned a b (inr h) = inl h

before_asymmetric : (a b : Values) → is_before a b ≡ true → is_before b a ≡ false
before_asymmetric a b e = false_from_ne_true (is_before b a) (λ f. false≢true (sym (before_irreflexive a) ∙ before_transitive a b a e f))

-- the number that a record is sorted by
abbrev number_of : Values → ℕ
number_of r = unwrap_or (stop_sequence (r "stop_sequence")) 0

lesser : (a b : Values) → is_before a b ≡ true → number_of a < number_of b
lesser a b e =
    let x = before_is a b e in
    let first : number_of a ≡ x.first = ap (λ o. unwrap_or o 0) x.is_first in
    let second : number_of b ≡ x.second = ap (λ o. unwrap_or o 0) x.is_second in
    let lt = x.less in
    omega (arith, first, second, lt)

-- records whose numbers don't fall, of which each two are ordered, come one before the other
strictly : (ids : FeedIds) (zs : List Values) (drafts : List Draft) → map (draft_of ids) zs ≡ drafts → AllPairs Ordered zs → IsNonDecreasingBy (λ draft. draft.sequence) drafts
    → AllPairs (λ a b. is_before a b ≡ true) zs
strictly ids zs drafts same ordered up i j d lt low = elim (ordered i j d lt low) [
  | inl h ↦ h
  | inr h ↦
      let f = draft_of ids in
      let up' = subst (λ xs. IsNonDecreasingBy (λ (draft : Draft). draft.sequence) xs) (sym same) up in
      let size = length-map zs f in
      let le : number_of (get_or zs i d) ≤ number_of (get_or zs j d) =
      subst (λ (x : Draft). x.sequence ≤ number_of (get_or zs j d)) (Raw.get_or-map f zs i d)
      (subst (λ (x : Draft). (get_or (map f zs) i (f d)).sequence ≤ x.sequence) (Raw.get_or-map f zs j d) (up' i j (f d) (omega arith) (omega (arith, size, low)))) in
      let less = lesser (get_or zs j d) (get_or zs i d) h in
      absurd (omega (arith, le, less))
]

-- ---- trips

made-trip : List ℕ → ℕ → Bool → List Repeat → List Row → Trip
made-trip i s f repeats rows = record { id = i; service = s; frequent = f; repeats = repeats; rows = rows }

module _ (of_trips of_stop_times : List (List (List ℕ))) (of_frequencies : Option (Bor (List (List (List ℕ))))) (ids : FeedIds) (tables : Tables)
    (of : AreTripTables of_trips of_stop_times of_frequencies ids tables) (kept : AreTripRecords (tables StopTimes)) (headways : All HasHeadway (tables Frequencies)) where
  -- the repeats of a trip
  repeats-are : (trip : List ℕ) → map read_repeat (records_of_trip tables Frequencies trip) ≡ map repeat_of (records_of_trip tables Frequencies trip)
  repeats-are trip =
      unchanged repeat_of read_repeat (records_of_trip tables Frequencies trip)
      (λ i d low. repeat_is (get_or (records_of_trip tables Frequencies trip) i d) (All-filter (λ s. bytes_eq trip (s "trip_id")) HasHeadway (tables Frequencies) headways i d low))

  one-trip : (r : Values) (t : Trip) → IsWhole (open_trip ids (tables Frequencies) (tables StopTimes) r) t → t ≡ trip_of tables r
  unfolding made-trip
  one-trip r t whole =
      let xs = filter (λ s. bytes_eq (r "trip_id") (s "trip_id")) (tables StopTimes) in
      let o = items_of (draft_of ids) xs whole.sorted whole.moved in
      let pairs = strictly ids o.items whole.sorted o.values (AllPairs-permutation Ordered turned xs o.items o.moved (kept.ordered (r "trip_id"))) whole.rising in
      let in_order : o.items ≡ rising is_before xs = sym (rising-unique is_before before_irreflexive before_asymmetric xs o.items o.moved pairs) in
      let rows : t.rows ≡ map (row_of tables) (rising is_before xs) =
      rows-are tables ids of.named.stops of.named.groups of.named.booking_rules of.named.zones kept (r "trip_id") o.items o.moved pairs t.rows (subst (λ ds. AreRowsOf ds t.rows) (sym o.values) whole.rows)
      ∙ ap (map (row_of tables)) in_order in
      let service : t.service ≡ service_index tables (r "service_id") = whole.service ∙ ap (λ xs. place_among xs (r "service_id")) of.named.services in
      let frequent : t.frequent ≡ is_in tables Frequencies "trip_id" (r "trip_id") = whole.frequent ∙ some_kept read_repeat (λ s. bytes_eq (r "trip_id") (s "trip_id")) (tables Frequencies) in
      let repeats : t.repeats ≡ map repeat_of (records_of_trip tables Frequencies (r "trip_id")) = whole.repeats ∙ repeats-are (r "trip_id") in
      ap (λ i. made-trip i t.service t.frequent t.repeats t.rows) whole.id
      ∙ ap (λ s. made-trip (r "trip_id") s t.frequent t.repeats t.rows) service
      ∙ ap (λ f. made-trip (r "trip_id") (service_index tables (r "service_id")) f t.repeats t.rows) frequent
      ∙ ap (λ rs. made-trip (r "trip_id") (service_index tables (r "service_id")) (is_in tables Frequencies "trip_id" (r "trip_id")) rs t.rows) repeats
      ∙ ap (made-trip (r "trip_id") (service_index tables (r "service_id")) (is_in tables Frequencies "trip_id" (r "trip_id")) (map repeat_of (records_of_trip tables Frequencies (r "trip_id")))) rows

  trips-among : (trips : List Values) (ts : List Trip) → AllZip IsWhole (map (open_trip ids (tables Frequencies) (tables StopTimes)) trips) ts → ts ≡ map (trip_of tables) trips
  trips-among [] [] all = refl
  trips-among [] (t ∷ ts) all = absurd all
  trips-among (r ∷ trips) [] all = absurd all
  trips-among (r ∷ trips) (t ∷ ts) all = ap (λ x. x ∷ ts) (one-trip r t all.0) ∙ ap (λ xs. trip_of tables r ∷ xs) (trips-among trips ts all.1)

-- the trips with their records in order are those of the feed
pub trips_are : (of_trips of_stop_times : List (List (List ℕ))) (of_frequencies : Option (Bor (List (List (List ℕ))))) (ids : FeedIds) (tables : Tables)
    → AreTripTables of_trips of_stop_times of_frequencies ids tables → AreTripRecords (values_in of_stop_times) → All HasHeadway (records_in of_frequencies)
    → (ts : List Trip) → AllZip IsWhole (map (open_trip ids (records_in of_frequencies) (values_in of_stop_times)) (values_in of_trips)) ts → ts ≡ map (trip_of tables) (tables Trips)
trips_are of_trips of_stop_times of_frequencies ids tables of kept headways ts all =
    trips-among of_trips of_stop_times of_frequencies ids tables of (subst AreTripRecords (sym of.stop_times) kept) (subst (All HasHeadway) (sym of.frequencies) headways) (tables Trips) ts
    (subst (λ rs. AllZip IsWhole (map (open_trip ids (tables Frequencies) (tables StopTimes)) rs) ts) (sym of.trips)
    (subst (λ rs. AllZip IsWhole (map (open_trip ids (tables Frequencies) rs) (values_in of_trips)) ts) (sym of.stop_times)
    (subst (λ rs. AllZip IsWhole (map (open_trip ids rs (values_in of_stop_times)) (values_in of_trips)) ts) (sym of.frequencies) all)))
