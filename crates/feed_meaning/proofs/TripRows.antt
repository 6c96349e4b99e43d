-- The records of trips of tables without faults are sound by themselves.
use Rattle.std.proofs.Common.{◌≡◌, ℕ, ◌+◌, ◌-◌, ◌*◌, ◌/◌, ◌<◌, ◌≤◌, Bool, true, false, not, ◌&&◌, ◌||◌, cond, List, [], ◌∷◌, Option, None, Some, length, get_or, refl, sym, ◌∙◌, ap, arith, lit<}
use Rattle.std.specs.Prelude.{◌==◌, if◌then◌else◌, IfSome, is_none, unwrap_or}
use Rattle.std.specs.List.{filter, find, list_any}
use Rattle.std.specs.Option.{option_and_then, option_or}
use Rattle.std.proofs.Math.Nat.{div-le_of_le-mul, mul-le-mul_left}
use Rattle.std.proofs.lemmas.Bool.{and_parts, false≢true, ltb-false, true≢false}
use Rattle.std.proofs.lemmas.List.{length-map}
use Rattle.flex_model.specs.declared.fault.FaultCode.TheVariants as code
use Rattle.flex_model.specs.declared.fault.InputFile.TheVariants.{Stops, StopTimes, Locations, LocationGroups, BookingRules}
use Rattle.flex_model.specs.declared.trip.Spot.TheVariants as spot
use Rattle.flex_model.specs.declared.trip.Timing.TheVariants as timing
use Rattle.flex_model.specs.declared.trip.Way.TheVariants.{No, Free, Book}
use Rattle.flex_model.specs.SoundFeed.{IsSoundRow, IsSoundSpot, IsSoundTiming, IsSoundWay}
use Rattle.feed_tables.specs.Refusals.{is_given}
use Rattle.field_text.specs.Grammars.{time}
use Rattle.feed_meaning.specs.FeedFaults.{Feature}
use Rattle.feed_meaning.specs.FeedLinks.{Tables, arrival, departure, is_before, is_end, is_station, is_timed, is_untimed, is_unknown, nearest_after, nearest_before}
use Rattle.feed_meaning.specs.FeedRules.{has_time, has_window, is_later}
use Rattle.feed_meaning.specs.FeedValue.{count_between, filled, filled_between, group_of, index_if_given, index_in, row_of, rule_of, seconds, spot_of, time_between, timing_of, way_of, zone_of}
use Rattle.feed_meaning.specs.Rules.{Values, given_count, is_bad, is_empty, is_text, stand}
use Rattle.feed_meaning.proofs.FieldBounds.{seconds_low, time_low}
use Rattle.feed_meaning.proofs.Kept.{is_kept}
use Rattle.feed_meaning.proofs.KeptFeeds.{KeepsFeedRules}
use Rattle.feed_meaning.proofs.NamedStops.{no_station_boards}
use Rattle.feed_meaning.proofs.RisingItems.{count_le}
use Rattle.feed_meaning.proofs.SoundLists.{feed, index_low, known}
use Rattle.feed_meaning.proofs.TripOrder.{before_transitive}

-- ---- times of day

-- what a search finds passes
pub find_passes : {X : Type 0} (p : X → Bool) (xs : List X) (x : X) → find p xs ≡ Some x → p x ≡ true
find_passes p [] x e = cc
find_passes p (y ∷ xs) x e = by (λ h. find_passes p xs x h) (p y) refl e
  where
    by : (find p xs ≡ Some x → p x ≡ true) → (b : Bool) → p y ≡ b → cond b (Some y) (find p xs) ≡ Some x → p x ≡ true
    by rest true is f = let same : y ≡ x = cc in ap p (sym same) ∙ is
    by rest false is f = rest f

-- a time of day, or 0
pub some_time : (o : Option ℕ) → ((n : ℕ) → o ≡ Some n → n < 604800) → unwrap_or o 0 < 604800
some_time None low = omega arith
some_time (Some n) low = low n refl

or-time : (a b : List ℕ) (n : ℕ) → option_or (time a) (time b) ≡ Some n → n < 604800
or-time a b n e = by (time a) refl e
  where
    by : (o : Option ℕ) → time a ≡ o → option_or o (time b) ≡ Some n → n < 604800
    by None is f = time_low b n f
    by (Some m) is f = time_low a n (is ∙ f)

pub arrival_low : (r : Values) → unwrap_or (arrival r) 0 < 604800
arrival_low r = some_time (arrival r) (λ n e. or-time (r "arrival_time") (r "departure_time") n e)

pub departure_low : (r : Values) → unwrap_or (departure r) 0 < 604800
departure_low r = some_time (departure r) (λ n e. or-time (r "departure_time") (r "arrival_time") n e)

-- a share of a length is no greater than it
pub share_low : (x k n : ℕ) → k ≤ n → 0 < n → x * k / n ≤ x
share_low x k n le some = div-le_of_le-mul n (let h = mul-le-mul_left x le in omega (arith, h))

pub between_low : (windowless : List Values) (former latter r : Values) → is_before r latter ≡ true
    → count_between windowless former r ≤ count_between windowless former latter
between_low windowless former latter r before = count_le (λ s. is_before former s && is_before s r) (λ s. is_before former s && is_before s latter) windowless
    (λ s h. weaker (is_before former s) (is_before s r) (is_before s latter) (λ e. before_transitive s r latter e before) h)
  where
    weaker : (a b c : Bool) → (b ≡ true → c ≡ true) → (a && b) ≡ true → (a && c) ≡ true
    weaker true b c imp h = imp h
    weaker false b c imp h = h

time_between_low : (windowless : List Values) (former latter r : Values) → is_before r latter ≡ true → time_between windowless former latter r < 604800
time_between_low windowless former latter r before =
    let leaves = unwrap_or (departure former) 0 in
    let arrives = unwrap_or (arrival latter) 0 in
    let k = count_between windowless former r in
    let n = count_between windowless former latter in
    let le : k ≤ n = between_low windowless former latter r before in
    let share = share_low (arrives - leaves) (k + 1) (n + 1) (omega arith) (omega arith) in
    let low_leaves = departure_low former in
    let low_arrives = arrival_low latter in
    omega (arith, share, low_leaves, low_arrives)

filled_between_low : (windowless : List Values) (former latter : Option Values) (r : Values) → ((l : Values) → latter ≡ Some l → is_before r l ≡ true)
    → filled_between windowless former latter r < 604800
filled_between_low windowless (Some former) (Some latter) r before = time_between_low windowless former latter r (before latter refl)
filled_between_low windowless (Some former) None r before = omega arith
filled_between_low windowless None latter r before = omega arith

-- the nearest timed record after one comes after it
pub nearest_after_is : (records : List Values) (r l : Values) → nearest_after records r ≡ Some l → is_before r l ≡ true
nearest_after_is records r l e =
    (and_parts (is_before r l) (not (list_any (λ b. is_before r b && is_before b l) records))
    (find_passes (λ a. is_before r a && not (list_any (λ b. is_before r b && is_before b a) records)) records l e)).0

pub nearest_before_is : (records : List Values) (r f : Values) → nearest_before records r ≡ Some f → is_before f r ≡ true
nearest_before_is records r f e =
    (and_parts (is_before f r) (not (list_any (λ b. is_before f b && is_before b r) records))
    (find_passes (λ a. is_before a r && not (list_any (λ b. is_before a b && is_before b r) records)) records f e)).0

pub filled_low : (stop_times : List Values) (r : Values) → filled stop_times r < 604800
filled_low stop_times r =
    let timed = filter is_timed stop_times in
    filled_between_low (filter (λ s. not (has_window s)) stop_times) (nearest_before timed r) (nearest_after timed r) r (nearest_after_is timed r)

-- ---- the rules at a record

-- what the rules say of a record of stop_times.txt
pub record KeptRecord (tables : Tables) (r : Values) : Type 0 where
  pub places : not (given_count (r "stop_id" ∷ r "location_group_id" ∷ r "location_id" ∷ []) == 1) ≡ false
  pub arrive : is_bad time (r "arrival_time") ≡ false
  pub depart : is_bad time (r "departure_time") ≡ false
  pub start : is_bad time (r "start_pickup_drop_off_window") ≡ false
  pub end : is_bad time (r "end_pickup_drop_off_window") ≡ false
  pub pair : (has_window r && (is_empty (r "start_pickup_drop_off_window") || is_empty (r "end_pickup_drop_off_window"))) ≡ false
  pub area : ((is_given (r "location_group_id") || is_given (r "location_id")) && not (has_window r)) ≡ false
  pub window_order : stand is_later (time (r "start_pickup_drop_off_window")) (time (r "end_pickup_drop_off_window")) ≡ false
  pub order : stand is_later (time (r "arrival_time")) (time (r "departure_time")) ≡ false
  pub stop : is_unknown tables Stops "stop_id" (r "stop_id") ≡ false
  pub station : (is_given (r "stop_id") && is_station tables (r "stop_id")) ≡ false
  pub group : is_unknown tables LocationGroups "location_group_id" (r "location_group_id") ≡ false
  pub zone : is_unknown tables Locations "id" (r "location_id") ≡ false
  pub pickup_rule : is_unknown tables BookingRules "booking_rule_id" (r "pickup_booking_rule_id") ≡ false
  pub untimed : (is_untimed r && is_end (tables StopTimes) r) ≡ false
  pub earlier : (is_timed r && stand is_later (option_and_then departure (nearest_before (filter is_timed (tables StopTimes)) r)) (arrival r)) ≡ false
  pub drop_off_rule : is_unknown tables BookingRules "booking_rule_id" (r "drop_off_booking_rule_id") ≡ false

pub kept_record : (tables : Tables) → KeepsFeedRules tables → (i : ℕ) (d : Values) → i < length (tables StopTimes) → KeptRecord tables (get_or (tables StopTimes) i d)
kept_record tables kept i d low =
    let r = get_or (tables StopTimes) i d in
    let alone = kept.stop_times.alone.at i d low in
    let linked = kept.stop_times.linked i d low in
    record {
      places = is_kept code.PlaceCount (not (given_count (r "stop_id" ∷ r "location_group_id" ∷ r "location_id" ∷ []) == 1)) (alone 4 None (lit< tt));
      arrive = is_kept code.BadTime (is_bad time (r "arrival_time")) (alone 5 None (lit< tt));
      depart = is_kept code.BadTime (is_bad time (r "departure_time")) (alone 6 None (lit< tt));
      start = is_kept code.BadTime (is_bad time (r "start_pickup_drop_off_window")) (alone 7 None (lit< tt));
      end = is_kept code.BadTime (is_bad time (r "end_pickup_drop_off_window")) (alone 8 None (lit< tt));
      pair = is_kept code.WindowPair (has_window r && (is_empty (r "start_pickup_drop_off_window") || is_empty (r "end_pickup_drop_off_window"))) (alone 11 None (lit< tt));
      area = is_kept code.WindowMissing ((is_given (r "location_group_id") || is_given (r "location_id")) && not (has_window r)) (alone 12 None (lit< tt));
      window_order = is_kept code.WindowOrder (stand is_later (time (r "start_pickup_drop_off_window")) (time (r "end_pickup_drop_off_window"))) (alone 14 None (lit< tt));
      order = is_kept code.TimeOrder (stand is_later (time (r "arrival_time")) (time (r "departure_time"))) (alone 17 None (lit< tt));
      stop = is_kept code.UnknownId (is_unknown tables Stops "stop_id" (r "stop_id")) (linked 1 None (lit< tt));
      station = is_kept code.BadStopKind (is_given (r "stop_id") && is_station tables (r "stop_id")) (linked 2 None (lit< tt));
      group = is_kept code.UnknownId (is_unknown tables LocationGroups "location_group_id" (r "location_group_id")) (linked 3 None (lit< tt));
      zone = is_kept code.UnknownId (is_unknown tables Locations "id" (r "location_id")) (linked 4 None (lit< tt));
      pickup_rule = is_kept code.UnknownId (is_unknown tables BookingRules "booking_rule_id" (r "pickup_booking_rule_id")) (linked 5 None (lit< tt));
      untimed = is_kept code.UntimedEnd (is_untimed r && is_end (tables StopTimes) r) (linked 7 None (lit< tt));
      earlier = is_kept code.TimeOrder (is_timed r && stand is_later (option_and_then departure (nearest_before (filter is_timed (tables StopTimes)) r)) (arrival r)) (linked 8 None (lit< tt));
      drop_off_rule = is_kept code.UnknownId (is_unknown tables BookingRules "booking_rule_id" (r "drop_off_booking_rule_id")) (linked 6 None (lit< tt));
    }

-- of three places one is given
only_stop : (a b c : Bool) → not ((0 + cond a 1 0 + cond b 1 0 + cond c 1 0) == 1) ≡ false → (b || c) ≡ false → a ≡ true
only_stop true b c one none = refl
only_stop false true c one none = absurd (true≢false none)
only_stop false false true one none = absurd (true≢false none)
only_stop false false false one none = absurd (true≢false one)

last_place : (a b c : Bool) → not ((0 + cond a 1 0 + cond b 1 0 + cond c 1 0) == 1) ≡ false → a ≡ false → b ≡ false → c ≡ true
last_place true b c one na nb = absurd (true≢false na)
last_place false true c one na nb = absurd (true≢false nb)
last_place false false true one na nb = refl
last_place false false false one na nb = absurd (true≢false one)

-- the times of a record, one of which stands for both, don't fall
times-rise : (o o' : Option ℕ) → stand is_later o o' ≡ false → unwrap_or (option_or o o') 0 ≤ unwrap_or (option_or o' o) 0
times-rise None None kept = omega arith
times-rise None (Some n) kept = omega arith
times-rise (Some m) None kept = omega arith
times-rise (Some m) (Some n) kept = ltb-false n m kept

pub own_times_rise : (tables : Tables) (r : Values) → KeptRecord tables r → unwrap_or (arrival r) 0 ≤ unwrap_or (departure r) 0
own_times_rise tables r kept = times-rise (time (r "arrival_time")) (time (r "departure_time")) kept.order

-- the ends of a window
windows-rise : (a b : List ℕ) (o o' : Option ℕ) → time a ≡ o → time b ≡ o' → is_given a ≡ true → is_given b ≡ true → (is_given a && is_none o) ≡ false → (is_given b && is_none o') ≡ false
    → stand is_later o o' ≡ false → unwrap_or o 0 ≤ unwrap_or o' 0
windows-rise a b None o' is is' ga gb ka kb kept = absurd (true≢false (sym (ap (λ g. g && true) ga) ∙ ka))
windows-rise a b (Some m) None is is' ga gb ka kb kept = absurd (true≢false (sym (ap (λ g. g && true) gb) ∙ kb))
windows-rise a b (Some m) (Some n) is is' ga gb ka kb kept = ltb-false n m kept

both-given : (w a b : Bool) → w ≡ true → (w && (not a || not b)) ≡ false → (a ≡ true) × (b ≡ true)
both-given true true true e kept = (refl, refl)
both-given true true false e kept = absurd (true≢false kept)
both-given true false b e kept = absurd (true≢false kept)
both-given false a b e kept = absurd (false≢true e)

pub window_rises : (tables : Tables) (r : Values) → KeptRecord tables r → has_window r ≡ true → seconds (r "start_pickup_drop_off_window") ≤ seconds (r "end_pickup_drop_off_window")
window_rises tables r kept window =
    let a = r "start_pickup_drop_off_window" in
    let b = r "end_pickup_drop_off_window" in
    let given = both-given (has_window r) (is_given a) (is_given b) window kept.pair in
    windows-rise a b (time a) (time b) refl refl given.0 given.1 kept.start kept.end kept.window_order

module _ (tables : Tables) (features : List Feature) (kept : KeepsFeedRules tables) (same : length (tables Locations) ≡ length features) where
  sound-spot : (r : Values) → KeptRecord tables r → IsSoundSpot (feed tables features kept) (spot_of tables r)
  sound-spot r k = by (is_given (r "stop_id")) (is_given (r "location_group_id")) refl refl
    where
      by : (a b : Bool) → is_given (r "stop_id") ≡ a → is_given (r "location_group_id") ≡ b → IsSoundSpot (feed tables features kept)
          (if a then spot.Stop (index_in tables Stops "stop_id" (r "stop_id"))
          else if b then spot.Group (index_in tables LocationGroups "location_group_id" (r "location_group_id"))
          else spot.Zone (index_in tables Locations "id" (r "location_id")))
      by true b ea eb =
          let here = known tables Stops "stop_id" (r "stop_id") ea k.stop in
          no_station_boards tables features kept (r "stop_id") here (sym (ap (λ g. g && is_station tables (r "stop_id")) ea) ∙ k.station)
      by false true ea eb =
          let low = index_low tables LocationGroups "location_group_id" (r "location_group_id") (known tables LocationGroups "location_group_id" (r "location_group_id") eb k.group) in
          let size = length-map (tables LocationGroups) (group_of tables) in
          omega (arith, low, size)
      by false false ea eb =
          let given = last_place (is_given (r "stop_id")) (is_given (r "location_group_id")) (is_given (r "location_id")) k.places ea eb in
          let low = index_low tables Locations "id" (r "location_id") (known tables Locations "id" (r "location_id") given k.zone) in
          let size = length-map features (zone_of (feed tables features kept).stops) in
          omega (arith, low, size, same)

  names-stop : (r : Values) → is_given (r "stop_id") ≡ true → (s : ℕ) × (spot_of tables r ≡ spot.Stop s)
  names-stop r given = (
    index_in tables Stops "stop_id" (r "stop_id"),
    ap (λ b. if b then spot.Stop (index_in tables Stops "stop_id" (r "stop_id"))
        else if is_given (r "location_group_id") then spot.Group (index_in tables LocationGroups "location_group_id" (r "location_group_id"))
        else spot.Zone (index_in tables Locations "id" (r "location_id"))) given,
  )

  -- a record without window names a stop
  windowless_stop : (r : Values) → KeptRecord tables r → has_window r ≡ false → is_given (r "stop_id") ≡ true
  windowless_stop r k none =
      only_stop (is_given (r "stop_id")) (is_given (r "location_group_id")) (is_given (r "location_id")) k.places
      (no-area (is_given (r "location_group_id") || is_given (r "location_id")) (has_window r) none k.area)
    where
      no-area : (a w : Bool) → w ≡ false → (a && not w) ≡ false → a ≡ false
      no-area false w e f = refl
      no-area true false e f = absurd (true≢false f)
      no-area true true e f = absurd (true≢false e)

  sound-timing : (r : Values) → KeptRecord tables r → IsSoundTiming (spot_of tables r) (timing_of tables r)
  sound-timing r k = by (has_window r) (has_time r) refl
    where
      by : (w t : Bool) → has_window r ≡ w → IsSoundTiming (spot_of tables r)
          (if w then timing.Window (seconds (r "start_pickup_drop_off_window")) (seconds (r "end_pickup_drop_off_window"))
          else if t then timing.Times (unwrap_or (arrival r) 0) (unwrap_or (departure r) 0)
          else timing.Times (filled (tables StopTimes) r) (filled (tables StopTimes) r))
      by true t e = (window_rises tables r k e, seconds_low (r "end_pickup_drop_off_window"))
      by false true e = (names-stop r (windowless_stop r k e), own_times_rise tables r k, departure_low r)
      by false false e = (names-stop r (windowless_stop r k e), omega arith, filled_low (tables StopTimes) r)

  sound-rule : (text : List ℕ) → is_unknown tables BookingRules "booking_rule_id" text ≡ false
      → IfSome (index_if_given (index_in tables BookingRules "booking_rule_id") text) (λ s. s < length (feed tables features kept).rules)
  sound-rule [] k = tt
  sound-rule (b ∷ text) k =
      let low = index_low tables BookingRules "booking_rule_id" (b ∷ text) (known tables BookingRules "booking_rule_id" (b ∷ text) refl k) in
      let size = length-map (tables BookingRules) (rule_of tables) in
      omega (arith, low, size)

  sound-way : (windowed : Bool) (kind rule : List ℕ) → is_unknown tables BookingRules "booking_rule_id" rule ≡ false → IsSoundWay (feed tables features kept) (way_of tables windowed kind rule)
  sound-way windowed kind rule k = by (is_text kind "1") (is_text kind "2" || (is_empty kind && windowed))
    where
      by : (a b : Bool) → IsSoundWay (feed tables features kept) (if a then No else if b then Book (index_if_given (index_in tables BookingRules "booking_rule_id") rule) else Free)
      by true b = tt
      by false true = sound-rule rule k
      by false false = tt

  pub row_sound : (r : Values) → KeptRecord tables r → IsSoundRow (feed tables features kept) (row_of tables r)
  row_sound r k = record {
    «spot» = sound-spot r k;
    timing = sound-timing r k;
    pickup = sound-way (has_window r) (r "pickup_type") (r "pickup_booking_rule_id") k.pickup_rule;
    drop_off = sound-way (has_window r) (r "drop_off_type") (r "drop_off_booking_rule_id") k.drop_off_rule;
  }
