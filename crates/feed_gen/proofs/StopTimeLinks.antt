-- The stop times break no rule beside the other files.
use Rattle.std.proofs.Common.{◌≡◌, ◌<◌, ◌≤◌, ◌+◌, ◌/◌, ◌%◌, ◌∙◌, ℕ, Bool, true, false, List, Option, None, Some, arith, ap, map, refl}
use Rattle.std.specs.Prelude.{◌&&◌, ◌||◌, filter, nat_lt, not}
use Rattle.std.specs.List.{list_all, list_any}
use Rattle.std.specs.Option.{option_and_then, option_map_or}
use Rattle.std.specs.Str.{bytes_eq}
use Rattle.std.proofs.lemmas.Bool.{le-ltb}
use Rattle.std.proofs.lemmas.Bool.Decides.{nat_tests}
use Rattle.std.proofs.lemmas.List.Folds.{list_all-append}
use Rattle.flex_model.specs.declared.fault.InputFile.TheVariants.{StopTimes, Stops, Trips}
use Rattle.feed_meaning.specs.FeedLinks.{arrival, departure, falls_back, is_before, is_in, is_station, is_timed, nearest_before, stop_time_links}
use Rattle.feed_meaning.specs.FeedRules.{is_later}
use Rattle.feed_meaning.specs.Rules.{Values, stand}
use Rattle.feed_gen.specs.Draws.{pick}
use Rattle.feed_gen.specs.Ids.{stop_id, trip_id}
use Rattle.feed_gen.specs.StopTimesText.{seconds_at, stop_of, zone_stop_times}
use Rattle.feed_gen.specs.Texts.{below}
use Rattle.feed_gen.proofs.Checks.{all-below, checked}
use Rattle.feed_gen.proofs.CleanTables.{Clean}
use Rattle.feed_gen.proofs.DemoTables.{demo_tables, values_in}
use Rattle.feed_gen.proofs.LinkedTables.{AreLinked, found-passes, kept-pass, linked-append, linked-indexed}
use Rattle.feed_gen.proofs.PlainFields.{and-left, and-right}
use Rattle.feed_gen.proofs.SmallTables.{demo_on_literals}
use Rattle.feed_gen.proofs.StopTimeFacts.{sequence-read, stop-bound, time-given, time-read, trip_at}
use Rattle.feed_gen.proofs.StopTimeTable.{fixed_at, one_trip, stop_time, trip-place}

-- ---- what is named is there

trips-known : (number : ℕ) → list_all (λ t. is_in (demo_tables number) Trips "trip_id" (trip_at t)) (below 240) ≡ true
unfolding demo_on_literals values_in
trips-known number = refl

trip-known : (number i : ℕ) → i < 1920 → is_in (demo_tables number) Trips "trip_id" (trip_id (i / 192) (i / 8 % 24)) ≡ true
trip-known number i low =
    ap (is_in (demo_tables number) Trips "trip_id") (trip-place i)
    ∙ checked (λ t. is_in (demo_tables number) Trips "trip_id" (trip_at t)) 240 (trips-known number) (i / 8) (omega arith)

stops-known : (number : ℕ) → list_all (λ s. is_in (demo_tables number) Stops "stop_id" (stop_id s)) (below 40) ≡ true
unfolding demo_on_literals values_in
stops-known number = refl

stops-board : (number : ℕ) → list_all (λ s. not (is_station (demo_tables number) (stop_id s))) (below 40) ≡ true
unfolding demo_on_literals values_in
stops-board number = refl

not-true : (b : Bool) → not b ≡ true → b ≡ false
not-true true e = cc e
not-true false e = refl

-- ---- no trip goes back in time

-- a record leaves no later than r arrives
abbrev in_time : Values → Values → Bool
in_time r a = not (stand is_later (departure a) (arrival r))

-- the records of trips at places, in the order of their sequence
earlier-leaves : (number i j : ℕ) → i < 1920 → j < 1920 → bytes_eq (trip_id (j / 192) (j / 8 % 24)) (trip_id (i / 192) (i / 8 % 24)) ≡ true
    → nat_lt (j % 8) (i % 8) ≡ true
    → seconds_at number (j / 192) (j / 8 % 24) (j % 8) ≤ seconds_at number (i / 192) (i / 8 % 24) (i % 8)
unfolding seconds_at
earlier-leaves number i j low low' trip before =
    let same : j / 8 ≡ i / 8 = one_trip j i low' low trip in
    let route : j / 192 ≡ i / 192 = omega arith in
    let minute : pick number (500 + j / 192) 30 ≡ pick number (500 + i / 192) 30 = ap (λ l. pick number (500 + l) 30) route in
    let less : j % 8 < i % 8 = lt (j % 8) (i % 8) before in
    omega (arith, same, minute, less)
  where
    lt : (a b : ℕ) → nat_lt a b ≡ true → a < b
    lt a b e = grind (arith, nat_tests)

-- a record before another one in its trip leaves in time
pair-in-time : (number i j : ℕ) → i < 1920 → j < 1920 → is_before (stop_time (fixed_at number j)) (stop_time (fixed_at number i)) ≡ true
    → in_time (stop_time (fixed_at number i)) (stop_time (fixed_at number j)) ≡ true
pair-in-time number i j low low' before =
    let s = time-read number (i / 192) (i / 8 % 24) (i % 8) (omega arith) (omega arith) in
    let s' = time-read number (j / 192) (j / 8 % 24) (j % 8) (omega arith) (omega arith) in
    let own : (bytes_eq (trip_id (j / 192) (j / 8 % 24)) (trip_id (i / 192) (i / 8 % 24)) && nat_lt (j % 8) (i % 8)) ≡ true =
    rw (sequence-read (i % 8) (omega arith), sequence-read (j % 8) (omega arith)) at before in
    let le = earlier-leaves number i j low low' (and-left _ _ own)
    (and-right (bytes_eq (trip_id (j / 192) (j / 8 % 24)) (trip_id (i / 192) (i / 8 % 24))) (nat_lt (j % 8) (i % 8)) own) in
    rw (s, s', le-ltb (seconds_at number (i / 192) (i / 8 % 24) (i % 8)) (seconds_at number (j / 192) (j / 8 % 24) (j % 8)) le) refl

implied : (b c d : Bool) → (b ≡ true → d ≡ true) → (not (b && c) || d) ≡ true
implied true true d h = h refl
implied true false d h = refl
implied false c d h = refl

and-false : (a b : Bool) → b ≡ false → (a && b) ≡ false
and-false true b e = e
and-false false b e = refl

late-none : (r : Values) (o : Option Values) → option_map_or (in_time r) o true ≡ true → stand is_later (option_and_then departure o) (arrival r) ≡ false
late-none r None e = refl
late-none r (Some a) e = not-true (stand is_later (departure a) (arrival r)) e

-- the nearest timed record before one leaves in time
nearest-in-time : (number i : ℕ) → i < 1920
    → option_map_or (in_time (stop_time (fixed_at number i))) (nearest_before (filter is_timed (demo_tables number StopTimes)) (stop_time (fixed_at number i))) true ≡ true
nearest-in-time number i low =
    found-passes wanted (in_time r) timed
    (kept-pass (λ a. not (wanted a) || in_time r a) is_timed (demo_tables number StopTimes)
    (list_all-append (λ a. not (wanted a) || in_time r a) (map (λ j. stop_time (fixed_at number j)) (below 1920)) (map stop_time zone_stop_times)
    ∙ rw (all-below (λ a. not (wanted a) || in_time r a) (λ j. stop_time (fixed_at number j)) 1920
    (λ j low'. implied (is_before (stop_time (fixed_at number j)) r) (not (between (stop_time (fixed_at number j)))) (in_time r (stop_time (fixed_at number j)))
    (pair-in-time number i j low low')))
    refl))
  where
    r : Values
    r = stop_time (fixed_at number i)

    timed : List Values
    timed = filter is_timed (demo_tables number StopTimes)

    between : Values → Bool
    between a = list_any (λ b. is_before a b && is_before b r) timed

    wanted : Values → Bool
    wanted a = is_before a r && not (between a)

not-back : (number i : ℕ) → i < 1920 → falls_back (demo_tables number) (stop_time (fixed_at number i)) ≡ false
not-back number i low =
    and-false (is_timed (stop_time (fixed_at number i)))
    (stand is_later (option_and_then departure (nearest_before (filter is_timed (demo_tables number StopTimes)) (stop_time (fixed_at number i))))
    (arrival (stop_time (fixed_at number i))))
    (late-none (stop_time (fixed_at number i)) (nearest_before (filter is_timed (demo_tables number StopTimes)) (stop_time (fixed_at number i)))
    (nearest-in-time number i low))

-- ---- the records

fixed-linked : (number i : ℕ) → i < 1920 → Clean (stop_time_links (demo_tables number) (stop_time (fixed_at number i)))
fixed-linked number i low =
    let stop : ℕ = stop_of number (i / 192) (i % 8) in
    let few : stop < 40 = stop-bound number (i / 192) (i % 8) in
    let known = checked (λ s. is_in (demo_tables number) Stops "stop_id" (stop_id s)) 40 (stops-known number) stop few in
    let boards = not-true (is_station (demo_tables number) (stop_id stop)) (checked (λ s. not (is_station (demo_tables number) (stop_id s))) 40 (stops-board number) stop few) in
    rw (not-back number i low, trip-known number i low, known, boards, time-given (seconds_at number (i / 192) (i / 8 % 24) (i % 8))) refl

zone-linked : (number : ℕ) → AreLinked (stop_time_links (demo_tables number)) (map stop_time zone_stop_times)
unfolding demo_on_literals values_in
zone-linked number = (refl, (refl, (refl, (refl, tt))))

pub stop_times-linked : (number : ℕ) → AreLinked (stop_time_links (demo_tables number)) (demo_tables number StopTimes)
stop_times-linked number =
    linked-append (stop_time_links (demo_tables number)) (map (λ i. stop_time (fixed_at number i)) (below 1920)) (map stop_time zone_stop_times)
    (linked-indexed (stop_time_links (demo_tables number)) (λ i. stop_time (fixed_at number i)) 1920 (fixed-linked number))
    (zone-linked number)
