-- The texts are far below their limits.
use Rattle.std.proofs.Common.{◌≡◌, ◌<◌, ◌≤◌, ◌+◌, ◌*◌, ◌/◌, ◌%◌, ◌∙◌, ℕ, Bool, true, false, List, [], ◌∷◌, arith, ap, length, length-append, map, refl}
use Rattle.std.specs.Prelude.{codes, nat_le, nat_lt}
use Rattle.std.specs.List.{list_all}
use Rattle.std.specs.Fmt.{decimal, digits}
use Rattle.std.proofs.lemmas.Bool.{le-ltb}
use Rattle.std.proofs.lemmas.Bool.Decides.{nat_tests}
use Rattle.std.proofs.lemmas.List.Folds.{list_all-append}
use Rattle.feed_gen.specs.Draws.{pick}
use Rattle.feed_gen.specs.Ids.{point_id, query_id, stop_id, trip_id}
use Rattle.feed_gen.specs.QueriesText.{depart_text, now_text, queries_text, query_columns, query_record, query_records}
use Rattle.feed_gen.specs.StopTimesText.{seconds_at, stop_of, stop_time_columns, stop_time_records, stop_times_text, time_text, zone_stop_times}
use Rattle.feed_gen.specs.Texts.{below, lines, record_line, table_text}
use Rattle.feed_gen.proofs.Checks.{all-below, checked}
use Rattle.feed_gen.proofs.PlainFields.{and-left, and-right}
use Rattle.feed_gen.proofs.QueryTable.{count-queries, destination-bound, queries-ordered, origin-bound}
use Rattle.feed_gen.proofs.StopTimeFacts.{stop-bound, trip_at}
use Rattle.feed_gen.proofs.StopTimeTable.{count-records, fixed_at, stop_times-ordered, trip-place}

abbrev is_short : List (List ℕ) → Bool
is_short fields = nat_le (length (record_line fields)) 100

to-le : (a b : ℕ) → nat_le a b ≡ true → a ≤ b
to-le a b e = grind (arith, nat_tests)

from-le : (a b : ℕ) → a ≤ b → nat_le a b ≡ true
from-le a b e = grind (arith, nat_tests)

short-lines : (rows : List (List (List ℕ))) → list_all is_short rows ≡ true → length (lines rows) ≤ 100 * length rows
unfolding lines
short-lines [] short = omega arith
short-lines (r ∷ rows) short =
    let own : length (record_line r) ≤ 100 = to-le (length (record_line r)) 100 (and-left (is_short r) (list_all is_short rows) short) in
    let rest = short-lines rows (and-right (is_short r) (list_all is_short rows) short) in
    omega (arith, own, rest, length-append (record_line r) (lines rows))

-- ---- stop times

line-length : (trip place stop time : List ℕ)
    → length (record_line (trip ∷ place ∷ stop ∷ [] ∷ time ∷ time ∷ [] ∷ [] ∷ [] ∷ [] ∷ [] ∷ [] ∷ []))
    ≡ length trip + length place + length stop + length time + length time + 12
line-length trip place stop time = simp length-append (omega arith)

trips-short : list_all (λ t. nat_le (length (trip_at t)) 8) (below 240) ≡ true
unfolding digits below
trips-short = refl

stops-short : list_all (λ s. nat_le (length (stop_id s)) 8) (below 40) ≡ true
unfolding digits below
stops-short = refl

points-short : list_all (λ p. nat_le (length (point_id p)) 8) (below 10) ≡ true
unfolding digits below
points-short = refl

numbers-short : list_all (λ v. nat_le (length (decimal v)) 8) (below 10) ≡ true
unfolding digits below
numbers-short = refl

queries-short : list_all (λ i. nat_le (length (query_id i)) 8) (below 10) ≡ true
unfolding digits below
queries-short = refl

number-short : (v : ℕ) → v < 10 → length (decimal v) ≤ 8
number-short v low = to-le (length (decimal v)) 8 (checked (λ v. nat_le (length (decimal v)) 8) 10 numbers-short v low)

stop-short : (s : ℕ) → s < 40 → length (stop_id s) ≤ 8
stop-short s low = to-le (length (stop_id s)) 8 (checked (λ s. nat_le (length (stop_id s)) 8) 40 stops-short s low)

time-short : (s : ℕ) → length (time_text s) ≡ 8
unfolding time_text
time-short s = refl

fixed-short : (number i : ℕ) → i < 1920 → is_short (fixed_at number i) ≡ true
fixed-short number i low =
    let trip : length (trip_id (i / 192) (i / 8 % 24)) ≤ 8 =
    to-le (length (trip_id (i / 192) (i / 8 % 24))) 8
    (ap (λ text. nat_le (length text) 8) (trip-place i) ∙ checked (λ t. nat_le (length (trip_at t)) 8) 240 trips-short (i / 8) (omega arith)) in
    let stop = stop-short (stop_of number (i / 192) (i % 8)) (stop-bound number (i / 192) (i % 8)) in
    let place = number-short (i % 8) (omega arith) in
    let time = time-short (seconds_at number (i / 192) (i / 8 % 24) (i % 8)) in
    let whole = line-length (trip_id (i / 192) (i / 8 % 24)) (decimal (i % 8)) (stop_id (stop_of number (i / 192) (i % 8)))
    (time_text (seconds_at number (i / 192) (i / 8 % 24) (i % 8))) in
    from-le (length (record_line (fixed_at number i))) 100 (omega (arith, trip, stop, place, time, whole))

stop_times-short : (number : ℕ) → list_all is_short (stop_time_records number) ≡ true
stop_times-short number =
    ap (list_all is_short) (stop_times-ordered number)
    ∙ list_all-append is_short (map (fixed_at number) (below 1920)) zone_stop_times
    ∙ rw (all-below is_short (fixed_at number) 1920 (fixed-short number)) refl

header-short : length (record_line (map codes stop_time_columns)) ≤ 1000
header-short = omega arith

pub stop_times-limit : (number : ℕ) → nat_lt 268435456 (length (stop_times_text number)) ≡ false
unfolding stop_times_text table_text
stop_times-limit number =
    le-ltb 268435456 (length (stop_times_text number))
    (omega (
      arith,
      short-lines (stop_time_records number) (stop_times-short number),
      count-records number,
      length-append (record_line (map codes stop_time_columns)) (lines (stop_time_records number)),
      header-short,
    ))

-- ---- queries

query-length : (a b c d e f g : List ℕ)
    → length (record_line (a ∷ b ∷ c ∷ d ∷ e ∷ f ∷ g ∷ [])) ≡ length a + length b + length c + length d + length e + length f + length g + 7
query-length a b c d e f g = simp length-append (omega arith)

departs-short : list_all (λ k. nat_le (length (depart_text k)) 20) (below 3) ≡ true
unfolding digits below depart_text
departs-short = refl

now-short : length now_text ≡ 20
unfolding now_text
now-short = refl

query-short : (number i : ℕ) → i < 6 → is_short (query_record number i) ≡ true
query-short number i low =
    let origin : ℕ = pick number (900 + i) 10 in
    let destination : ℕ = pick number (920 + i) 40 in
    let a = to-le (length (query_id i)) 8 (checked (λ i. nat_le (length (query_id i)) 8) 10 queries-short i (omega arith)) in
    let b = to-le (length (point_id origin)) 8 (checked (λ p. nat_le (length (point_id p)) 8) 10 points-short origin (origin-bound number i)) in
    let c = stop-short destination (destination-bound number i) in
    let d = to-le (length (depart_text (i % 3))) 20 (checked (λ k. nat_le (length (depart_text k)) 20) 3 departs-short (i % 3) (omega arith)) in
    let f = number-short (i % 3) (omega arith) in
    let whole = query-length (query_id i) (point_id origin) (stop_id destination) (depart_text (i % 3)) now_text (decimal (i % 3)) (codes "120") in
    from-le (length (record_line (query_record number i))) 100 (omega (arith, a, b, c, d, f, now-short, whole))

queries-lines-short : (number : ℕ) → list_all is_short (query_records number) ≡ true
queries-lines-short number = ap (list_all is_short) (queries-ordered number) ∙ all-below is_short (query_record number) 6 (query-short number)

query-header-short : length (record_line (map codes query_columns)) ≤ 1000
query-header-short = omega arith

pub queries-limit : (number : ℕ) → nat_lt 67108864 (length (queries_text number)) ≡ false
unfolding queries_text table_text
queries-limit number =
    le-ltb 67108864 (length (queries_text number))
    (omega (
      arith,
      short-lines (query_records number) (queries-lines-short number),
      count-queries number,
      length-append (record_line (map codes query_columns)) (lines (query_records number)),
      query-header-short,
    ))
