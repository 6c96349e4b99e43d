-- What the words of a line tell. Words that are no line of the kind tell nothing.
use Rattle.std.specs.Prelude.{ℕ, ℤ, ◌-◌, ◌^◌, ◌==◌, Bool, true, false, not, ◌&&◌, ◌||◌, if◌then◌else◌, nat_lt}
use Rattle.std.specs.Prelude.{List, [], ◌∷◌, length, Option, Some, None, codes, position, slice_get}
use Rattle.std.specs.List.{list_any}
use Rattle.std.specs.Option.{option_map, option_map_or}
use Rattle.std.specs.Str.{bytes_eq}
use Rattle.bound_cert.specs.declared.cert.CertLabel.{CertLabel}
use Rattle.bound_cert.specs.declared.ride_values.Stretch.{Stretch}
use Rattle.field_text.specs.Grammars.{date, moment, some_if}
use Rattle.flex_model.specs.declared.answer.Triple.{Triple}
use Rattle.flex_model.specs.declared.feed.Feed.{Feed}
use Rattle.flex_model.specs.declared.moment.Deadline.{Deadline}
use Rattle.flex_model.specs.declared.place.Place.{Place}
use Rattle.flex_model.specs.declared.ride.Ride.{Ride}
use Rattle.flex_model.specs.declared.times.Times.{Times}
use Rattle.flex_model.specs.declared.trip.Row.{Row}
use Rattle.flex_model.specs.declared.trip.Trip.{Trip}
use Rattle.query_io.specs.Lines.{deadline_in, id_in, number_in, place_in, trip_in}

infixl 10 ◌>>=◌
abbrev pub ◌>>=◌ : {A B : Type 0} → Option A → (A → Option B) → Option B
(Some x) >>= f = f x
None >>= f = None

-- a number up to 2^64 - 1
abbrev pub count_in : List ℕ → Option ℕ
count_in text = number_in (2 ^ 64 - 1) text

-- a number of 32 bits
abbrev pub small_in : List ℕ → Option ℕ
small_in text = number_in 4294967295 text

-- whether there is a stop or a point
abbrev pub has_place : Feed → Times → Bool
has_place feed times = nat_lt 0 (length feed.stops) || nat_lt 0 (length times.points)

-- whether some trip has a record
abbrev pub has_record : List Trip → Bool
has_record trips = list_any (λ trip. nat_lt 0 (length trip.rows)) trips

-- whether there is a ride to print: there is a place, and a trip has a record
abbrev pub has_ride : Feed → Times → Bool
has_ride feed times = has_place feed times && has_record feed.trips

-- ---- last words, that not every line has

-- the word walking of a query that asks for walking
abbrev pub walking_in : List (List ℕ) → Option Bool
walking_in [] = Some false
walking_in (word ∷ []) = if bytes_eq word (codes "walking") then Some true else None
walking_in (word ∷ other ∷ words) = None

-- the walk, where the query asks for walking
abbrev pub walk_in : Bool → List (List ℕ) → Option ℕ
walk_in false [] = Some 0
walk_in false (word ∷ words) = None
walk_in true [] = None
walk_in true (word ∷ []) = small_in word
walk_in true (word ∷ other ∷ words) = None

-- the start of a ride, where frequencies.txt names its trip
abbrev pub start_in : Bool → List (List ℕ) → Option (Option ℕ)
start_in false [] = Some None
start_in false (word ∷ words) = None
start_in true [] = None
start_in true (word ∷ []) = option_map Some (small_in word)
start_in true (word ∷ other ∷ words) = None

-- ---- lines

-- the version of a certificate: whether some part asks for walking
abbrev pub version_in : List ℕ → Option Bool
version_in text =
    if bytes_eq text (codes "1") then Some false
    else if bytes_eq text (codes "2") then Some true else None

-- the version and the count of these parts, where both are there and the count isn't 0 where some
-- part asks
abbrev pub heading_from : Option Bool → Option ℕ → Option (Bool × ℕ)
heading_from version count =
    version >>= λ two. count >>= λ n. some_if (not two || nat_lt 0 n) (two, n)

-- flexcert VERSION COUNT: whether some part asks for walking, and the count
unfoldable pub heading_in : List (List ℕ) → Option (Bool × ℕ)
heading_in (kind ∷ version ∷ count ∷ []) =
    if bytes_eq kind (codes "flexcert")
    then heading_from (version_in version) (count_in count) else None
heading_in words = None

-- whether a query may ask for walking, or not ask
abbrev pub is_allowed : Bool → Bool → Bool → Bool
is_allowed may_ask may_not walking = if walking then may_ask else may_not

-- the parts of a query line, where they are there and allowed; no count but 0 where there is no
-- ride to print
abbrev pub query_from : Bool → Bool → Bool → List ℕ → Option ℕ → Option Bool
    → Option (List ℕ × (Bool × ℕ))
query_from may_ask may_not rides id count walking =
    count >>= λ n. walking >>= λ w.
    some_if (is_allowed may_ask may_not w && ((n == 0) || rides)) (id, (w, n))

-- the escaped id of a query line, whether it asks, and its count
unfoldable pub query_words_in : Bool → Bool → Bool → List (List ℕ) → Option (List ℕ × (Bool × ℕ))
query_words_in may_ask may_not rides (kind ∷ id ∷ count ∷ last) =
    if bytes_eq kind (codes "query")
    then query_from may_ask may_not rides id (count_in count) (walking_in last) else None
query_words_in may_ask may_not rides words = None

-- query ID COUNT, and the word walking: the id, whether it asks for walking, and the count
abbrev pub query_in : Bool → Bool → Bool → List (List ℕ) → Option (List ℕ × (Bool × ℕ))
query_in may_ask may_not rides words =
    query_words_in may_ask may_not rides words >>= λ x. id_in x.0 >>= λ id. Some (id, x.1)

-- the triple of these parts, where all are there
abbrev pub triple_from : Option Deadline → Option ℤ → Option ℕ → Option ℕ → Option Triple
triple_from deadline arrival transfers walk =
    deadline >>= λ d. arrival >>= λ a. transfers >>= λ t. walk >>= λ w.
    Some (record { deadline = d; arrival = a; transfers = t; walk = w })

-- journey DEADLINE ARRIVAL TRANSFERS, and WALK
unfoldable pub triple_in : Bool → List (List ℕ) → Option Triple
triple_in walking (kind ∷ deadline ∷ arrival ∷ transfers ∷ last) =
    if bytes_eq kind (codes "journey")
    then triple_from (deadline_in deadline) (moment 1980 2209 arrival) (number_in 7 transfers)
    (walk_in walking last) else None
triple_in walking words = None

-- the record of a trip with this stop_sequence
abbrev pub row_in : List Row → List ℕ → Option ℕ
row_in rows text = small_in text >>= λ n. position (λ row. row.sequence == n) rows

-- the records of a trip
abbrev pub rows_of : Feed → ℕ → List Row
rows_of feed trip = option_map_or (λ t. t.rows) (slice_get feed.trips trip) []

-- whether frequencies.txt names a trip
abbrev pub is_frequent : Feed → ℕ → Bool
is_frequent feed trip = option_map_or (λ t. t.frequent) (slice_get feed.trips trip) false

-- the places and moments of these parts, where all are there
abbrev pub stretch_from : Option Place → Option Place → Option ℤ → Option ℤ → Option Stretch
stretch_from board alight departs arrives =
    board >>= λ b. alight >>= λ a. departs >>= λ m. arrives >>= λ n.
    Some (record { board = b; alight = a; departs = m; arrives = n })

-- the ride on a trip of these parts, where all are there
abbrev pub ride_along : ℕ → Option ℤ → Option ℕ → Option ℕ → Option Stretch → Option (Option ℕ)
    → Option Ride
ride_along trip day from to stretch start =
    day >>= λ d. from >>= λ f. to >>= λ o. stretch >>= λ x. start >>= λ s.
    Some (record {
      trip = trip;
      day = d;
      start = s;
      from_row = f;
      to_row = o;
      board = x.board;
      alight = x.alight;
      departs = x.departs;
      arrives = x.arrives;
    })

-- ride TRIP DATE FROM TO PLACE PLACE DEPARTS ARRIVES, and START
unfoldable pub ride_in : Feed → Times → List (List ℕ) → Option Ride
ride_in feed times
    (kind ∷ trip ∷ day ∷ from ∷ to ∷ board ∷ alight ∷ departs ∷ arrives ∷ last) =
    if bytes_eq kind (codes "ride")
    then (trip_in feed trip >>= λ t.
    ride_along t (date day) (row_in (rows_of feed t) from) (row_in (rows_of feed t) to)
    (stretch_from (place_in feed times board) (place_in feed times alight)
    (moment 1980 2209 departs) (moment 1980 2209 arrives))
    (start_in (is_frequent feed t) last))
    else None
ride_in feed times words = None

-- rounds COUNT
unfoldable pub round_count_in : List (List ℕ) → Option ℕ
round_count_in (kind ∷ count ∷ []) =
    if bytes_eq kind (codes "rounds") then count_in count else None
round_count_in words = None

-- the count of a round's line, where the number is this K; no count but 0 where there is no place
abbrev pub label_count_from : ℕ → Bool → Option ℕ → Option ℕ → Option ℕ
label_count_from k places number count =
    number >>= λ m. count >>= λ n. some_if ((m == k) && ((n == 0) || places)) n

-- round K COUNT, for this K
unfoldable pub label_count_in : ℕ → Bool → List (List ℕ) → Option ℕ
label_count_in k places (kind ∷ number ∷ count ∷ []) =
    if bytes_eq kind (codes "round")
    then label_count_from k places (count_in number) (count_in count) else None
label_count_in k places words = None

-- the label of these parts, where all are there
abbrev pub label_from : Option Place → Option Deadline → Option ℤ → Option ℕ → Option CertLabel
label_from place deadline arrival walk =
    place >>= λ p. deadline >>= λ d. arrival >>= λ a. walk >>= λ w.
    Some (record { place = p; deadline = d; arrival = a; walk = w })

-- label PLACE DEADLINE ARRIVAL, and WALK
unfoldable pub label_in : Feed → Times → Bool → List (List ℕ) → Option CertLabel
label_in feed times walking (kind ∷ place ∷ deadline ∷ arrival ∷ last) =
    if bytes_eq kind (codes "label")
    then label_from (place_in feed times place) (deadline_in deadline)
    (moment 1980 2209 arrival) (walk_in walking last) else None
label_in feed times walking words = None
