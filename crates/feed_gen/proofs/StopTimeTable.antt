-- The stop times break no rule by themselves.
use Rattle.std.proofs.Common.{◌≡◌, ◌<◌, ◌/◌, ◌%◌, ◌∙◌, ℕ, true, false, List, [], ◌++◌, Option, arith, ap, length, map, refl, sym}
use Rattle.std.specs.Prelude.{codes, nat_eq}
use Rattle.std.specs.List.{list_all}
use Rattle.std.specs.Str.{bytes_eq}
use Rattle.std.specs.Fmt.{digits}
use Rattle.std.proofs.lemmas.Bool.{eqb-true, le-ltb}
use Rattle.std.proofs.lemmas.List.{map-append}
use Rattle.std.proofs.lemmas.List.Folds.{list_all-append}
use Rattle.flex_model.specs.declared.fault.InputFile.TheVariants.{StopTimes}
use Rattle.field_text.specs.Grammars.{id}
use Rattle.feed_tables.specs.Records.{table_records}
use Rattle.feed_tables.specs.Refusals.{has_duplicate}
use Rattle.feed_meaning.specs.FeedFaults.{stop_times_schema}
use Rattle.feed_meaning.specs.FeedRules.{repeats_sequence, sequence, stop_time_rules}
use Rattle.feed_meaning.specs.Rules.{Values, are_same_pairs, both, stand}
use Rattle.feed_meaning.specs.Tables.{entries_of, table_faults, values_of}
use Rattle.feed_gen.specs.Ids.{trip_id}
use Rattle.feed_gen.specs.StopTimesText.{fixed_record, seconds_at, stop_of, stop_time_columns, stop_time_records, stop_times_text, zone_stop_times}
use Rattle.feed_gen.specs.Texts.{below}
use Rattle.feed_gen.proofs.AcceptedTables.{is_fitting, no_faults_in, text-records}
use Rattle.feed_gen.proofs.Checks.{all-below}
use Rattle.feed_gen.proofs.CleanTables.{AreClean, Clean, both-true, clean-append, clean-indexed, map-map, none-below, table-values}
use Rattle.feed_gen.proofs.Orders.{stop_times_in_order}
use Rattle.feed_gen.proofs.PlainFields.{is_plain}
use Rattle.feed_gen.proofs.StopTimeFacts.{same-trip, sequence-plain, stop-bound, stop-plain, time-plain, trip-plain, sequence-given, sequence-read, time-given, time-read, trip_at}

abbrev pub stop_time : List (List ℕ) → Values
stop_time fields = values_of (map codes stop_time_columns) fields

-- a record of a trip at a place that isn't told before
pub fixed-clean : (earlier : List Values) (number l k v : ℕ) → k < 24 → v < 8 → repeats_sequence earlier (stop_time (fixed_record number l k v)) ≡ false
    → Clean (stop_time_rules earlier (stop_time (fixed_record number l k v)))
fixed-clean earlier number l k v late far new =
    let s : ℕ = seconds_at number l k v in
    rw (new, sequence-given v far, sequence-read v far, time-given s, time-read number l k v late far, le-ltb s s (omega arith)) refl

-- the record i of a trip at a place
abbrev pub fixed_at : ℕ → ℕ → List (List ℕ)
fixed_at number i = fixed_record number (i / 192) (i / 8 % 24) (i % 8)

pub trip-place : (i : ℕ) → trip_id (i / 192) (i / 8 % 24) ≡ trip_at (i / 8)
trip-place i =
    let same : i / 192 ≡ i / 8 / 24 = omega arith in
    ap (λ l. trip_id l (i / 8 % 24)) same

-- records of one trip
pub one_trip : (i j : ℕ) → i < 1920 → j < 1920 → bytes_eq (trip_id (i / 192) (i / 8 % 24)) (trip_id (j / 192) (j / 8 % 24)) ≡ true
    → i / 8 ≡ j / 8
one_trip i j low low' trip =
    let moved : bytes_eq (trip_at (i / 8)) (trip_at (j / 8)) ≡ true =
    ap (λ a. bytes_eq a (trip_at (j / 8))) (sym (trip-place i))
    ∙ ap (λ b. bytes_eq (trip_id (i / 192) (i / 8 % 24)) b) (sym (trip-place j)) ∙ trip in
    same-trip (i / 8) (j / 8) (omega arith) (omega arith) moved

-- of one trip and one sequence there is one record
one-key : (i j : ℕ) → i < 1920 → j < i → bytes_eq (trip_id (i / 192) (i / 8 % 24)) (trip_id (j / 192) (j / 8 % 24)) ≡ true
    → nat_eq (i % 8) (j % 8) ≡ true → ⊥
one-key i j low before trip place =
    let t = one_trip i j low (omega arith) trip in
    let v = eqb-true (i % 8) (j % 8) place in
    omega (arith, t, v)

not-repeated : (number i : ℕ) → i < 1920
    → repeats_sequence (map (λ j. stop_time (fixed_at number j)) (below i)) (stop_time (fixed_at number i)) ≡ false
not-repeated number i low =
    none-below (λ e. stand (are_same_pairs bytes_eq nat_eq) (key (stop_time (fixed_at number i))) (key e)) (λ j. stop_time (fixed_at number j)) i
    (λ j before. rw (sequence-read (i % 8) (omega arith), sequence-read (j % 8) (omega arith))
    (both-true (bytes_eq (trip_id (i / 192) (i / 8 % 24)) (trip_id (j / 192) (j / 8 % 24))) (nat_eq (i % 8) (j % 8)) (one-key i j low before)))
  where
    key : Values → Option (List ℕ × ℕ)
    key s = both (id (s "trip_id")) (sequence (s "stop_sequence"))

fixed-records-clean : (number : ℕ) → AreClean stop_time_rules [] (map (λ i. stop_time (fixed_at number i)) (below 1920))
fixed-records-clean number =
    clean-indexed stop_time_rules [] (λ i. stop_time (fixed_at number i)) 1920
    (λ i low. fixed-clean (map (λ j. stop_time (fixed_at number j)) (below i)) number (i / 192) (i / 8 % 24) (i % 8) (omega arith) (omega arith) (not-repeated number i low))

-- the records on demand, beside those that go before
zone-records-clean : (number : ℕ) → AreClean stop_time_rules (map (λ i. stop_time (fixed_at number i)) (below 1920)) (map stop_time zone_stop_times)
unfolding digits below
zone-records-clean number = (refl, (refl, (refl, (refl, tt))))

fixed-fits : (number i : ℕ) → i < 1920 → is_fitting 12 (fixed_at number i) ≡ true
fixed-fits number i low =
    let trip : is_plain (trip_id (i / 192) (i / 8 % 24)) ≡ true = ap is_plain (trip-place i) ∙ trip-plain (i / 8) (omega arith) in
    let time = time-plain number (i / 192) (i / 8 % 24) (i % 8) (omega arith) (omega arith) in
    rw (trip, sequence-plain (i % 8) (omega arith), stop-plain (stop_of number (i / 192) (i % 8)) (stop-bound number (i / 192) (i % 8)), time) refl

pub stop_times-ordered : (number : ℕ) → stop_time_records number ≡ map (fixed_at number) (below 1920) ++ zone_stop_times
unfolding stop_time_records
stop_times-ordered number = ap (λ rows. rows ++ zone_stop_times) (stop_times_in_order (fixed_record number))

all-fit : (number : ℕ) → list_all (is_fitting 12) (stop_time_records number) ≡ true
all-fit number =
    ap (list_all (is_fitting 12)) (stop_times-ordered number)
    ∙ list_all-append (is_fitting 12) (map (fixed_at number) (below 1920)) zone_stop_times
    ∙ rw (all-below (is_fitting 12) (fixed_at number) 1920 (fixed-fits number)) refl

-- the values of all records
pub stop_time-values : (number : ℕ)
    → map stop_time (stop_time_records number) ≡ map (λ i. stop_time (fixed_at number i)) (below 1920) ++ map stop_time zone_stop_times
stop_time-values number =
    ap (map stop_time) (stop_times-ordered number)
    ∙ map-append stop_time (map (fixed_at number) (below 1920)) zone_stop_times
    ∙ ap (λ values. values ++ map stop_time zone_stop_times) (map-map stop_time (fixed_at number) (below 1920))

pub count-records : (number : ℕ) → length (stop_time_records number) ≡ 1924
unfolding stop_time_records below
count-records number = refl

pub stop_times-alone : (number : ℕ) → table_faults StopTimes stop_times_schema (table_records (stop_times_text number)) ≡ []
unfolding stop_times_text has_duplicate
stop_times-alone number =
    no_faults_in StopTimes stop_times_schema stop_time_columns (stop_time_records number)
    (record { plain = refl; once = refl; whole = refl })
    (all-fit number)
    (omega (arith, count-records number))
    (rw (stop_time-values number)
    (clean-append stop_time_rules [] (map (λ i. stop_time (fixed_at number i)) (below 1920)) (map stop_time zone_stop_times)
    (fixed-records-clean number) (zone-records-clean number)))

-- the values of the text's records
pub stop_times-values : (number : ℕ)
    → map (λ e. e.values) (entries_of (table_records (stop_times_text number)))
    ≡ map (λ i. stop_time (fixed_at number i)) (below 1920) ++ map stop_time zone_stop_times
unfolding stop_times_text
stop_times-values number =
    ap (λ records. map (λ e. e.values) (entries_of records)) (text-records stop_time_columns (stop_time_records number) refl (all-fit number))
    ∙ table-values (map codes stop_time_columns) (stop_time_records number)
    ∙ stop_time-values number
