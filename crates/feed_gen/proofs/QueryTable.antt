-- The query file of the demo has no fault beside the demo's stops and points.
use Rattle.std.proofs.Common.{◌≡◌, ◌<◌, ◌+◌, ◌%◌, ◌∙◌, ℕ, Bool, true, false, List, [], arith, ap, length, map, refl}
use Rattle.std.specs.Prelude.{◌==◌, ◌&&◌, ◌||◌, codes, not}
use Rattle.std.specs.List.{list_all, list_any}
use Rattle.std.specs.Str.{bytes_eq}
use Rattle.std.specs.Fmt.{decimal, digits}
use Rattle.std.proofs.lemmas.Bool.{eqb-true}
use Rattle.flex_model.specs.declared.fault.InputFile.TheVariants.{Queries}
use Rattle.flex_model.specs.declared.fault.RawFile.TheVariants.{Bytes}
use Rattle.flex_model.specs.declared.feed.Feed.{Feed}
use Rattle.flex_model.specs.declared.place.Point.{Point}
use Rattle.flex_model.specs.declared.place.Stop.{Stop}
use Rattle.flex_model.specs.declared.times.Times.{Times}
use Rattle.field_text.specs.Grammars.{id, moment}
use Rattle.field_text.proofs.DecimalLemmas.{numbers_are_read_back}
use Rattle.feed_tables.specs.Records.{table_records}
use Rattle.feed_tables.specs.Refusals.{has_duplicate}
use Rattle.feed_meaning.specs.QueryFaults.{is_point, queries_schema, query_faults, query_rules}
use Rattle.feed_meaning.specs.Rules.{Values, is_no, repeats_id, stand}
use Rattle.feed_meaning.specs.Tables.{table_faults, values_of}
use Rattle.feed_meaning.specs.TimesFaults.{is_boarding_stop, is_stop}
use Rattle.feed_meaning.specs.TimesValue.{point_of}
use Rattle.feed_gen.specs.Draws.{pick}
use Rattle.feed_gen.specs.Ids.{point_id, query_id, stop_id}
use Rattle.feed_gen.specs.QueriesText.{depart_text, now_text, queries_text, query_columns, query_record, query_records}
use Rattle.feed_gen.specs.Texts.{below}
use Rattle.feed_gen.specs.TimesTexts.{points_text}
use Rattle.feed_gen.proofs.AcceptedTables.{is_fitting, no_faults_in}
use Rattle.feed_gen.proofs.Checks.{all-below, checked}
use Rattle.feed_gen.proofs.CleanTables.{AreClean, Clean, clean-indexed, map-map, none-below}
use Rattle.feed_gen.proofs.DemoTables.{values_in}
use Rattle.feed_gen.proofs.DirectTable.{point-plain}
use Rattle.feed_gen.proofs.PlainFields.{is_plain}
use Rattle.feed_gen.proofs.SmallTables.{demo_on_literals}
use Rattle.feed_gen.proofs.StopTimeFacts.{stop-plain}
use Rattle.feed_gen.proofs.TimesFolder.{demo_stops}

abbrev query : List (List ℕ) → Values
query fields = values_of (map codes query_columns) fields

-- the demo's points
abbrev pub demo_points : List Point
demo_points = map point_of (values_in points_text)

-- ---- what is drawn and read

pub origin-bound : (number i : ℕ) → pick number (900 + i) 10 < 10
unfolding pick
origin-bound number i = omega arith

pub destination-bound : (number i : ℕ) → pick number (920 + i) 40 < 40
unfolding pick
destination-bound number i = omega arith

departs : list_all (λ k. not (is_no (moment 1990 2199) (depart_text k))) (below 3) ≡ true
unfolding demo_on_literals depart_text
departs = refl

asked : is_no (moment 1990 2199) now_text ≡ false
unfolding demo_on_literals now_text
asked = refl

departs-plain : list_all (λ k. is_plain (depart_text k)) (below 3) ≡ true
unfolding demo_on_literals depart_text
departs-plain = refl

asked-plain : is_plain now_text ≡ true
unfolding now_text
asked-plain = refl

numbers-plain : list_all (λ k. is_plain (decimal k)) (below 10) ≡ true
unfolding digits below
numbers-plain = refl

queries-plain : list_all (λ i. is_plain (query_id i)) (below 6) ≡ true
unfolding digits below
queries-plain = refl

queries-differ : list_all (λ i. list_all (λ j. not (bytes_eq (query_id i) (query_id j)) || (i == j)) (below 6)) (below 6) ≡ true
unfolding digits below
queries-differ = refl

same-query : (i j : ℕ) → i < 6 → j < 6 → bytes_eq (query_id i) (query_id j) ≡ true → i ≡ j
same-query i j low low' e =
    eqb-true i j (rw e at (checked (λ j. not (bytes_eq (query_id i) (query_id j)) || (i == j)) 6
    (checked (λ i. list_all (λ j. not (bytes_eq (query_id i) (query_id j)) || (i == j)) (below 6)) 6 queries-differ i low) j low'))

not-true : (b : Bool) → not b ≡ true → b ≡ false
not-true true e = cc e
not-true false e = refl

-- ---- places

abbrev is_stop_of : List Stop → List ℕ → Bool
is_stop_of stops text = list_any (λ stop. bytes_eq text stop.id) stops

abbrev boards_of : List Stop → List ℕ → Bool
boards_of stops text = list_any (λ stop. bytes_eq text stop.id && stop.boards) stops

abbrev is_point_of : List Point → List ℕ → Bool
is_point_of points text = list_any (λ point. bytes_eq text point.id) points

stops-found : list_all (λ s. is_stop_of demo_stops (stop_id s)) (below 40) ≡ true
unfolding demo_on_literals values_in
stops-found = refl

stops-board : list_all (λ s. boards_of demo_stops (stop_id s)) (below 40) ≡ true
unfolding demo_on_literals values_in
stops-board = refl

points-found : list_all (λ p. is_point_of demo_points (point_id p)) (below 10) ≡ true
unfolding demo_on_literals values_in
points-found = refl

points-apart : list_all (λ p. not (is_stop_of demo_stops (point_id p))) (below 10) ≡ true
unfolding demo_on_literals values_in
points-apart = refl

none-repeated : (number i : ℕ) → i < 6 → repeats_id "query_id" (map (λ j. query (query_record number j)) (below i)) (query (query_record number i)) ≡ false
none-repeated number i low =
    none-below (λ e. stand bytes_eq (id (query (query_record number i) "query_id")) (id (e "query_id"))) (λ j. query (query_record number j)) i
    (λ j before. differs (bytes_eq (query_id i) (query_id j)) (λ same. omega (arith, same-query i j low (omega arith) same)))
  where
    differs : (b : Bool) → (b ≡ true → ⊥) → b ≡ false
    differs true never = absurd (never refl)
    differs false never = refl

query-fits : (number i : ℕ) → i < 6 → is_fitting 7 (query_record number i) ≡ true
query-fits number i low =
    rw (
      checked (λ i. is_plain (query_id i)) 6 queries-plain i low,
      point-plain (pick number (900 + i) 10) (origin-bound number i),
      stop-plain (pick number (920 + i) 40) (destination-bound number i),
      checked (λ k. is_plain (depart_text k)) 3 departs-plain (i % 3) (omega arith),
      asked-plain,
      checked (λ k. is_plain (decimal k)) 10 numbers-plain (i % 3) (omega arith),
    ) refl

pub queries-ordered : (number : ℕ) → query_records number ≡ map (query_record number) (below 6)
unfolding query_records
queries-ordered number = refl

pub count-queries : (number : ℕ) → length (query_records number) ≡ 6
unfolding query_records below
count-queries number = refl

module _ (feed : Feed) (times : Times) (stops : feed.stops ≡ demo_stops) (points : times.points ≡ demo_points) where
  query-clean : (number i : ℕ) → i < 6 → Clean (query_rules feed times (map (λ j. query (query_record number j)) (below i)) (query (query_record number i)))
  query-clean number i low =
      let origin : ℕ = pick number (900 + i) 10 in
      let destination : ℕ = pick number (920 + i) 40 in
      let few = origin-bound number i in
      let many = destination-bound number i in
      let no_stop : is_stop feed (point_id origin) ≡ false =
      ap (λ stops. is_stop_of stops (point_id origin)) stops ∙ not-true _ (checked (λ p. not (is_stop_of demo_stops (point_id p))) 10 points-apart origin few) in
      let point : is_point times (point_id origin) ≡ true =
      ap (λ points. is_point_of points (point_id origin)) points ∙ checked (λ p. is_point_of demo_points (point_id p)) 10 points-found origin few in
      let stop : is_stop feed (stop_id destination) ≡ true =
      ap (λ stops. is_stop_of stops (stop_id destination)) stops ∙ checked (λ s. is_stop_of demo_stops (stop_id s)) 40 stops-found destination many in
      let boards : is_boarding_stop feed (stop_id destination) ≡ true =
      ap (λ stops. boards_of stops (stop_id destination)) stops ∙ checked (λ s. boards_of demo_stops (stop_id s)) 40 stops-board destination many in
      let departs' = not-true _ (checked (λ k. not (is_no (moment 1990 2199) (depart_text k))) 3 departs (i % 3) (omega arith)) in
      rw (none-repeated number i low, no_stop, point, stop, boards, departs', asked, numbers_are_read_back (i % 3) 7 (omega arith) (omega arith)) refl

  queries-clean : (number : ℕ) → AreClean (query_rules feed times) [] (map query (query_records number))
  queries-clean number =
      rw (queries-ordered number, map-map query (query_record number) (below 6))
      (clean-indexed (query_rules feed times) [] (λ i. query (query_record number i)) 6 (query-clean number))

  queries-alone : (number : ℕ) → table_faults Queries (queries_schema feed times) (table_records (queries_text number)) ≡ []
  unfolding queries_text has_duplicate
  queries-alone number =
      no_faults_in Queries (queries_schema feed times) query_columns (query_records number)
      (record { plain = refl; once = refl; whole = refl })
      (ap (list_all (is_fitting 7)) (queries-ordered number) ∙ all-below (is_fitting 7) (query_record number) 6 (query-fits number))
      (omega (arith, count-queries number))
      (queries-clean number)

  pub no_query_faults : (number : ℕ) → query_faults feed times (Bytes (queries_text number)) ≡ []
  no_query_faults number = queries-alone number
