-- The records of a query file, their rules and their queries.
use Rattle.std.proofs.Common.{◌≡◌, ◌≢◌, ℕ, ◌<◌, Bool, true, false, not, List, [], ◌∷◌, ◌++◌, All, Option, None, Some, map, get_or, length, nat_lt, ℤ, pos, refl, sym, ◌∙◌, ap, subst, arith, lit<}
use Rattle.std.specs.Prelude.{◌==◌, is_none, unwrap_or, Result, Ok, Err}
use Rattle.std.specs.Option.{option_to_list}
use Rattle.std.specs.Result.{result_err, result_ok}
use Rattle.std.proofs.lemmas.Bool.{eqb-true, true≢false}
use Rattle.std.proofs.lemmas.List.{map-append}
use Rattle.flex_model.specs.declared.fault.Fault.{Fault}
use Rattle.flex_model.specs.declared.fault.FaultCode.{FaultCode}
use Rattle.flex_model.specs.declared.fault.FaultCode.TheVariants as code
use Rattle.flex_model.specs.declared.fault.InputFile.TheVariants.{Queries}
use Rattle.flex_model.specs.declared.fault.RawFile.{RawFile}
use Rattle.flex_model.specs.declared.fault.RawFile.TheVariants.{Bytes}
use Rattle.flex_model.specs.declared.feed.Feed.{Feed}
use Rattle.flex_model.specs.declared.place.Place.{Place}
use Rattle.flex_model.specs.declared.query.Query.{Query}
use Rattle.flex_model.specs.declared.times.Times.{Times}
use Rattle.flex_model.specs.SoundFeed.{IsSoundFeed}
use Rattle.flex_model.specs.SoundQuery.{IsSoundQuery}
use Rattle.field_text.specs.Grammars.{choice, count, moment, number, some_if}
use Rattle.feed_tables.specs.Records.{RowFields, table_records}
use Rattle.feed_meaning.specs.FeedRules.{is_positive_count}
use Rattle.feed_meaning.specs.QueryFaults.{place_rule, queries_schema, query_faults, query_rules}
use Rattle.feed_meaning.specs.Rules.{Rule, Values, is_bad, is_no, is_text, stand}
use Rattle.feed_meaning.specs.Tables.{entries_of, entry_of, faults_at, missing_faults, record_faults, schema_faults, table_faults, values_of}
use Rattle.feed_meaning.specs.TimesValue.{moment_in, place_named, queries_of, query_of}
use Rattle.feed_meaning.proofs.FieldBounds.{count_is}
use Rattle.feed_meaning.proofs.Kept.{is_kept, nil_parts, row_keeps}
use Rattle.feed_meaning.proofs.SoundQueries.{accepted_queries}
use Rattle.query_io.specs.QueryFields.{HasFields, query_by, query_from}
use Rattle.query_io.specs.QueryPlaces.{IsPlaceRead}
use Rattle.query_io.specs.Reads.{AreRead, HoldsQueries}
use Rattle.query_io.specs.declared.queries.ReadQueries.{ReadQueries}
use Rattle.query_io.specs.declared.queries.ReadQueries.TheVariants.{Clean, Faulty}
use Rattle.query_io.specs.declared.query_fields.QueryFields.{QueryFields}
use Prim.Native.String.{String}

-- ---- the values of a record

some_there : {X : Type 0} (o : Option X) (d : X) → is_none o ≡ false → o ≡ Some (unwrap_or o d)
some_there None d e = absurd (true≢false e)
some_there (Some x) d e = refl

-- a value that is there unless a text is bad
pub none_if_bad : {X : Type 0} (bad : Bool) (x : X) → is_none (some_if (not bad) x) ≡ bad
none_if_bad true x = refl
none_if_bad false x = refl

some_if_good : {X : Type 0} (bad : Bool) (x : X) → bad ≡ false → some_if (not bad) x ≡ Some x
some_if_good true x e = absurd (true≢false e)
some_if_good false x e = refl

count_there : (greatest : ℕ) (text : List ℕ) (o : Option ℕ) → count greatest text ≡ o → is_none o ≡ false → o ≡ Some (number text)
count_there greatest text None is e = absurd (true≢false e)
count_there greatest text (Some n) is e = ap Some (sym (count_is greatest text n is).1)

positive_there : (greatest : ℕ) (text : List ℕ) (o : Option ℕ) → count greatest text ≡ o → not (stand nat_lt (Some 0) o) ≡ false → o ≡ Some (number text)
positive_there greatest text None is e = absurd (true≢false e)
positive_there greatest text (Some n) is e = ap Some (sym (count_is greatest text n is).1)

pub same_nine : (a b c d e f g h i a' b' c' d' e' f' g' h' i' : Rule)
    → a ≡ a' → b ≡ b' → c ≡ c' → d ≡ d' → e ≡ e' → f ≡ f' → g ≡ g' → h ≡ h' → i ≡ i'
    → (a ∷ b ∷ c ∷ d ∷ e ∷ f ∷ g ∷ h ∷ i ∷ []) ≡ (a' ∷ b' ∷ c' ∷ d' ∷ e' ∷ f' ∷ g' ∷ h' ∷ i' ∷ [])
same_nine a b c d e f g h i a' b' c' d' e' f' g' h' i' ha hb hc hd he hf hg hh hi = cc

module _ (feed : Feed) (times : Times) where
  -- the fault of a place is its rule
  pub place_fault_is : (text : List ℕ) (p : Result Place FaultCode) → IsPlaceRead feed times text p → result_err p ≡ place_rule feed times text
  place_fault_is text (Ok p) read = sym read.0
  place_fault_is text (Err c) read = sym read

  place_there : (text : List ℕ) (p : Result Place FaultCode) → IsPlaceRead feed times text p → place_rule feed times text ≡ None → result_ok p ≡ Some (place_named feed times.points text)
  place_there text (Ok p) read none = ap Some read.1
  place_there text (Err c) read none = absurd (differ (sym read ∙ none))
    where
      differ : Some c ≡ None → ⊥
      differ e = cc

  -- the query of a record that breaks no rule
  pub record_gives : (earlier : List Values) (r : Values) (fields : QueryFields) → HasFields feed times r fields
      → ((k : ℕ) → k < 9 → get_or (query_rules feed times earlier r) k None ≡ None) → query_from fields ≡ Some (query_of feed times r)
  record_gives earlier r fields has kept =
      let origin = place_there (r "origin") fields.origin has.origin (kept 2 (lit< tt)) in
      let destination = place_there (r "destination") fields.destination has.destination (kept 3 (lit< tt)) in
      let depart = has.depart ∙ some_there (moment 1990 2199 (r "depart")) (pos 0) (is_kept code.BadMoment (is_no (moment 1990 2199) (r "depart")) (kept 4 (lit< tt))) in
      let asked = has.asked ∙ some_there (moment 1990 2199 (r "now")) (pos 0) (is_kept code.BadMoment (is_no (moment 1990 2199) (r "now")) (kept 5 (lit< tt))) in
      let transfers = has.transfers ∙ count_there 7 (r "transfers") (count 7 (r "transfers")) refl (is_kept code.BadNumber (is_no (count 7) (r "transfers")) (kept 6 (lit< tt))) in
      let horizon = has.horizon ∙ positive_there 2880 (r "horizon") (count 2880 (r "horizon")) refl (is_kept code.BadNumber (not (is_positive_count 2880 (r "horizon"))) (kept 7 (lit< tt))) in
      let walking = has.walking ∙ some_if_good (is_bad (choice 0 1) (r "walking")) (is_text (r "walking") "1") (is_kept code.BadEnum (is_bad (choice 0 1) (r "walking")) (kept 8 (lit< tt))) in
      same (r "query_id") (place_named feed times.points (r "origin")) (place_named feed times.points (r "destination")) (moment_in (r "depart")) (moment_in (r "now")) (number (r "transfers")) (number (r "horizon")) (is_text (r "walking") "1")
      fields has.id origin destination depart asked transfers horizon walking
    where
      same : (id : List ℕ) (o d : Place) (m n : ℤ) (t h : ℕ) (w : Bool) (f : QueryFields) → f.id.now ≡ id → result_ok f.origin ≡ Some o → result_ok f.destination ≡ Some d
          → f.depart ≡ Some m → f.asked ≡ Some n → f.transfers ≡ Some t → f.horizon ≡ Some h → f.walking ≡ Some w
          → query_from f ≡ Some (record { id = id; origin = o; destination = d; depart = m; now = n; transfers = t; horizon = h; walking = w })
      same id o d m n t h w f hi ho hd hm hn ht hh hw =
          ap (λ x. query_by x (result_ok f.origin) (result_ok f.destination) f.depart f.asked f.transfers f.horizon f.walking) hi
          ∙ ap (λ x. query_by id x (result_ok f.destination) f.depart f.asked f.transfers f.horizon f.walking) ho
          ∙ ap (λ x. query_by id (Some o) x f.depart f.asked f.transfers f.horizon f.walking) hd
          ∙ ap (λ x. query_by id (Some o) (Some d) x f.asked f.transfers f.horizon f.walking) hm
          ∙ ap (λ x. query_by id (Some o) (Some d) (Some m) x f.transfers f.horizon f.walking) hn
          ∙ ap (λ x. query_by id (Some o) (Some d) (Some m) (Some n) x f.horizon f.walking) ht
          ∙ ap (λ x. query_by id (Some o) (Some d) (Some m) (Some n) (Some t) x f.walking) hh
          ∙ ap (λ x. query_by id (Some o) (Some d) (Some m) (Some n) (Some t) (Some h) x) hw

  -- ---- one more record

  module _ (header : List (List ℕ)) (seen : List RowFields) (row : RowFields) (rules : List Rule) (fields : QueryFields) (before after : List Fault) (queries : List Query) where
    abbrev pub Earlier : List Values
    Earlier = map (λ e. e.values) (map (entry_of header) seen)

    -- the queries of records, where none has a fault
    abbrev pub AreQueries : List RowFields → List Query → Type 0
    AreQueries rows qs = qs ≡ map (λ e. query_of feed times e.values) (map (entry_of header) rows)

    record_is : rules ≡ query_rules feed times Earlier (values_of header row.fields) → HasFields feed times (values_of header row.fields) fields
        → after ≡ before ++ faults_at Queries row.number rules → after ≡ [] → (before ≡ []) × (query_from fields ≡ Some (query_of feed times (values_of header row.fields)))
    record_is same has added none =
        let both = nil_parts before (faults_at Queries row.number rules) (sym added ∙ none) in
        let kept = row_keeps Queries row.number (query_rules feed times Earlier (values_of header row.fields)) (ap (faults_at Queries row.number) (sym same) ∙ both.1) in
        (both.0, record_gives Earlier (values_of header row.fields) fields has (λ k low. kept k None low))

    pub queries_more : (query : Option Query) (longer : List Query) → (before ≡ [] → AreQueries seen queries)
        → rules ≡ query_rules feed times Earlier (values_of header row.fields) → HasFields feed times (values_of header row.fields) fields
        → after ≡ before ++ faults_at Queries row.number rules → query ≡ query_from fields → longer ≡ queries ++ option_to_list query
        → after ≡ [] → AreQueries (seen ++ row ∷ []) longer
    queries_more query longer earlier same has added gives pushed none =
        let is = record_is same has added none in
        pushed ∙ ap (λ qs. qs ++ option_to_list query) (earlier is.0)
        ∙ ap (λ q. map (λ e. query_of feed times e.values) (map (entry_of header) seen) ++ option_to_list q) (gives ∙ is.1)
        ∙ sym (map-append (λ e. query_of feed times e.values) (map (entry_of header) seen) (entry_of header row ∷ []))
        ∙ ap (map (λ e. query_of feed times e.values)) (sym (map-append (entry_of header) seen (row ∷ [])))

-- ---- tables

not_empty : {X : Type 0} (xs : List X) → (length xs == 0) ≡ false → xs ≢ []
not_empty {X = X} xs e none = true≢false (sym (ap (λ (ys : List X). length ys == 0) none) ∙ e)

pub is_nil : {X : Type 0} (xs : List X) → (length xs == 0) ≡ true → xs ≡ []
is_nil [] e = refl
is_nil (x ∷ xs) e = let h = eqb-true (length (x ∷ xs)) 0 e in absurd (omega (arith, h))

-- a table that lacks columns has their faults
pub lacking_holds : (feed : Feed) (times : Times) (missing : List String) (records : List (List (List ℕ))) (faults : List Fault) (queries : List Query)
    → faults ≡ missing_faults Queries missing → (length faults == 0) ≡ false → HoldsQueries (schema_faults Queries (queries_schema feed times) missing records) queries (Faulty faults)
lacking_holds feed times [] records faults queries same given = absurd (not_empty faults given same)
lacking_holds feed times (column ∷ more) records faults queries same given = (λ none. not_empty faults given (same ∙ none), same)

-- one that lacks none has those of its records
pub record_faults_are : (feed : Feed) (times : Times) (missing : List String) (records : List (List (List ℕ))) → missing_faults Queries missing ≡ []
    → record_faults Queries (query_rules feed times) (entries_of records) ≡ schema_faults Queries (queries_schema feed times) missing records
record_faults_are feed times [] records none = refl
record_faults_are feed times (column ∷ more) records none = cc

-- the same faults, and where there are none the same queries
pub holds_same : (faults faults' : List Fault) (queries queries' : List Query) → faults ≡ faults' → (faults ≡ [] → queries ≡ queries') → (read : ReadQueries)
    → HoldsQueries faults queries read → HoldsQueries faults' queries' read
holds_same faults faults' queries queries' same same' (Clean read) h = (sym same ∙ h.0, h.1 ∙ same' h.0)
holds_same faults faults' queries queries' same same' (Faulty read) h = (λ none. h.0 (same ∙ none), h.1 ∙ same)

-- ---- files

are_read : (feed : Feed) (times : Times) (raw : RawFile) → IsSoundFeed feed → (read : ReadQueries)
    → HoldsQueries (query_faults feed times raw) (queries_of feed times raw) read → AreRead feed times raw read
are_read feed times raw sound (Clean queries) h = (h.0, h.1, subst (All (IsSoundQuery feed times)) (sym h.1) (accepted_queries feed times raw sound h.0))
are_read feed times raw sound (Faulty faults) h = h

-- what a file's table holds is what the file holds
pub bytes_read : (feed : Feed) (times : Times) (raw : RawFile) (bytes : List ℕ) → IsSoundFeed feed → raw ≡ Bytes bytes → (read : ReadQueries)
    → HoldsQueries (table_faults Queries (queries_schema feed times) (table_records bytes)) (map (λ e. query_of feed times e.values) (entries_of (table_records bytes))) read
    → AreRead feed times raw read
bytes_read feed times raw bytes sound is read h = subst (λ file. AreRead feed times file read) (sym is) (are_read feed times (Bytes bytes) sound read h)
