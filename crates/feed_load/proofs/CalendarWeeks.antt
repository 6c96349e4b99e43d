-- The services of a calendar's weeks, after one more record.
use Rattle.std.proofs.Common.{◌≡◌, ℕ, Bool, true, false, cond, ◌&&◌, ◌||◌, fold, List, [], ◌∷◌, ◌++◌, Option, Some, None, map, get_or, refl, sym, ◌∙◌, ap}
use Rattle.std.specs.Prelude.{pos, position}
use Rattle.std.specs.List.{find, list_any}
use Rattle.std.specs.Option.{option_map_or, option_or}
use Rattle.std.specs.Str.{bytes_eq}
use Rattle.std.proofs.Math.ListN.{set}
use Rattle.std.proofs.lemmas.Bool.{false≢true, true≢false}
use Rattle.std.proofs.lemmas.List.{map-append}
use Rattle.std.proofs.lemmas.List.Folds.{find-append}
use Rattle.std.proofs.lemmas.List.Sums.{fold_push}
use Rattle.std.proofs.lemmas.Slice.Eq.{bytes_eq-Decides}
use Rattle.flex_model.specs.declared.service.Service.{Service}
use Rattle.flex_model.specs.SoundTimes.{AreIds}
use Rattle.feed_meaning.specs.FeedValue.{day, no_days, service_of, week}
use Rattle.feed_meaning.specs.Noted.{noted}
use Rattle.feed_meaning.specs.Rules.{Values}
use Rattle.feed_meaning.specs.Tables.{values_of}
use Rattle.feed_meaning.proofs.IdFacts.{all_noted-has, list_any-map}
use Rattle.feed_meaning.proofs.NamedLists.{is_given-from}
use Rattle.feed_tables.specs.Records.{RowFields}
use Rattle.feed_tables.specs.Refusals.{is_given}
use Rattle.feed_load.specs.Calendars.{calendars, week_columns, with_week, with_week_at}
use Rattle.feed_load.specs.TableValues.{values_under}
use Rattle.feed_load.proofs.Texts.{values_more}
use Rattle.feed_load.proofs.Grouping.{equal, found_is, found_low, ids_differ, not_equal, not_found, one_changed, unchanged}

-- ---- the first record that passes

none_first : {X : Type 0} (x : X) (b rest : Bool) (o : Option X) → (b || rest) ≡ false → (rest ≡ false → o ≡ None) → cond b (Some x) o ≡ None
none_first x true rest o e h = absurd (true≢false e)
none_first x false rest o e h = h e

find_none : {X : Type 0} (p : X → Bool) (xs : List X) → list_any p xs ≡ false → find p xs ≡ None
find_none p [] e = refl
find_none p (x ∷ xs) e = none_first x (p x) (list_any p xs) (find p xs) e (find_none p xs)

same_first : {X : Type 0} (x : X) (b rest : Bool) (o o' : Option X) → (b || rest) ≡ true → (rest ≡ true → o ≡ o') → cond b (Some x) o ≡ cond b (Some x) o'
same_first x true rest o o' e h = refl
same_first x false rest o o' e h = h e

-- where one passes, a later one changes nothing
find_kept : {X : Type 0} (p : X → Bool) (xs ys : List X) → list_any p xs ≡ true → find p (xs ++ ys) ≡ find p xs
find_kept p [] ys e = absurd (false≢true e)
find_kept p (x ∷ xs) ys e = same_first x (p x) (list_any p xs) (find p (xs ++ ys)) (find p xs) e (find_kept p xs ys)

or-none : {X : Type 0} (o : Option X) → option_or o None ≡ o
or-none None = refl
or-none (Some x) = refl

-- nor does one that fails
find_past : {X : Type 0} (p : X → Bool) (xs : List X) (x : X) → p x ≡ false → find p (xs ++ x ∷ []) ≡ find p xs
find_past p xs x e = find-append p xs (x ∷ []) ∙ ap (λ b. option_or (find p xs) (cond b (Some x) None)) e ∙ or-none (find p xs)

-- the first that passes is found
find_first : {X : Type 0} (p : X → Bool) (xs : List X) (x : X) → list_any p xs ≡ false → p x ≡ true → find p (xs ++ x ∷ []) ≡ Some x
find_first p xs x none e = find-append p xs (x ∷ []) ∙ ap (λ o. option_or o (find p (x ∷ []))) (find_none p xs none) ∙ ap (λ b. cond b (Some x) None) e

-- ---- a service by its first record

abbrev names : List ℕ → Values → Bool
names id r = bytes_eq id (r "service_id")

-- a service with the week and the days of a record in index of its own, none where there is none
in_week : Service → Option Values → Service
in_week s calendar = record s {
  flags = option_map_or week calendar no_days;
  first = option_map_or (λ r. day (r "start_date")) calendar (pos 1);
  last = option_map_or (λ r. day (r "end_date")) calendar (pos 0);
}

week_same : (weeks : List Values) (r : Values) (id : List ℕ) → find (names id) (weeks ++ r ∷ []) ≡ find (names id) weeks
    → service_of (calendars (weeks ++ r ∷ []) []) id ≡ service_of (calendars weeks []) id
unfolding in_week
week_same weeks r id e = ap (in_week (service_of (calendars [] []) id)) e

week_new : (weeks : List Values) (r : Values) (id : List ℕ) → list_any (names id) weeks ≡ false → names id r ≡ true
    → service_of (calendars (weeks ++ r ∷ []) []) id ≡ with_week r (service_of (calendars weeks []) id)
unfolding in_week
week_new weeks r id none here = ap (in_week (service_of (calendars [] []) id)) (find_first (names id) weeks r none here)

-- a record that isn't the first of its service changes none
week_repeats : (weeks : List Values) (r : Values) (id : List ℕ) (same : Bool) → names id r ≡ same → list_any (names (r "service_id")) weeks ≡ true
    → service_of (calendars (weeks ++ r ∷ []) []) id ≡ service_of (calendars weeks []) id
week_repeats weeks r id true is met =
    week_same weeks r id (find_kept (names id) weeks (r ∷ []) (ap (λ t. list_any (names t) weeks) ((bytes_eq-Decides id (r "service_id")).0 is) ∙ met))
week_repeats weeks r id false is met = week_same weeks r id (find_past (names id) weeks r is)

-- nor does a record of another service change this one
week_of_another : (weeks : List Values) (r : Values) (id : List ℕ) → names id r ≡ false → service_of (calendars (weeks ++ r ∷ []) []) id ≡ service_of (calendars weeks []) id
week_of_another weeks r id is = week_same weeks r id (find_past (names id) weeks r is)

-- the services after the first record of the service at a index
weeks_more : (ids : List (List ℕ)) → AreIds ids → (weeks : List Values) (r : Values) (k : ℕ) (d : Service) → position (bytes_eq (r "service_id")) ids ≡ Some k
    → list_any (names (r "service_id")) weeks ≡ false
    → map (service_of (calendars (weeks ++ r ∷ []) [])) ids
    ≡ set (map (service_of (calendars weeks [])) ids) k (with_week r (get_or (map (service_of (calendars weeks [])) ids) k d))
weeks_more ids are weeks r k d e none =
    let here = found_is ids (r "service_id") k [] e in
    one_changed (service_of (calendars weeks [])) (service_of (calendars (weeks ++ r ∷ []) [])) (with_week r) ids k d [] (found_low ids (r "service_id") k e)
    (week_new weeks r (get_or ids k []) (ap (λ t. list_any (names t) weeks) here ∙ none) (equal (get_or ids k []) (r "service_id") here))
    (λ i f low ne. week_of_another weeks r (get_or ids i f) (not_equal (get_or ids i f) (r "service_id") (λ h.
    ids_differ ids are i k f low (found_low ids (r "service_id") k e) ne (h ∙ sym (found_is ids (r "service_id") k f e)))))

-- ---- a pass over the records

-- the services that were noted after one more record
pub services_noted : (first : List (List ℕ)) (header : List (List ℕ)) (seen : List RowFields) (row : RowFields) (before after : List (List ℕ)) (text : List ℕ)
    → before ≡ fold noted first (map (λ r. r "service_id") (values_under header seen)) → after ≡ noted before text → text ≡ values_of header row.fields "service_id"
    → after ≡ fold noted first (map (λ r. r "service_id") (values_under header (seen ++ row ∷ [])))
services_noted first header seen row before after text earlier added same =
    let r = values_of header row.fields in
    let texts = map (λ (r : Values). r "service_id") (values_under header seen) in
    added ∙ ap (λ ids. noted ids text) earlier ∙ ap (noted (fold noted first texts)) same
    ∙ sym (fold_push noted first texts (r "service_id"))
    ∙ ap (fold noted first) (sym (map-append (λ (r : Values). r "service_id") (values_under header seen) (r ∷ [])))
    ∙ ap (λ vs. fold noted first (map (λ r. r "service_id") vs)) (sym (values_more header seen row))

module _ (ids : List (List ℕ)) (header : List (List ℕ)) (seen : List RowFields) (row : RowFields) (items : List Service)
    (earlier : items ≡ map (service_of (calendars (values_under header seen) [])) ids) (id : List ℕ) (id_is : id ≡ values_of header row.fields "service_id") where
  abbrev r : Values
  r = values_of header row.fields

  abbrev weeks : List Values
  weeks = values_under header seen

  -- what the services that were met tell of the records
  met_tell : (met : List (List ℕ)) → met ≡ fold noted [] (map (λ v. v "service_id") weeks) → is_given id ≡ true → list_any (names (r "service_id")) weeks ≡ list_any (bytes_eq id) met
  met_tell met is given =
      sym (list_any-map (λ (v : Values). v "service_id") (bytes_eq (r "service_id")) weeks)
      ∙ ap (λ t. list_any (bytes_eq t) (map (λ (v : Values). v "service_id") weeks)) (sym id_is)
      ∙ sym (all_noted-has id [] (map (λ (v : Values). v "service_id") weeks) given)
      ∙ ap (list_any (bytes_eq id)) (sym is)

  after : map (service_of (calendars (weeks ++ r ∷ []) [])) ids ≡ map (service_of (calendars (values_under header (seen ++ row ∷ [])) [])) ids
  after = ap (λ vs. map (service_of (calendars vs [])) ids) (sym (values_more header seen row))

  -- one more record is the first of the service at a index
  pub week_noted : (met : List (List ℕ)) → met ≡ fold noted [] (map (λ v. v "service_id") weeks) → AreIds ids → (k : ℕ) (old new : Service) → position (bytes_eq id) ids ≡ Some k
      → (is_given id && list_any (bytes_eq id) met) ≡ false
      → old ≡ get_or items k old → new ≡ with_week_at (week_columns header) row.fields old
      → set items k new ≡ map (service_of (calendars (values_under header (seen ++ row ∷ [])) [])) ids
  week_noted met met_is are k old new found is_new was becomes =
      let index : position (bytes_eq (r "service_id")) ids ≡ Some k = ap (λ t. position (bytes_eq t) ids) (sym id_is) ∙ found in
      let low = found_low ids id k found in
      let given : is_given id ≡ true = is_given-from id (λ e. are.given k [] low (found_is ids id k [] found ∙ e)) in
      let none : list_any (names (r "service_id")) weeks ≡ false = met_tell met met_is given ∙ sym (ap (λ g. g && list_any (bytes_eq id) met) given) ∙ is_new in
      ap (set items k) (becomes ∙ ap (with_week r) was)
      ∙ ap (λ xs. set xs k (with_week r (get_or xs k old))) earlier
      ∙ sym (weeks_more ids are weeks r k old index none) ∙ after

  -- or isn't the first of its service
  pub week_repeated : (met : List (List ℕ)) → met ≡ fold noted [] (map (λ v. v "service_id") weeks) → (g b : Bool) → is_given id ≡ g → list_any (bytes_eq id) met ≡ b → (g && b) ≡ true
      → items ≡ map (service_of (calendars (values_under header (seen ++ row ∷ [])) [])) ids
  week_repeated met met_is true true given among both =
      earlier ∙ sym (unchanged (service_of (calendars weeks [])) (service_of (calendars (weeks ++ r ∷ []) [])) ids
      (λ i d low. week_repeats weeks r (get_or ids i d) (names (get_or ids i d) r) refl (met_tell met met_is given ∙ among))) ∙ after
  week_repeated met met_is true false given among both = absurd (false≢true both)
  week_repeated met met_is false b given among both = absurd (false≢true both)

  -- or is of no service
  pub week_passed : position (bytes_eq id) ids ≡ None → items ≡ map (service_of (calendars (values_under header (seen ++ row ∷ [])) [])) ids
  week_passed found =
      let none : position (bytes_eq (r "service_id")) ids ≡ None = ap (λ t. position (bytes_eq t) ids) (sym id_is) ∙ found in
      earlier ∙ sym (unchanged (service_of (calendars weeks [])) (service_of (calendars (weeks ++ r ∷ []) [])) ids
      (λ i d low. week_of_another weeks r (get_or ids i d) (not_equal (get_or ids i d) (r "service_id") (λ h.
      false≢true (sym (not_found ids (r "service_id") i d none low) ∙ equal (r "service_id") (get_or ids i d) (sym h)))))) ∙ after
