-- The services of both calendars, after one more record of calendar_dates.txt.
use Rattle.std.proofs.Common.{◌≡◌, ℕ, Bool, true, false, cond, ◌&&◌, List, [], ◌∷◌, ◌++◌, Some, None, map, get_or, refl, sym, ◌∙◌, ap}
use Rattle.std.specs.Prelude.{ℤ, codes, filter, position}
use Rattle.std.specs.Str.{bytes_eq}
use Rattle.std.proofs.Math.ListN.{set}
use Rattle.std.proofs.lemmas.Bool.{false≢true}
use Rattle.std.proofs.lemmas.List.{append-nil, map-append}
use Rattle.std.proofs.lemmas.List.Elements.{filter-append}
use Rattle.std.proofs.lemmas.Slice.Eq.{bytes_eq-Decides}
use Rattle.flex_model.specs.declared.service.Service.{Service}
use Rattle.flex_model.specs.SoundTimes.{AreIds}
use Rattle.feed_meaning.specs.FeedValue.{day, exceptions, service_of}
use Rattle.feed_meaning.specs.Rules.{Values, is_text}
use Rattle.feed_meaning.specs.Tables.{values_of}
use Rattle.feed_tables.specs.Records.{RowFields}
use Rattle.feed_load.specs.Calendars.{calendars}
use Rattle.feed_load.specs.TableValues.{values_under}
use Rattle.feed_load.specs.Calendars.{with_exception}
use Rattle.feed_load.proofs.Texts.{values_more}
use Rattle.feed_load.proofs.Grouping.{equal, found_is, found_low, ids_differ, not_equal, not_found, one_changed, unchanged}
use Prim.Native.String.{String}

one-passes : {X Y : Type 0} (f : X → Y) (b : Bool) (x : X) → map f (cond b (x ∷ []) []) ≡ cond b (f x ∷ []) []
one-passes f true x = refl
one-passes f false x = refl

-- the dates of a kind after one more record
exceptions-more : (weeks dates : List Values) (r : Values) (id : List ℕ) (kind : String)
    → exceptions (calendars weeks (dates ++ r ∷ [])) id kind ≡ exceptions (calendars weeks dates) id kind ++ cond (bytes_eq id (r "service_id") && is_text (r "exception_type") kind) (day (r "date") ∷ []) []
exceptions-more weeks dates r id kind =
    let test : Values → Bool = λ s. bytes_eq id (s "service_id") && is_text (s "exception_type") kind in
    let on : Values → ℤ = λ s. day (s "date") in
    ap (map on) (filter-append test dates (r ∷ [])) ∙ map-append on (filter test dates) (cond (test r) (r ∷ []) [])
    ∙ ap (λ xs. map on (filter test dates) ++ xs) (one-passes on (test r) r)

-- a service with these dates in index of its own
with_dates : Service → List ℤ → List ℤ → Service
with_dates s added removed = record s { added = added; removed = removed }

one-kind : (kind : List ℕ) → is_text kind "1" ≡ true → is_text kind "2" ≡ false
one-kind kind e = ap (λ t. is_text t "2") ((bytes_eq-Decides kind (codes "1")).0 e)

changed-by : (s : Service) (d : ℤ) (a b : Bool) → (a ≡ true → b ≡ false)
    → with_dates s (s.added ++ cond a (d ∷ []) []) (s.removed ++ cond b (d ∷ []) [])
    ≡ cond a (record s { added = s.added ++ d ∷ [] }) (cond b (record s { removed = s.removed ++ d ∷ [] }) s)
unfolding with_dates
changed-by s d true b other = let e = other refl in ap (λ x. with_dates s (s.added ++ d ∷ []) (s.removed ++ cond x (d ∷ []) [])) e ∙ ap (with_dates s (s.added ++ d ∷ [])) (append-nil s.removed)
changed-by s d false true other = ap (λ x. with_dates s x (s.removed ++ d ∷ [])) (append-nil s.added)
changed-by s d false false other = ap (λ x. with_dates s x (s.removed ++ [])) (append-nil s.added) ∙ ap (with_dates s s.added) (append-nil s.removed)

-- the service of the record's id has its day, and each other service is as it was
service-more : (weeks dates : List Values) (r : Values) (id : List ℕ) (same : Bool) → bytes_eq id (r "service_id") ≡ same
    → service_of (calendars weeks (dates ++ r ∷ [])) id ≡ cond same (with_exception (r "exception_type") (day (r "date")) (service_of (calendars weeks dates) id)) (service_of (calendars weeks dates) id)
unfolding with_dates
service-more weeks dates r id same is =
    let s = service_of (calendars weeks dates) id in
    let d = day (r "date") in
    let one = is_text (r "exception_type") "1" in
    let two = is_text (r "exception_type") "2" in
    ap (λ x. with_dates s x (exceptions (calendars weeks (dates ++ r ∷ [])) id "2")) (exceptions-more weeks dates r id "1")
    ∙ ap (with_dates s (s.added ++ cond (bytes_eq id (r "service_id") && one) (d ∷ []) [])) (exceptions-more weeks dates r id "2")
    ∙ ap (λ b. with_dates s (s.added ++ cond (b && one) (d ∷ []) []) (s.removed ++ cond (b && two) (d ∷ []) [])) is
    ∙ by same
  where
    by : (b : Bool) → with_dates (service_of (calendars weeks dates) id)
        ((service_of (calendars weeks dates) id).added ++ cond (b && is_text (r "exception_type") "1") (day (r "date") ∷ []) [])
        ((service_of (calendars weeks dates) id).removed ++ cond (b && is_text (r "exception_type") "2") (day (r "date") ∷ []) [])
        ≡ cond b (with_exception (r "exception_type") (day (r "date")) (service_of (calendars weeks dates) id)) (service_of (calendars weeks dates) id)
    by true = changed-by (service_of (calendars weeks dates) id) (day (r "date")) (is_text (r "exception_type") "1") (is_text (r "exception_type") "2") (one-kind (r "exception_type"))
    by false = changed-by (service_of (calendars weeks dates) id) (day (r "date")) false false (λ e. refl)

-- the services after a record of the service at a index
pub services_more : (weeks : List Values) (ids : List (List ℕ)) → AreIds ids → (dates : List Values) (r : Values) (k : ℕ) (d : Service) → position (bytes_eq (r "service_id")) ids ≡ Some k
    → map (service_of (calendars weeks (dates ++ r ∷ []))) ids
    ≡ set (map (service_of (calendars weeks dates)) ids) k (with_exception (r "exception_type") (day (r "date")) (get_or (map (service_of (calendars weeks dates)) ids) k d))
services_more weeks ids are dates r k d e =
    one_changed (service_of (calendars weeks dates)) (service_of (calendars weeks (dates ++ r ∷ []))) (with_exception (r "exception_type") (day (r "date"))) ids k d [] (found_low ids (r "service_id") k e)
    (service-more weeks dates r (get_or ids k []) true (equal (get_or ids k []) (r "service_id") (found_is ids (r "service_id") k [] e)))
    (λ i f low ne. service-more weeks dates r (get_or ids i f) false (not_equal (get_or ids i f) (r "service_id") (λ h.
    ids_differ ids are i k f low (found_low ids (r "service_id") k e) ne (h ∙ sym (found_is ids (r "service_id") k f e)))))

-- and after a record of none of them
pub services_stay : (weeks : List Values) (ids : List (List ℕ)) (dates : List Values) (r : Values) → position (bytes_eq (r "service_id")) ids ≡ None
    → map (service_of (calendars weeks (dates ++ r ∷ []))) ids ≡ map (service_of (calendars weeks dates)) ids
services_stay weeks ids dates r e =
    unchanged (service_of (calendars weeks dates)) (service_of (calendars weeks (dates ++ r ∷ []))) ids
    (λ i d low. service-more weeks dates r (get_or ids i d) false (not_equal (get_or ids i d) (r "service_id") (λ h.
    false≢true (sym (not_found ids (r "service_id") i d e low) ∙ equal (r "service_id") (get_or ids i d) (sym h)))))

-- ---- a pass over the records

module _ (weeks : List Values) (ids : List (List ℕ)) (header : List (List ℕ)) (seen : List RowFields) (row : RowFields) (items : List Service)
    (earlier : items ≡ map (service_of (calendars weeks (values_under header seen))) ids) (id : List ℕ) (id_is : id ≡ values_of header row.fields "service_id") where
  abbrev r : Values
  r = values_of header row.fields

  abbrev before : List Service
  before = map (service_of (calendars weeks (values_under header seen))) ids

  -- one more record is of the service at a index
  pub date_noted : AreIds ids → (k : ℕ) (kind : List ℕ) (d : ℤ) (old new : Service) → position (bytes_eq id) ids ≡ Some k
      → kind ≡ values_of header row.fields "exception_type" → d ≡ day (values_of header row.fields "date")
      → old ≡ get_or items k old → new ≡ with_exception kind d old
      → set items k new ≡ map (service_of (calendars weeks (values_under header (seen ++ row ∷ [])))) ids
  date_noted are k kind d old new found kind_is d_is was becomes =
      ap (set items k) (becomes ∙ ap (with_exception kind d) was
      ∙ ap (λ x. with_exception x d (get_or items k old)) kind_is ∙ ap (λ x. with_exception (r "exception_type") x (get_or items k old)) d_is)
      ∙ ap (λ xs. set xs k (with_exception (r "exception_type") (day (r "date")) (get_or xs k old))) earlier
      ∙ sym (services_more weeks ids are (values_under header seen) r k old (ap (λ t. position (bytes_eq t) ids) (sym id_is) ∙ found))
      ∙ ap (λ vs. map (service_of (calendars weeks vs)) ids) (sym (values_more header seen row))

  -- or of none of them
  pub date_passed : position (bytes_eq id) ids ≡ None → items ≡ map (service_of (calendars weeks (values_under header (seen ++ row ∷ [])))) ids
  date_passed found =
      earlier ∙ sym (services_stay weeks ids (values_under header seen) r (ap (λ t. position (bytes_eq t) ids) (sym id_is) ∙ found))
      ∙ ap (λ vs. map (service_of (calendars weeks vs)) ids) (sym (values_more header seen row))
