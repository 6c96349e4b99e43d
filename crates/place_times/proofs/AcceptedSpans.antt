-- The spans of an accepted table are in order, and have the seconds of their texts.
use Rattle.std.proofs.Common.{◌≡◌, ℕ, suc, ◌<◌, Bool, true, false, not, ◌&&◌, List, [], ◌∷◌, All, AllPairs, Option, None, Some, map, take, length, get_or, refl, sym, ◌∙◌, ap, arith, lit<, ◌⊎◌, inl, inr}
use Rattle.std.specs.Prelude.{IfOk, IsPermutation, IsSortedBy, Result, Ok, Err, is_none, unwrap_or}
use Rattle.std.specs.List.{list_any}
use Rattle.std.specs.Str.{bytes_eq}
use Rattle.std.proofs.lemmas.Bool.{and_parts, false≢true, not-false, or_cases, or_left, or_right, true≢false}
use Rattle.std.proofs.lemmas.List.{get_or-take, length-take-le}
use Rattle.std.proofs.lemmas.List.Folds.{list_any_at}
use Rattle.flex_model.specs.declared.fault.FaultCode.TheVariants as code
use Rattle.flex_model.specs.declared.fault.InputFile.{InputFile}
use Rattle.flex_model.specs.declared.feed.Feed.{Feed}
use Rattle.flex_model.specs.declared.place.Point.{Point}
use Rattle.flex_model.specs.declared.place.Stop.{Stop}
use Rattle.flex_model.specs.declared.times.Span.{Span}
use Rattle.flex_model.specs.declared.times.Times.{Times}
use Rattle.field_text.specs.Grammars.{count, id, number}
use Rattle.feed_meaning.specs.FeedValue.{rising}
use Rattle.feed_meaning.specs.QueryFaults.{is_point}
use Rattle.feed_meaning.specs.Rules.{Values, are_same_pairs, both, is_empty, is_no, repeats_ids, stand}
use Rattle.feed_meaning.specs.Tables.{Entry}
use Rattle.feed_meaning.specs.TimesFaults.{is_boarding_stop, is_place, is_stop, span_links, span_rules}
use Rattle.feed_meaning.specs.TimesValue.{place_named, point_of, span_before, span_of}
use Rattle.feed_meaning.proofs.FieldBounds.{count_is}
use Rattle.feed_meaning.proofs.IdFacts.{list_any-map}
use Rattle.feed_meaning.proofs.Kept.{AreKept, ObeysRules, is_kept, links_kept, records_keep}
use Rattle.feed_meaning.proofs.NamedLists.{filled_is_given}
use Rattle.feed_meaning.proofs.NamedStops.{any_weaker}
use Rattle.feed_meaning.proofs.Places.{AllPairs-map}
use Rattle.feed_meaning.proofs.PlacesNamed.{IsKnownPlace, one_place, spans_in_order}
use Rattle.feed_meaning.proofs.SoundChanges.{same_ids}
use Rattle.place_times.specs.Places.{AreAcceptedSpans, read_span}
use Rattle.place_times.proofs.SpanOrder.{rising_spans}

same-items : {R X : Type 0} (f g : R → X) (rs : List R) → ((i : ℕ) (d : R) → i < length rs → f (get_or rs i d) ≡ g (get_or rs i d)) → map f rs ≡ map g rs
same-items f g [] same = refl
same-items f g (r ∷ rs) same =
    ap (λ x. x ∷ map f rs) (same 0 r (omega arith)) ∙ ap (λ xs. g r ∷ xs) (same-items f g rs (λ i d low. same (suc i) d (omega arith)))

counted : (most : ℕ) (text : List ℕ) (o : Option ℕ) → count most text ≡ o → is_none o ≡ false → unwrap_or o 0 ≡ number text
counted most text None is kept = absurd (true≢false kept)
counted most text (Some n) is kept = sym (count_is most text n is).1

module _ (feed : Feed) (points : List Values) (most : ℕ) (rs : List Values) (alone : ObeysRules (span_rules most) rs) (linked : All (λ r. AreKept (span_links feed points r)) rs) where
  abbrev times : Times
  times = record { points = map point_of points; direct = []; walks = [] }

  known-place : (text : List ℕ) → is_place feed points text ≡ true → IsKnownPlace feed times text
  known-place text h = elim (or_cases (list_any (λ p. bytes_eq text (p "point_id")) points) (is_boarding_stop feed text) h) [
    | inl point ↦ or_right (is_stop feed text) (is_point times text) (list_any-map point_of (λ (p : Point). bytes_eq text p.id) points ∙ point)
    | inr stop ↦ or_left (is_stop feed text) (is_point times text)
        (any_weaker (λ (s : Stop). bytes_eq text s.id && s.boards) (λ (s : Stop). bytes_eq text s.id) feed.stops (λ s e. (and_parts (bytes_eq text s.id) s.boards e).0) stop)
  ]

  from-known : (i : ℕ) (d : Values) → i < length rs → IsKnownPlace feed times (get_or rs i d "from_id")
  from-known i d low = known-place (get_or rs i d "from_id") (not-false (is_place feed points (get_or rs i d "from_id"))
      (is_kept code.UnknownId (not (is_place feed points (get_or rs i d "from_id"))) (linked i d low 0 None (lit< tt))))

  to-known : (i : ℕ) (d : Values) → i < length rs → IsKnownPlace feed times (get_or rs i d "to_id")
  to-known i d low = known-place (get_or rs i d "to_id") (not-false (is_place feed points (get_or rs i d "to_id"))
      (is_kept code.UnknownId (not (is_place feed points (get_or rs i d "to_id"))) (linked i d low 1 None (lit< tt))))

  -- two records don't join the same places
  differ : (i j : ℕ) (d : Values) → i < j → j < length rs → get_or rs j d "from_id" ≡ get_or rs i d "from_id" → get_or rs j d "to_id" ≡ get_or rs i d "to_id" → ⊥
  differ i j d lt low e f =
      let r = get_or rs j d in
      let kept = alone.at j d low in
      let test : Values → Bool = λ x. stand (are_same_pairs bytes_eq bytes_eq) (both (id (r "from_id")) (id (r "to_id"))) (both (id (x "from_id")) (id (x "to_id"))) in
      let from_given = filled_is_given (r "from_id") (is_kept code.EmptyField (is_empty (r "from_id")) (kept 0 None (lit< tt))) in
      let to_given = filled_is_given (r "to_id") (is_kept code.EmptyField (is_empty (r "to_id")) (kept 1 None (lit< tt))) in
      let fresh : list_any test (take j rs) ≡ false = is_kept code.DuplicateKey (repeats_ids "from_id" "to_id" (take j rs) r) (kept 3 None (lit< tt)) in
      let there : get_or (take j rs) i d ≡ get_or rs i d = get_or-take j rs i d lt in
      false≢true (sym fresh ∙ list_any_at test (take j rs) i d (omega (arith, length-take-le j rs (omega (arith, low))))
      (ap test there ∙ same_ids (r "from_id") (r "to_id") (get_or rs i d "from_id") (get_or rs i d "to_id") from_given to_given e f))

  abbrev Ordered : Span → Span → Type 0
  Ordered x y = (span_before x y ≡ true) ⊎ (span_before y x ≡ true)

  pub spans_ordered : AllPairs Ordered (map (span_of feed (map point_of points)) rs)
  spans_ordered = AllPairs-map Ordered (span_of feed (map point_of points)) rs (λ i j d lt low.
      let a = get_or rs i d in
      let b = get_or rs j d in
      spans_in_order (span_of feed (map point_of points) a) (span_of feed (map point_of points) b) (λ e f.
      differ i j d lt low
      (one_place feed times (b "from_id") (a "from_id") (from-known j d low) (from-known i d (omega (arith, lt, low))) (sym e))
      (one_place feed times (b "to_id") (a "to_id") (to-known j d low) (to-known i d (omega (arith, lt, low))) (sym f))))

  pub spans_read : map (read_span feed (map point_of points) most) rs ≡ map (span_of feed (map point_of points)) rs
  spans_read = same-items (read_span feed (map point_of points) most) (span_of feed (map point_of points)) rs (λ i d low.
      let r = get_or rs i d in
      ap (λ (n : ℕ). record { from = place_named feed (map point_of points) (r "from_id"); to = place_named feed (map point_of points) (r "to_id"); seconds = n })
      (counted most (r "seconds") (count most (r "seconds")) refl (is_kept code.BadNumber (is_no (count most) (r "seconds")) (alone.at i d low 2 None (lit< tt)))))

-- the spans of an accepted table in order are its rising spans
pub accepted_spans : (feed : Feed) (points : List Values) (file : InputFile) (most : ℕ) (es : List Entry) (unsorted spans : List Span)
    → AreAcceptedSpans feed points file most es → unsorted ≡ map (read_span feed (map point_of points) most) (map (λ e. e.values) es)
    → IsPermutation unsorted spans → IsSortedBy span_before spans
    → spans ≡ rising span_before (map (span_of feed (map point_of points)) (map (λ e. e.values) es))
accepted_spans feed points file most es unsorted spans are read moved sorted =
    let rs = map (λ (e : Entry). e.values) es in
    let alone = records_keep file (span_rules most) es are.alone in
    let linked = links_kept file (span_links feed points) es are.linked in
    let is = read ∙ spans_read feed points most rs alone linked in
    sym (rising_spans (map (span_of feed (map point_of points)) rs) spans (spans_ordered feed points most rs alone linked)
    (Rattle.std.proofs.Common.subst (λ xs. IsPermutation xs spans) is moved) sorted)

-- what two facts of a result give
pub both_weaker : {X E : Type 0} (r : Result X E) (P Q R : X → Type 0) → ((x : X) → P x → Q x → R x) → IfOk r P → IfOk r Q → IfOk r R
both_weaker (Ok x) P Q R leads p q = leads x p q
both_weaker (Err e) P Q R leads p q = tt
