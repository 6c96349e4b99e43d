-- Stops that other tables name.
use Rattle.std.proofs.Common.{◌≡◌, ℕ, ◌<◌, Bool, true, false, not, ◌&&◌, ◌||◌, cond, List, [], ◌∷◌, Some, map, length, get_or, refl, sym, ◌∙◌, ap, arith, inl, inr}
use Rattle.std.specs.List.{filter, list_any}
use Rattle.std.specs.Str.{bytes_eq}
use Rattle.std.proofs.lemmas.Bool.{and_from, and_parts, cases_order, false_from_ne_true, false≢true, not-false, or_cases, or_left, or_right}
use Rattle.std.proofs.lemmas.List.{get_or-map, length-map}
use Rattle.std.proofs.lemmas.List.Folds.{list_any_at}
use Rattle.std.proofs.lemmas.Option.{slice_get-get_or}
use Rattle.std.proofs.lemmas.Slice.Eq.{bytes_eq-Decides}
use Rattle.flex_model.specs.declared.fault.InputFile.{InputFile}
use Rattle.flex_model.specs.declared.fault.InputFile.TheVariants.{Stops}
use Rattle.flex_model.specs.Place.{HasBoards}
use Rattle.feed_meaning.specs.FeedFaults.{Feature}
use Rattle.feed_meaning.specs.FeedLinks.{Tables, is_in, is_station}
use Rattle.feed_meaning.specs.FeedRules.{is_boarding}
use Rattle.feed_meaning.specs.FeedValue.{boards_at, index_in, first_index, stop_of}
use Rattle.feed_meaning.specs.Rules.{Values}
use Rattle.feed_meaning.proofs.KeptFeeds.{KeepsFeedRules}
use Rattle.feed_meaning.proofs.NamedLists.{ids-differ}
use Rattle.feed_meaning.proofs.Places.{place_passes}
use Rattle.feed_meaning.proofs.SoundLists.{feed, index_low, stop_ids}
use Prim.Native.String.{String}

-- a weaker test passes where a stronger one does
pub any_weaker : {X : Type 0} (p q : X → Bool) (xs : List X) → ((x : X) → p x ≡ true → q x ≡ true) → list_any p xs ≡ true → list_any q xs ≡ true
any_weaker p q [] imp e = absurd (false≢true e)
any_weaker p q (x ∷ xs) imp e = elim (or_cases (p x) (list_any p xs) e) [
  | inl h ↦ or_left (q x) (list_any q xs) (imp x h)
  | inr h ↦ or_right (q x) (list_any q xs) (any_weaker p q xs imp h)
]

-- the items that pass one test and then another pass both
pub list_any-filter : {X : Type 0} (p q : X → Bool) (xs : List X) → list_any p (filter q xs) ≡ list_any (λ x. q x && p x) xs
list_any-filter p q [] = refl
list_any-filter p q (x ∷ xs) = one (q x) ∙ ap (λ b. (q x && p x) || b) (list_any-filter p q xs)
  where
    one : (b : Bool) → list_any p (cond b (x ∷ filter q xs) (filter q xs)) ≡ ((b && p x) || list_any p (filter q xs))
    one true = refl
    one false = refl

-- the record at the index of a text that is there has that text
pub text_at_index : (tables : Tables) (file : InputFile) (column : String) (text : List ℕ) (d : Values) → is_in tables file column text ≡ true
    → text ≡ get_or (tables file) (index_in tables file column text) d column
text_at_index tables file column text d here = (bytes_eq-Decides text (get_or (tables file) (index_in tables file column text) d column)).0 ((place_passes (λ s. bytes_eq text (s column)) (tables file) here).1 d)

-- texts with one index are one text
pub same_text : (tables : Tables) (file : InputFile) (column : String) (a b : List ℕ) → is_in tables file column a ≡ true → is_in tables file column b ≡ true
    → index_in tables file column a ≡ index_in tables file column b → a ≡ b
same_text tables file column a b in_a in_b e =
    let d : Values = λ name. [] in
    text_at_index tables file column a d in_a ∙ ap (λ k. get_or (tables file) k d column) e ∙ sym (text_at_index tables file column b d in_b)

module _ (tables : Tables) (features : List Feature) (kept : KeepsFeedRules tables) where
  abbrev stops : List Values
  stops = tables Stops

  -- the record of a stop where one can board
  pub boards_there : (k : ℕ) (d : Values) → k < length stops → is_boarding (get_or stops k d) ≡ true → HasBoards (feed tables features kept) k
  boards_there k d low boards =
      let size = length-map stops stop_of in (
        stop_of (get_or stops k d),
        slice_get-get_or (map stop_of stops) k (stop_of (get_or stops k d)) (omega (arith, low, size)) ∙ ap Some (get_or-map stop_of stops k d (stop_of (get_or stops k d)) low),
        boards,
      )

  same-place : (i j : ℕ) (d : Values) → i < length stops → j < length stops → get_or stops i d "stop_id" ≡ get_or stops j d "stop_id" → i ≡ j
  same-place i j d low low' e = elim (cases_order i j) [
    | inl h ↦ h
    | inr (inl lt) ↦ absurd (ids-differ "stop_id" stops (stop_ids stops kept.stops.alone) i j d lt low' e)
    | inr (inr lt) ↦ absurd (ids-differ "stop_id" stops (stop_ids stops kept.stops.alone) j i d lt low (sym e))
  ]

  pub boards_is_in : (text : List ℕ) → boards_at tables text ≡ true → is_in tables Stops "stop_id" text ≡ true
  boards_is_in text h = any_weaker (λ s. bytes_eq text (s "stop_id") && is_boarding s) (λ s. bytes_eq text (s "stop_id")) stops (λ s e. (and_parts (bytes_eq text (s "stop_id")) (is_boarding s) e).0) h

  -- a text that some stop where one can board has
  pub boards_at_index : (text : List ℕ) → boards_at tables text ≡ true → HasBoards (feed tables features kept) (index_in tables Stops "stop_id" text)
  boards_at_index text h =
      let d : Values = λ name. [] in
      let here = boards_is_in text h in
      let k = index_in tables Stops "stop_id" text in
      let low = index_low tables Stops "stop_id" text here in
      let found = place_passes (λ s. bytes_eq text (s "stop_id") && is_boarding s) stops h in
      let m = first_index (λ s. bytes_eq text (s "stop_id") && is_boarding s) stops in
      let parts = and_parts (bytes_eq text (get_or stops m d "stop_id")) (is_boarding (get_or stops m d)) (found.1 d) in
      let same : k ≡ m = same-place k m d low found.0 (sym (text_at_index tables Stops "stop_id" text d here) ∙ (bytes_eq-Decides text (get_or stops m d "stop_id")).0 parts.0) in
      boards_there k d low (ap (λ n. is_boarding (get_or stops n d)) same ∙ parts.1)

  -- a text that is there, and is the id of no station
  pub no_station_boards : (text : List ℕ) → is_in tables Stops "stop_id" text ≡ true → is_station tables text ≡ false → HasBoards (feed tables features kept) (index_in tables Stops "stop_id" text)
  no_station_boards text here none =
      let d : Values = λ name. [] in
      let k = index_in tables Stops "stop_id" text in
      let low = index_low tables Stops "stop_id" text here in
      let passes = (place_passes (λ s. bytes_eq text (s "stop_id")) stops here).1 d in
      boards_there k d low (not-false (is_boarding (get_or stops k d)) (by k d low passes))
    where
      by : (k : ℕ) (d : Values) → k < length stops → bytes_eq text (get_or stops k d "stop_id") ≡ true → not (is_boarding (get_or stops k d)) ≡ false
      by k d low passes = false_from_ne_true (not (is_boarding (get_or stops k d))) (λ e.
          false≢true (sym none ∙ list_any_at (λ s. bytes_eq text (s "stop_id") && not (is_boarding s)) stops k d low (and_from (bytes_eq text (get_or stops k d "stop_id")) (not (is_boarding (get_or stops k d))) passes e)))
