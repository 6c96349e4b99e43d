-- The stop with an id, and whether one can board there.
use Rattle.std.proofs.Common.{◌≡◌, ◌≢◌, ℕ, ◌<◌, Bool, true, false, ◌&&◌, List, [], Some, None, length, get_or, refl, sym, ◌∙◌, ap, arith, inl, inr}
use Rattle.std.specs.Prelude.{position, unwrap_or}
use Rattle.std.specs.Str.{bytes_eq}
use Rattle.std.proofs.lemmas.Bool.{and_from, and_left, and_right, cases_eq}
use Rattle.std.proofs.lemmas.List.{get_or-map, length-map}
use Rattle.std.proofs.lemmas.List.Folds.{list_any_at, list_any_none}
use Rattle.flex_model.specs.declared.fault.InputFile.TheVariants.{Stops}
use Rattle.flex_model.specs.declared.place.Stop.{Stop}
use Rattle.field_text.specs.Grammars.{some_if}
use Rattle.feed_meaning.specs.FeedLinks.{Tables}
use Rattle.feed_meaning.specs.FeedRules.{is_boarding}
use Rattle.feed_meaning.specs.FeedValue.{boards_at, index_in, stop_of}
use Rattle.feed_meaning.specs.Rules.{Values}
use Rattle.feed_meaning.proofs.LinkFacts.{index_in-position}
use Rattle.feed_load.specs.ChangeTables.{AreStopsOf, boarding_stop_at}
use Rattle.feed_load.proofs.Grouping.{equal, found_is, found_low, ids_differ, not_equal, not_found}

if-false : {X : Type 0} (b : Bool) (x : X) → b ≡ false → None ≡ some_if b x
if-false false x e = refl
if-false true x e = cc

if-true : {X : Type 0} (b : Bool) (x y : X) → b ≡ true → x ≡ y → Some x ≡ some_if b y
if-true true x y e f = ap Some f
if-true false x y e f = cc

module _ (tables : Tables) (stops : List Stop) (ids : List (List ℕ)) (are : AreStopsOf stops ids tables) (text : List ℕ) where
  abbrev rs : List Values
  rs = tables Stops

  abbrev test : Values → Bool
  test s = bytes_eq text (s "stop_id") && is_boarding s

  id-at : (k : ℕ) (d : Values) → k < length rs → get_or ids k [] ≡ get_or rs k d "stop_id"
  id-at k d low = ap (λ xs. get_or xs k []) are.ids_are ∙ get_or-map (λ (s : Values). s "stop_id") rs k d [] low

  size : length ids ≡ length rs
  size = ap length are.ids_are ∙ length-map rs (λ (s : Values). s "stop_id")

  index-is : (k : ℕ) → position (bytes_eq text) ids ≡ Some k → k ≡ index_in tables Stops "stop_id" text
  index-is k e =
      ap (λ o. unwrap_or o 0) (sym e) ∙ ap (λ xs. unwrap_or (position (bytes_eq text) xs) 0) are.ids_are
      ∙ sym (index_in-position tables Stops "stop_id" text)

  -- a text that is no id
  pub unknown_stop : position (bytes_eq text) ids ≡ None → None ≡ boarding_stop_at tables text
  unknown_stop e =
      if-false (boards_at tables text) (index_in tables Stops "stop_id" text)
      (list_any_none test rs (λ k d low.
      let none = not_found ids text k [] e (omega (arith, size)) in
      and_left (bytes_eq text (get_or rs k d "stop_id")) (is_boarding (get_or rs k d)) (ap (bytes_eq text) (sym (id-at k d low)) ∙ none)))

  module _ (k : ℕ) (found : position (bytes_eq text) ids ≡ Some k) where
    low : k < length rs
    low = let l = found_low ids text k found in omega (arith, size, l)

    module _ (stop : Stop) (is : stop ≡ get_or stops k stop) where
      boards-is : (d : Values) → stop.boards ≡ is_boarding (get_or rs k d)
      boards-is d = ap (λ (s : Stop). s.boards) (is ∙ ap (λ xs. get_or xs k stop) are.stops_are ∙ get_or-map stop_of rs k d stop low)

      -- one can board there
      pub boards_there : stop.boards ≡ true → Some k ≡ boarding_stop_at tables text
      boards_there boards =
          let d : Values = λ name. [] in
          if-true (boards_at tables text) k (index_in tables Stops "stop_id" text)
          (list_any_at test rs k d low
          (and_from (bytes_eq text (get_or rs k d "stop_id")) (is_boarding (get_or rs k d)) (equal text (get_or rs k d "stop_id") (sym (found_is ids text k [] found) ∙ id-at k d low)) (sym (boards-is d) ∙ boards)))
          (index-is k found)

      -- or not, and so at no stop with this id
      pub boards_nowhere : stop.boards ≡ false → None ≡ boarding_stop_at tables text
      boards_nowhere boards =
          if-false (boards_at tables text) (index_in tables Stops "stop_id" text) (list_any_none test rs fails)
        where
          other : (j : ℕ) (d : Values) → j < length rs → j ≢ k → text ≢ get_or rs j d "stop_id"
          other j d at_j ne e =
              ids_differ ids are.distinct j k [] (omega (arith, size)) (omega (arith, size, low)) ne (id-at j d at_j ∙ sym e ∙ sym (found_is ids text k [] found))

          fails : (j : ℕ) (d : Values) → j < length rs → test (get_or rs j d) ≡ false
          fails j d at_j = elim (cases_eq j k) [
            | inl e ↦ and_right (bytes_eq text (get_or rs j d "stop_id")) (is_boarding (get_or rs j d)) (ap (λ n. is_boarding (get_or rs n d)) e ∙ sym (boards-is d) ∙ boards)
            | inr ne ↦ and_left (bytes_eq text (get_or rs j d "stop_id")) (is_boarding (get_or rs j d)) (not_equal text (get_or rs j d "stop_id") (other j d at_j ne))
          ]
