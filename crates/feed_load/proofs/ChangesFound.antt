-- The changes of the records of transfers.txt, after one more record.
use Rattle.std.proofs.Common.{◌≡◌, ℕ, Bool, true, false, cond, List, [], ◌∷◌, ◌++◌, All, Some, None, map, length, refl, sym, ◌∙◌, ap, subst, arith}
use Rattle.std.specs.Prelude.{filter}
use Rattle.std.proofs.lemmas.List.{append-nil, get_or_append_left, get_or_at, length-append, map-append}
use Rattle.std.proofs.lemmas.List.Elements.{filter-append}
use Rattle.flex_model.specs.declared.change.ChangeRow.{ChangeRow}
use Rattle.field_text.specs.Grammars.{some_if}
use Rattle.feed_tables.specs.Records.{RowFields}
use Rattle.feed_meaning.specs.FeedLinks.{Tables}
use Rattle.feed_meaning.specs.FeedValue.{change_of, is_change}
use Rattle.feed_meaning.specs.Rules.{Values}
use Rattle.feed_meaning.specs.Tables.{values_of}
use Rattle.feed_meaning.proofs.FieldBounds.{tested}
use Rattle.feed_load.specs.ChangeTables.{given_change}
use Rattle.feed_load.specs.TableValues.{values_under}
use Rattle.feed_load.proofs.Texts.{values_more}

-- ---- what holds of records and of one more

module _ (P : Values → Type 0) (header : List (List ℕ)) (seen : List RowFields) (row : RowFields) (all : All P (values_under header (seen ++ row ∷ []))) where
  abbrev vs : List Values
  vs = values_under header seen

  abbrev v : Values
  v = values_of header row.fields

  all' : All P (vs ++ v ∷ [])
  all' = subst (All P) (values_more header seen row) all

  pub holds_earlier : All P vs
  holds_earlier i d low = subst P (get_or_append_left vs (v ∷ []) d i low) (all' i d (omega (arith, length-append vs (v ∷ []))))

  pub holds_here : P v
  holds_here = subst P (get_or_at vs v [] v (length vs) refl) (all' (length vs) v (omega (arith, length-append vs (v ∷ []))))

-- ---- the changes

module _ (tables : Tables) (header : List (List ℕ)) (seen : List RowFields) (row : RowFields) where
  abbrev changes : List Values → List ChangeRow
  changes rs = map (change_of tables) (filter (is_change tables) rs)

  abbrev here : Values
  here = values_of header row.fields

  changes-more : (b : Bool) → is_change tables here ≡ b
      → changes (values_under header (seen ++ row ∷ [])) ≡ changes (values_under header seen) ++ cond b (change_of tables here ∷ []) []
  changes-more b is =
      let earlier = values_under header seen in
      ap changes (values_more header seen row)
      ∙ ap (map (change_of tables)) (filter-append (is_change tables) earlier (here ∷ []))
      ∙ map-append (change_of tables) (filter (is_change tables) earlier) (cond (is_change tables here) (here ∷ []) [])
      ∙ ap (λ c. changes earlier ++ map (change_of tables) (cond c (here ∷ []) [])) is ∙ ap (λ xs. changes earlier ++ xs) (by b)
    where
      by : (c : Bool) → map (change_of tables) (cond c (here ∷ []) []) ≡ cond c (change_of tables here ∷ []) []
      by true = refl
      by false = refl

  untested : (test : Bool) (x : ChangeRow) → None ≡ some_if test x → test ≡ false
  untested false x e = refl
  untested true x e = cc

  -- the record gives one
  pub change_added : (items : List ChangeRow) (change : ChangeRow) → items ≡ changes (values_under header seen) → Some change ≡ given_change tables (values_of header row.fields)
      → items ++ change ∷ [] ≡ changes (values_under header (seen ++ row ∷ []))
  change_added items change earlier e =
      let t = tested (is_change tables here) (change_of tables here) change (sym e) in
      ap (λ xs. xs ++ change ∷ []) earlier ∙ ap (λ x. changes (values_under header seen) ++ x ∷ []) (sym t.1) ∙ sym (changes-more true t.0)

  -- or none
  pub change_passed : (items : List ChangeRow) → items ≡ changes (values_under header seen) → None ≡ given_change tables (values_of header row.fields)
      → items ≡ changes (values_under header (seen ++ row ∷ []))
  change_passed items earlier e =
      earlier ∙ sym (append-nil (changes (values_under header seen))) ∙ sym (changes-more false (untested (is_change tables here) (change_of tables here) e))
