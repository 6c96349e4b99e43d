-- The changes of tables without faults rise and are sound.
use Rattle.std.proofs.Common.{◌≡◌, ℕ, ◌<◌, Bool, true, false, not, ◌&&◌, ◌||◌, eqb, List, [], ◌∷◌, All, AllPairs, None, map, take, length, get_or, refl, sym, ◌∙◌, ap, arith, lit<, ◌⊎◌, inl, inr}
use Rattle.std.specs.Prelude.{if◌then◌else◌, nat_lt}
use Rattle.std.specs.List.{filter, list_any}
use Rattle.std.specs.Str.{bytes_eq}
use Rattle.std.proofs.lemmas.Bool.{and_from, and_parts, cases_order, eq-eqb, eqb-true, false_from_ne_true, false≢true, lt-ltb, ltb-true, not-true, or_cases, or_left, or_right}
use Rattle.std.proofs.lemmas.List.{get_or-take, length-take-le}
use Rattle.std.proofs.lemmas.List.Elements.{All-map, All-tail, All-filter, filter_passes}
use Rattle.std.proofs.lemmas.List.Folds.{list_any_at}
use Rattle.std.proofs.lemmas.List.Kept.{AllPairs-filter}
use Rattle.std.proofs.lemmas.Slice.Eq.{bytes_eq-Decides}
use Rattle.flex_model.specs.declared.change.ChangeKind.TheVariants.{Least, Forbidden}
use Rattle.flex_model.specs.declared.change.ChangeRow.{ChangeRow}
use Rattle.flex_model.specs.declared.fault.FaultCode.TheVariants as code
use Rattle.flex_model.specs.declared.fault.InputFile.TheVariants.{Stops, Transfers}
use Rattle.flex_model.specs.SoundFeed.{IsChangeBefore, IsSoundChange, IsSoundKind}
use Rattle.feed_tables.specs.Refusals.{is_given}
use Rattle.field_text.specs.Grammars.{count, id, number}
use Rattle.feed_meaning.specs.FeedFaults.{Feature}
use Rattle.feed_meaning.specs.FeedLinks.{Tables}
use Rattle.feed_meaning.specs.FeedRules.{change_rules, is_passed_over, transfer_rules}
use Rattle.feed_meaning.specs.FeedValue.{boards_at, change_before, change_of, is_change, rising}
use Rattle.feed_meaning.specs.Rules.{Rule, Values, are_same_pairs, both, is_bad, is_empty, is_text, repeats_ids, stand}
use Rattle.feed_meaning.proofs.FieldBounds.{number_low}
use Rattle.feed_meaning.proofs.Kept.{AreKept, is_kept}
use Rattle.feed_meaning.proofs.KeptFeeds.{KeepsFeedRules}
use Rattle.feed_meaning.proofs.NamedLists.{filled_is_given}
use Rattle.feed_meaning.proofs.NamedStops.{boards_at_index, boards_is_in, list_any-filter, same_text}
use Rattle.feed_meaning.proofs.Places.{AllPairs-map}
use Rattle.feed_meaning.proofs.RisingItems.{IsOrdered, rising_all, rising_rises}
use Rattle.feed_meaning.proofs.SoundLists.{feed}

-- ---- the order of changes

pub change_before_is : (x y : ChangeRow) → change_before x y ≡ true → IsChangeBefore x y
change_before_is x y e = elim (or_cases (nat_lt x.from y.from) (eqb x.from y.from && nat_lt x.to y.to) e) [
  | inl h ↦ inl (ltb-true x.from y.from h)
  | inr h ↦ let p = and_parts (eqb x.from y.from) (nat_lt x.to y.to) h in inr (eqb-true x.from y.from p.0, ltb-true x.to y.to p.1)
]

is_change_before : (x y : ChangeRow) → IsChangeBefore x y → change_before x y ≡ true
is_change_before x y (inl h) = or_left (nat_lt x.from y.from) (eqb x.from y.from && nat_lt x.to y.to) (lt-ltb x.from y.from h)
is_change_before x y (inr h) = or_right (nat_lt x.from y.from) (eqb x.from y.from && nat_lt x.to y.to) (and_from (eqb x.from y.from) (nat_lt x.to y.to) (eq-eqb x.from y.from h.0) (lt-ltb x.to y.to h.1))

not-before-itself : (x : ChangeRow) → IsChangeBefore x x → ⊥
not-before-itself x (inl h) = omega (arith, h)
not-before-itself x (inr h) = let lt = h.1 in omega (arith, lt)

change_irreflexive : (x : ChangeRow) → change_before x x ≡ false
change_irreflexive x = false_from_ne_true (change_before x x) (λ e. not-before-itself x (change_before_is x x e))

through : (x y z : ChangeRow) → IsChangeBefore x y → IsChangeBefore y z → IsChangeBefore x z
through x y z (inl h) (inl g) = inl (omega (arith, h, g))
through x y z (inl h) (inr g) = let e = g.0 in inl (omega (arith, h, e))
through x y z (inr h) (inl g) = let e = h.0 in inl (omega (arith, g, e))
through x y z (inr h) (inr g) = let a = h.0 in let b = g.0 in let c = h.1 in let d = g.1 in inr (omega (arith, a, b), omega (arith, c, d))

change_transitive : (x y z : ChangeRow) → change_before x y ≡ true → change_before y z ≡ true → change_before x z ≡ true
change_transitive x y z e f = is_change_before x z (through x y z (change_before_is x y e) (change_before_is y z f))

-- two changes that don't join the same stops are in order
in-order : (x y : ChangeRow) → (x.from ≡ y.from → x.to ≡ y.to → ⊥) → IsOrdered change_before change_irreflexive change_transitive x y
in-order x y differ = elim (cases_order x.from y.from) [
  | inl same ↦ elim (cases_order x.to y.to) [
    | inl same' ↦ absurd (differ same same')
    | inr (inl lt) ↦ inl (is_change_before x y (inr (same, lt)))
    | inr (inr lt) ↦ inr (is_change_before y x (inr (sym same, lt)))
  ]
  | inr (inl lt) ↦ inl (is_change_before x y (inl lt))
  | inr (inr lt) ↦ inr (is_change_before y x (inl lt))
]

-- ---- the rules of a transfer that isn't passed over

not-passed : (b : Bool) (earlier : List Values) (r : Values) (first : Rule) → b ≡ false → AreKept (first ∷ (if b then [] else change_rules earlier r)) → AreKept (change_rules earlier r)
not-passed false earlier r first e kept = All-tail (λ x. x ≡ None) first (change_rules earlier r) kept
not-passed true earlier r first e kept = cc

pub change_rules_kept : (earlier : List Values) (r : Values) → is_passed_over r ≡ false → AreKept (transfer_rules earlier r) → AreKept (change_rules (filter (λ e. not (is_passed_over e)) earlier) r)
change_rules_kept earlier r e kept = not-passed (is_passed_over r) (filter (λ x. not (is_passed_over x)) earlier) r _ e kept

-- what holds of a record that gives a change
record GivesChange (tables : Tables) (r : Values) : Type 0 where
  not_passed : is_passed_over r ≡ false
  from : boards_at tables (r "from_stop_id") ≡ true
  to : boards_at tables (r "to_stop_id") ≡ true

gives-change : (tables : Tables) (r : Values) → is_change tables r ≡ true → GivesChange tables r
gives-change tables r e =
    let last = and_parts (not (is_passed_over r) && (is_text (r "transfer_type") "2" || is_text (r "transfer_type") "3") && boards_at tables (r "from_stop_id")) (boards_at tables (r "to_stop_id")) e in
    let middle = and_parts (not (is_passed_over r) && (is_text (r "transfer_type") "2" || is_text (r "transfer_type") "3")) (boards_at tables (r "from_stop_id")) last.0 in
    let first = and_parts (not (is_passed_over r)) (is_text (r "transfer_type") "2" || is_text (r "transfer_type") "3") middle.0 in
    record { not_passed = not-true (is_passed_over r) first.0; from = middle.1; to = last.1 }

-- pairs of ids that are given and equal stand as one key
pub same_ids : (a b c d : List ℕ) → is_given a ≡ true → is_given b ≡ true → a ≡ c → b ≡ d → stand (are_same_pairs bytes_eq bytes_eq) (both (id a) (id b)) (both (id c) (id d)) ≡ true
same_ids [] b c d ga gb e f = absurd (false≢true ga)
same_ids (x ∷ a) [] c d ga gb e f = absurd (false≢true gb)
same_ids (x ∷ a) (y ∷ b) [] d ga gb e f = cc
same_ids (x ∷ a) (y ∷ b) (z ∷ c) [] ga gb e f = cc
same_ids (x ∷ a) (y ∷ b) (z ∷ c) (w ∷ d) ga gb e f = and_from (bytes_eq (x ∷ a) (z ∷ c)) (bytes_eq (y ∷ b) (w ∷ d)) ((bytes_eq-Decides (x ∷ a) (z ∷ c)).1 e) ((bytes_eq-Decides (y ∷ b) (w ∷ d)).1 f)

module _ (tables : Tables) (features : List Feature) (kept : KeepsFeedRules tables) where
  abbrev rs : List Values
  rs = tables Transfers

  rules-of : (i : ℕ) (d : Values) → i < length rs → is_change tables (get_or rs i d) ≡ true → AreKept (change_rules (filter (λ e. not (is_passed_over e)) (take i rs)) (get_or rs i d))
  rules-of i d low change = change_rules_kept (take i rs) (get_or rs i d) (gives-change tables (get_or rs i d) change).not_passed (kept.transfers.alone.at i d low)

  -- two records that give changes don't name the same stops
  differ : (i j : ℕ) (d : Values) → i < j → j < length rs → is_change tables (get_or rs i d) ≡ true → is_change tables (get_or rs j d) ≡ true
      → get_or rs j d "from_stop_id" ≡ get_or rs i d "from_stop_id" → get_or rs j d "to_stop_id" ≡ get_or rs i d "to_stop_id" → ⊥
  differ i j d lt low ci cj e f =
      let r = get_or rs j d in
      let earlier = take j rs in
      let kept_j = rules-of j d low cj in
      let key : Values → Bool = λ x. stand (are_same_pairs bytes_eq bytes_eq) (both (id (r "from_stop_id")) (id (r "to_stop_id"))) (both (id (x "from_stop_id")) (id (x "to_stop_id"))) in
      let test : Values → Bool = λ x. not (is_passed_over x) && key x in
      let from_given = filled_is_given (r "from_stop_id") (is_kept code.EmptyField (is_empty (r "from_stop_id")) (kept_j 0 None (lit< tt))) in
      let to_given = filled_is_given (r "to_stop_id") (is_kept code.EmptyField (is_empty (r "to_stop_id")) (kept_j 1 None (lit< tt))) in
      let fresh : list_any key (filter (λ x. not (is_passed_over x)) earlier) ≡ false =
      is_kept code.DuplicateKey (repeats_ids "from_stop_id" "to_stop_id" (filter (λ x. not (is_passed_over x)) earlier) r) (kept_j 3 None (lit< tt)) in
      let there : get_or earlier i d ≡ get_or rs i d = get_or-take j rs i d lt in
      let passes : test (get_or rs i d) ≡ true =
      and_from (not (is_passed_over (get_or rs i d))) (key (get_or rs i d)) (ap not (gives-change tables (get_or rs i d) ci).not_passed)
      (same_ids (r "from_stop_id") (r "to_stop_id") (get_or rs i d "from_stop_id") (get_or rs i d "to_stop_id") from_given to_given e f) in
      false≢true (sym fresh ∙ list_any-filter key (λ x. not (is_passed_over x)) earlier
      ∙ list_any_at test earlier i d (omega (arith, length-take-le j rs (omega (arith, low)))) (ap test there ∙ passes))

  abbrev InOrder : Values → Values → Type 0
  InOrder a b = is_change tables a ≡ true → is_change tables b ≡ true → IsOrdered change_before change_irreflexive change_transitive (change_of tables a) (change_of tables b)

  all-in-order : AllPairs InOrder rs
  all-in-order i j d lt low ci cj =
      let a = get_or rs i d in
      let b = get_or rs j d in
      let ga = gives-change tables a ci in
      let gb = gives-change tables b cj in
      in-order (change_of tables a) (change_of tables b) (λ e f.
      differ i j d lt low ci cj
      (same_text tables Stops "stop_id" (b "from_stop_id") (a "from_stop_id") (boards_is_in tables features kept (b "from_stop_id") gb.from) (boards_is_in tables features kept (a "from_stop_id") ga.from) (sym e))
      (same_text tables Stops "stop_id" (b "to_stop_id") (a "to_stop_id") (boards_is_in tables features kept (b "to_stop_id") gb.to) (boards_is_in tables features kept (a "to_stop_id") ga.to) (sym f)))

  abbrev found : List ChangeRow
  found = map (change_of tables) (filter (is_change tables) rs)

  found-in-order : AllPairs (IsOrdered change_before change_irreflexive change_transitive) found
  found-in-order = AllPairs-map (IsOrdered change_before change_irreflexive change_transitive) (change_of tables) (filter (is_change tables) rs) (λ i j d lt low.
      AllPairs-filter InOrder (is_change tables) rs all-in-order i j d lt low (filter_passes (is_change tables) rs i d (omega arith)) (filter_passes (is_change tables) rs j d low))

  -- of two changes one comes before the other
  pub changes_ordered : AllPairs (λ a b. (change_before a b ≡ true) ⊎ (change_before b a ≡ true)) (map (change_of tables) (filter (is_change tables) (tables Transfers)))
  changes_ordered = found-in-order

  pub changes_rise : AllPairs IsChangeBefore (feed tables features kept).changes
  changes_rise i j d lt low = change_before_is (get_or (rising change_before found) i d) (get_or (rising change_before found) j d) (rising_rises change_before change_irreflexive change_transitive found found-in-order i j d lt low)

  sound-kind : (r : Values) (b : Bool) → is_text (r "transfer_type") "2" ≡ b → (b && is_bad (count 86400) (r "min_transfer_time")) ≡ false
      → IsSoundKind (if b then Least (number (r "min_transfer_time")) else Forbidden)
  sound-kind r true e low = number_low 86400 (r "min_transfer_time") low
  sound-kind r false e low = tt

  pub changes_sound : All (IsSoundChange (feed tables features kept)) (feed tables features kept).changes
  changes_sound =
      rising_all change_before (IsSoundChange (feed tables features kept)) found
      (All-map (IsSoundChange (feed tables features kept)) (change_of tables) (filter (is_change tables) rs) (λ i d low.
      All-filter (is_change tables) (λ r. is_change tables r ≡ true → IsSoundChange (feed tables features kept) (change_of tables r)) rs sound i d low (filter_passes (is_change tables) rs i d low)))
    where
      sound : All (λ r. is_change tables r ≡ true → IsSoundChange (feed tables features kept) (change_of tables r)) rs
      sound i d low change =
          let r = get_or rs i d in
          let gives = gives-change tables r change in
          record {
            from = boards_at_index tables features kept (r "from_stop_id") gives.from;
            to = boards_at_index tables features kept (r "to_stop_id") gives.to;
            kind = sound-kind r (is_text (r "transfer_type") "2") refl (is_kept code.BadNumber (is_text (r "transfer_type") "2" && is_bad (count 86400) (r "min_transfer_time")) (rules-of i d low change 2 None (lit< tt)));
          }
