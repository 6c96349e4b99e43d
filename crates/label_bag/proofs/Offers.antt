-- What a bag holds after an offer.
use Rattle.std.proofs.Common.{◌≡◌, ◌⊎◌, inl, inr, ◌↔◌, ℕ, ◌+◌, ◌-◌, ◌<◌, ◌≤◌, Bool, true, false, IsTrue, Contains, List, [], ◌∷◌, ◌++◌, max, filter, get_or, length, take, drop, refl, sym, ◌∙◌, ap, subst, arith, append_assoc, length-append, length-take, add-one}
use Rattle.std.specs.List.{insert}
use Rattle.std.proofs.lemmas.Int.{ints}
use Rattle.std.proofs.lemmas.List.{drop_at, get_or_default, take-append-drop, take_at, take_more}
use Rattle.std.proofs.lemmas.List.Edits.{get_or-insert_above, length-insert}
use Rattle.std.proofs.Math.Seq.{drop-cons}
use Rattle.flex_model.specs.declared.answer.Pair.{Pair}
use Rattle.flex_model.specs.Triple.{CoversPair, IsPairBefore}
use Rattle.flex_model.specs.Deadline.{IsNoLater}
use Rattle.flex_model.proofs.Found.{All-from_contains}
use Rattle.flex_model.proofs.Orders.{IsNoLater_total, pairs_compared}
use Rattle.label_bag.specs.Bag.{AreUncovered, AreWithin, HasCovering, IsApart, IsBag, IsIndexFor, IsWithout}
use Rattle.label_bag.proofs.Splices.{filter_all, filter_keeps, filter_loses, in_back, in_front, in_whole, pairs_spliced, spliced_cases, spliced_here, spliced_keeps}
use Rattle.label_bag.proofs.Tests.{covers_none_before, decide_uncovered, of_true, to_bool, true_of}

read_there : {X : Type 0} (front : List X) (x : X) (back : List X) (n : ℕ) (d : X) → length front ≡ n → get_or ((front ++ x ∷ []) ++ back) n d ≡ x
read_there [] x back n d e = subst (λ m. get_or (x ∷ back) m d ≡ x) e refl
read_there (a ∷ front) x back n d e = subst (λ m. get_or (((a ∷ front) ++ x ∷ []) ++ back) m d ≡ x) e (read_there front x back (length front) d refl)

-- a test for the entries that the pair doesn't cover
abbrev pub stays_test : {T : Type 0} → Pair → Pair × T → Bool
stays_test {T} pair entry = to_bool (decide_uncovered pair entry.0)

pub stays_says : {T : Type 0} (pair : Pair) (entry : Pair × T) → IsTrue (stays_test pair entry) ↔ (CoversPair pair entry.0 → ⊥)
stays_says pair entry = (of_true (decide_uncovered pair entry.0), true_of (decide_uncovered pair entry.0))

false_of : (b : Bool) → (IsTrue b → ⊥) → b ≡ false
false_of true never = absurd (never refl)
false_of false never = refl

module _ {T : Type 0} (entries : List (Pair × T)) (pair : Pair) where
  -- nothing is taken out yet
  pub none_out : (to : ℕ) → AreUncovered entries pair to → IsWithout entries pair to entries
  none_out to uncovered stays says =
      let all = filter_all stays (drop to entries) (λ z c.
      let at = in_back entries to z c in
      (says z).1 (subst (λ e. CoversPair pair e.0 → ⊥) at.3 (uncovered at.0 z at.1 at.2))) in
      sym (ap (λ rest. take to entries ++ rest) all ∙ take-append-drop to entries)

  -- the entries as they stand before the one at this index is looked at
  module _ (left : ℕ) (now : List (Pair × T)) (entry : Pair × T) (within : left < length entries) (without : IsWithout entries pair (left + 1) now) where
    parts : (stays : Pair × T → Bool) → ((z : Pair × T) → IsTrue (stays z) ↔ (CoversPair pair z.0 → ⊥))
        → now ≡ (take left entries ++ get_or entries left entry ∷ []) ++ filter stays (drop (left + 1) entries)
    parts stays says = without stays says ∙ ap (λ front. front ++ filter stays (drop (left + 1) entries)) (take_more entries left entry within)

    count : length (take left entries) ≡ left
    count = let le = length-take left entries in omega arith

    rest_is : drop left entries ≡ get_or entries left entry ∷ drop (left + 1) entries
    rest_is = drop-cons entries left entry within ∙ ap (λ n. get_or entries left entry ∷ drop n entries) (sym (add-one left))

    -- it stands where it stood
    pub stands : entry ≡ get_or now left entry → entry ≡ get_or entries left entry
    stands is =
        is ∙ ap (λ these. get_or these left entry) (parts (stays_test pair) (stays_says pair))
        ∙ read_there (take left entries) (get_or entries left entry) (filter (stays_test pair) (drop (left + 1) entries)) left entry count

    -- it stays
    pub kept_left : entry ≡ get_or now left entry → (CoversPair pair entry.0 → ⊥) → IsWithout entries pair left now
    kept_left is never stays says =
        let x = get_or entries left entry in
        let passes : stays x ≡ true = (says x).1 (subst (λ z. CoversPair pair z.0 → ⊥) (stands is) never) in
        let front = take left entries in
        let back = filter stays (drop (left + 1) entries) in
        parts stays says ∙ append_assoc front (x ∷ []) back ∙ ap (λ rest. front ++ rest) (sym (filter_keeps stays x (drop (left + 1) entries) passes) ∙ ap (filter stays) (sym rest_is))

    -- it is taken out
    pub out_left : (after : List (Pair × T)) → entry ≡ get_or now left entry → CoversPair pair entry.0 → after ≡ take left now ++ drop (left + 1) now → IsWithout entries pair left after
    out_left after is covers out stays says =
        let x = get_or entries left entry in
        let fails : stays x ≡ false = false_of (stays x) (λ e. (says x).0 e (subst (λ z. CoversPair pair z.0) (stands is) covers)) in
        let front = take left entries in
        let back = filter stays (drop (left + 1) entries) in
        let longer : length (front ++ x ∷ []) ≡ left + 1 = simp length-append (omega (arith, count)) in
        let first : take left now ≡ front = ap (take left) (parts stays says ∙ append_assoc front (x ∷ []) back) ∙ take_at front (x ∷ back) left count in
        let second : drop (left + 1) now ≡ back = ap (drop (left + 1)) (parts stays says) ∙ drop_at (front ++ x ∷ []) back (left + 1) longer in
        let lost : filter stays (drop left entries) ≡ back = ap (filter stays) rest_is ∙ filter_loses stays x (drop (left + 1) entries) fails in
        out ∙ ap (λ these. these ++ drop (left + 1) now) first ∙ ap (λ these. front ++ these) (second ∙ sym lost)

module _ {T : Type 0} (entries : List (Pair × T)) (pair : Pair) (item : T) (at : ℕ) where
  -- beyond the reach nothing is covered, with the pair put in as well
  pub beyond_inserted : (end : ℕ) → at ≤ length entries → at ≤ end → AreUncovered entries pair end → AreUncovered (insert entries at (pair, item)) pair (end + 1)
  beyond_inserted end le from_ uncovered k d far within covers =
      let more = length-insert entries at (pair, item) le in
      let same = get_or-insert_above entries at (pair, item) d (k - 1) (omega arith) le in
      let e : (k - 1) + 1 ≡ k = omega arith in
      uncovered (k - 1) d (omega arith) (omega arith) (subst (λ z. CoversPair pair z.0) same (subst (λ n. CoversPair pair (get_or (insert entries at (pair, item)) n d).0) (sym e) covers))

  -- what is left is the entries before the pair, the pair, and those behind it that it doesn't cover
  pub left_over : (after : List (Pair × T)) → at ≤ length entries → IsWithout (insert entries at (pair, item)) pair (at + 1) after
      → after ≡ take at entries ++ (pair, item) ∷ filter (stays_test pair) (drop at entries)
  left_over after le without =
      let front = take at entries in
      let back = drop at entries in
      let count : length front ≡ at = let e = length-take at entries in omega arith in
      let longer : length (front ++ (pair, item) ∷ []) ≡ at + 1 = simp length-append (omega (arith, count)) in
      let split = sym (append_assoc front ((pair, item) ∷ []) back) in
      let first : take (at + 1) (insert entries at (pair, item)) ≡ front ++ (pair, item) ∷ [] = ap (take (at + 1)) split ∙ take_at (front ++ (pair, item) ∷ []) back (at + 1) longer in
      let second : drop (at + 1) (insert entries at (pair, item)) ≡ back = ap (drop (at + 1)) split ∙ drop_at (front ++ (pair, item) ∷ []) back (at + 1) longer in
      without (stays_test pair) (stays_says pair) ∙ ap (λ these. these ++ filter (stays_test pair) (drop (at + 1) (insert entries at (pair, item)))) first
      ∙ ap (λ these. (front ++ (pair, item) ∷ []) ++ filter (stays_test pair) these) second
      ∙ append_assoc front ((pair, item) ∷ []) (filter (stays_test pair) back)

  module _ (place : IsIndexFor entries pair at) (bag : IsBag entries) (free : HasCovering entries pair → ⊥) where
    entry_free : (k : ℕ) (d : Pair × T) → k < length entries → CoversPair (get_or entries k d).0 pair → ⊥
    entry_free k d within covers = free (get_or entries k d, (k, within, get_or_default entries k (get_or entries k d) d within), covers)

    -- what stays behind the pair stands behind it
    behind_pair : (other : Pair) → (IsPairBefore other pair → ⊥) → (CoversPair other pair → ⊥) → (CoversPair pair other → ⊥) → IsApart pair other
    behind_pair other no_before never not_covered = record {
      uncovered = not_covered;
      before = elim (pairs_compared pair other) [
        | inl before ↦ before
        | inr (inr after) ↦ absurd (no_before after)
        | inr (inl same) ↦ (
            let arrival = same.0 in
            let walk = same.1 in
            absurd (elim (IsNoLater_total pair.deadline other.deadline) [
              | inl booked ↦ never (agree_covers other pair (sym arrival) (sym walk) booked)
              | inr booked ↦ not_covered (agree_covers pair other arrival walk booked)
            ]))
      ];
    }
      where
        agree_covers : (a b : Pair) → a.arrival ≡ b.arrival → a.walk ≡ b.walk → IsNoLater b.deadline a.deadline → CoversPair a b
        agree_covers a b arrival walk booked = record { deadline = booked; arrival = omega (arith, ints); walk = omega arith }

    pub offered_bag : IsBag (take at entries ++ (pair, item) ∷ filter (stays_test pair) (drop at entries))
    offered_bag = pairs_spliced (λ a b. IsApart a.0 b.0) (stays_test pair) entries at (pair, item) bag
        (λ k d lt within. record { before = place.before k d lt; uncovered = entry_free k d within })
        (λ k d le within passes. behind_pair (get_or entries k d).0 (place.behind k d le within) (entry_free k d within) ((stays_says pair (get_or entries k d)).0 passes))

    pub offered_has : (entry : Pair × T) → Contains (take at entries ++ (pair, item) ∷ filter (stays_test pair) (drop at entries)) entry
        ↔ ((entry ≡ (pair, item)) ⊎ (Contains entries entry × (CoversPair pair entry.0 → ⊥)))
    offered_has entry = (
      λ c. elim (spliced_cases (stays_test pair) entries at (pair, item) entry c) [
        | inl same ↦ inl same
        | inr (inl front) ↦ (
            let first = in_front entries at entry front in
            inr (in_whole entries at entry (inl front), covers_none_before entry.0 pair (subst (λ z. IsPairBefore z.0 pair) first.3 (place.before first.0 entry first.1))))
        | inr (inr back) ↦ inr (in_whole entries at entry (inr back.0), (stays_says pair entry).0 back.1)
      ],
      λ h. elim h [
        | inl same ↦ subst (Contains (take at entries ++ (pair, item) ∷ filter (stays_test pair) (drop at entries))) (sym same) (spliced_here (stays_test pair) entries at (pair, item))
        | inr old ↦ spliced_keeps (stays_test pair) entries at (pair, item) entry old.0 ((stays_says pair entry).1 old.1)
      ],
    )

    pub offered_within : (longest : ℕ) → AreWithin entries longest → AreWithin (take at entries ++ (pair, item) ∷ filter (stays_test pair) (drop at entries)) (max longest pair.walk)
    offered_within longest within = All-from_contains (λ entry. entry.0.walk ≤ max longest pair.walk) (take at entries ++ (pair, item) ∷ filter (stays_test pair) (drop at entries))
        (λ entry c. elim ((offered_has entry).0 c) [
          | inl same ↦ (let e = ap (λ z. z.0.walk) same in omega arith)
          | inr old ↦ (let le = within old.0.0 entry old.0.1 in let e = ap (λ z. z.0.walk) old.0.2 in omega arith)
        ])
