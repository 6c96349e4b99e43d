-- Where pairs stand, and which of them can cover a pair.
use borrow.Author.Differences.{le-false, le-true}
use Rattle.std.proofs.Common.{int_le, ◌≡◌, inl, inr, ◌↔◌, ℕ, ℤ, Bool, true, false, IsTrue, ◌+◌, ◌<◌, ◌≤◌, ◌≤ℤ◌, List, length, slice_index_or, refl, sym, ◌∙◌, ap, subst, arith}
use Rattle.std.specs.List.Sorted.{IsPartitionPoint, IsPartitionedBy}
use Rattle.std.proofs.lemmas.Bool.{cases_lt, cases_order}
use Rattle.std.proofs.lemmas.Int.{ints}
use Rattle.std.proofs.lemmas.List.{get_or_default}
use Rattle.flex_model.specs.declared.answer.Pair.{Pair}
use Rattle.flex_model.specs.Deadline.{IsNoLater}
use Rattle.flex_model.specs.Triple.{CoversPair, IsPairBefore}
use Rattle.flex_model.proofs.Orders.{IsNoLater_total, IsNoLater_trans, IsPairBefore_trans}
use Rattle.label_bag.specs.Bag.{AreUncovered, HasCovering, IsBag, IsCountByThen, IsIndexFor}
use Rattle.label_bag.proofs.Tests.{decide_before, no_later, of_true, same_test, to_bool, true_of}

both : true ≡ false → ⊥
both e = cc

module _ {T : Type 0} (entries : List (Pair × T)) where
  -- whichever default, an index within the list has one entry
  pub by_entry : (S : Pair × T → Type 0) (n : ℕ) (entry : Pair × T) → n < length entries → entry ≡ slice_index_or entries n entry → S entry
      → (d : Pair × T) → S (slice_index_or entries n d)
  by_entry S n entry lt is s d = subst S (is ∙ get_or_default entries n entry d lt) s

-- what comes no later than a number that is no later than a third is no later than it
le_below : (a b n : ℤ) → a ≤ℤ b → int_le b n ≡ true → int_le a n ≡ true
le_below a b n h e = elim (int_le a n) as (λ v. int_le a n ≡ v → v ≡ true) [
  | true ↦ λ f. refl
  | false ↦ λ f. (let over = le-false a n f in let under = le-true b n e in absurd (omega (arith, ints)))
] refl

-- the pairs that arrive by then stand first, so that they can be counted by halving
module _ {T : Type 0} (entries : List (Pair × T)) (arrival : ℤ) where
  pub arrivals_part : IsBag entries → IsPartitionedBy (λ entry. int_le entry.0.arrival arrival) entries
  arrivals_part bag i j d le within holds = elim (cases_order i j) [
    | inl same ↦ subst (λ k. int_le (slice_index_or entries k d).0.arrival arrival ≡ true) (sym same) holds
    | inr (inl less) ↦ (
        let rises = no_later (slice_index_or entries i d).0 (slice_index_or entries j d).0 (bag i j d less within).before in
        le_below (slice_index_or entries i d).0.arrival (slice_index_or entries j d).0.arrival arrival rises holds)
    | inr (inr more) ↦ absurd (omega arith)
  ]

  pub counted : (count : ℕ) → count ≤ length entries
      → IsPartitionPoint (λ entry. int_le entry.0.arrival arrival ≡ true) (λ entry. int_le entry.0.arrival arrival ≡ false) entries count → IsCountByThen entries arrival count
  counted count within point = record {
    within = within;
    before = λ k d lt. (let e = le-true (slice_index_or entries k d).0.arrival arrival (point.0 k d (omega arith) lt) in omega (arith, ints));
    behind = λ k d le lt. (let e = le-false (slice_index_or entries k d).0.arrival arrival (point.1 k d le lt) in omega (arith, ints));
  }

-- whether an entry stands before the pair
abbrev pub before_test : {T : Type 0} → Pair → Pair × T → Bool
before_test {T} pair entry = to_bool (decide_before entry.0 pair)

pub before_same : {T : Type 0} (pair : Pair) (entry : Pair × T) (b : Bool) → IsTrue b ↔ IsPairBefore entry.0 pair → b ≡ before_test pair entry
before_same pair entry b h = same_test (decide_before entry.0 pair) b h

-- the pairs that stand before the pair stand first
module _ {T : Type 0} (entries : List (Pair × T)) (pair : Pair) where
  pub befores_part : IsBag entries → IsPartitionedBy (before_test pair) entries
  befores_part bag i j d le within holds = elim (cases_order i j) [
    | inl same ↦ subst (λ k. before_test pair (slice_index_or entries k d) ≡ true) (sym same) holds
    | inr (inl less) ↦ true_of (decide_before (slice_index_or entries i d).0 pair)
        (IsPairBefore_trans (slice_index_or entries i d).0 (slice_index_or entries j d).0 pair (bag i j d less within).before (of_true (decide_before (slice_index_or entries j d).0 pair) holds))
    | inr (inr more) ↦ absurd (omega arith)
  ]

  pub placed : (at : ℕ) → at ≤ length entries → IsPartitionPoint (λ entry. before_test pair entry ≡ true) (λ entry. before_test pair entry ≡ false) entries at → IsIndexFor entries pair at
  placed at within point = record {
    within = within;
    before = λ k d lt. of_true (decide_before (slice_index_or entries k d).0 pair) (point.0 k d (omega arith) lt);
    behind = λ k d le lt before. both (sym (true_of (decide_before (slice_index_or entries k d).0 pair) before) ∙ point.1 k d le lt);
  }

-- none of the entries from the one index to the other covers the pair
abbrev pub NoneCovers : {T : Type 0} → List (Pair × T) → Pair → ℕ → ℕ → Type 0
NoneCovers {T} entries pair from to = (k : ℕ) (d : Pair × T) → from ≤ k → k < to → CoversPair (slice_index_or entries k d).0 pair → ⊥

module _ {T : Type 0} (entries : List (Pair × T)) (pair : Pair) where
  -- where none that arrives no later covers the pair, none does
  pub none_covers : (count : ℕ) → IsCountByThen entries pair.arrival count → NoneCovers entries pair 0 count → HasCovering entries pair → ⊥
  none_covers count is none has =
      let entry = has.0 in
      let k : ℕ = has.1.0 in
      let covers : CoversPair (slice_index_or entries k entry).0 pair = subst (λ z. CoversPair z.0 pair) (sym has.1.2) has.2 in
      elim (cases_lt k count) [
        | inl less ↦ none k entry (omega arith) less covers
        | inr more ↦ (let late = is.behind k entry more has.1.1 in let early = covers.arrival in omega (arith, ints))
      ]

  -- one entry more, to the left
  pub one_left : (left count : ℕ) (entry : Pair × T) → left < length entries → entry ≡ slice_index_or entries left entry → (CoversPair entry.0 pair → ⊥)
      → NoneCovers entries pair (left + 1) count → NoneCovers entries pair left count
  one_left left count entry lt is never none k d from to covers = elim (cases_order k left) [
    | inl same ↦ by_entry entries (λ z. CoversPair z.0 pair → ⊥) left entry lt is never d (subst (λ n. CoversPair (slice_index_or entries n d).0 pair) same covers)
    | inr (inl less) ↦ omega arith
    | inr (inr more) ↦ none k d (omega arith) to covers
  ]

  pub none_of_both : (middle to : ℕ) → NoneCovers entries pair 0 middle → NoneCovers entries pair middle to → NoneCovers entries pair 0 to
  none_of_both middle to first second k d from_ to_ covers = elim (cases_lt k middle) [
    | inl less ↦ first k d from_ less covers
    | inr more ↦ second k d more to_ covers
  ]

  -- An entry that arrives no later, walks just as far and doesn't cover the pair would be covered by each earlier one
  -- that does, so there is none.
  pub walk_decides : (left : ℕ) (entry : Pair × T) → IsBag entries → left < length entries → entry ≡ slice_index_or entries left entry → entry.0.arrival ≤ℤ pair.arrival
      → entry.0.walk ≡ pair.walk → (CoversPair entry.0 pair → ⊥) → NoneCovers entries pair 0 left
  walk_decides left entry bag lt is arrives walks never k d from to covers =
      let earlier : Pair = (slice_index_or entries k d).0 in
      let apart = by_entry entries (λ z. IsPairBefore earlier z.0 × (CoversPair earlier z.0 → ⊥)) left entry lt is in
      let pairs = subst (λ z. IsPairBefore earlier z.0 × (CoversPair earlier z.0 → ⊥)) (get_or_default entries left d entry lt ∙ sym is)
      ((bag k left d to lt).before, (bag k left d to lt).uncovered) in
      let rises = no_later earlier entry.0 pairs.0 in
      let walk = covers.walk in
      elim (IsNoLater_total pair.deadline entry.0.deadline) [
        | inl booked ↦ never (record { deadline = booked; arrival = arrives; walk = omega arith })
        | inr less ↦ pairs.1 (record { deadline = IsNoLater_trans entry.0.deadline pair.deadline earlier.deadline less covers.deadline; arrival = rises; walk = omega arith })
      ]

  -- An entry with a later deadline that walks no farther would cover each later one that the pair covers, so there is none.
  pub reach_ends : (left : ℕ) (entry : Pair × T) → IsBag entries → left < length entries → entry ≡ slice_index_or entries left entry
      → (IsNoLater entry.0.deadline pair.deadline → ⊥) → entry.0.walk ≤ pair.walk → AreUncovered entries pair left
  reach_ends left entry bag lt is later walks k d from within covers = elim (cases_order k left) [
    | inl same ↦ (
        let here : CoversPair pair entry.0 = subst (λ z. CoversPair pair z.0) (ap (λ n. slice_index_or entries n d) same ∙ get_or_default entries left d entry lt ∙ sym is) covers in
        later here.deadline)
    | inr (inl less) ↦ omega arith
    | inr (inr more) ↦ (
        let behind : Pair = (slice_index_or entries k d).0 in
        let pairs = subst (λ z. IsPairBefore z.0 behind × (CoversPair z.0 behind → ⊥)) (get_or_default entries left d entry lt ∙ sym is)
        ((bag left k d more within).before, (bag left k d more within).uncovered) in
        let rises = no_later entry.0 behind pairs.0 in
        let farther = covers.walk in
        elim (IsNoLater_total entry.0.deadline pair.deadline) [
          | inl no_ ↦ later no_
          | inr booked ↦ pairs.1 (record { deadline = IsNoLater_trans behind.deadline pair.deadline entry.0.deadline covers.deadline booked; arrival = rises; walk = omega arith })
        ])
  ]
