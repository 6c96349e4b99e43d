-- Looking up the rule for a change by halving a list that rises by its two stops.
use Rattle.std.proofs.Common.{◌≡◌, ◌⊎◌, ◌↔◌, ℕ, ◌<◌, ◌≤◌, List, Some, None, AllPairs, Contains, Ordering, Less, Equal, Greater, nat_cmp, length, get_or, refl, sym, ◌∙◌, ap, subst, inl, inr, arith}
use Rattle.std.proofs.lemmas.Bool.{cases_lt}
use Rattle.std.specs.List.Sorted.{IsNonDecreasingBy, IsPartitionPoint}
use Rattle.std.specs.Ordering.{ordering_index, ordering_then}
use Rattle.flex_model.specs.declared.change.ChangeKind.{ChangeKind}
use Rattle.flex_model.specs.declared.change.ChangeRow.{ChangeRow}
use Rattle.flex_model.specs.SoundFeed.{IsChangeBefore}
use Rattle.transfers.proofs.ChangeRows.{IsRule, absent_kind, found_kind, no_row}
use Rattle.flex_model.proofs.Spans.{nat_equal, nat_rises, nat_same}
use Rattle.transfers.specs.ChangeOrder.{change_cmp}

then_equal : (o p : Ordering) → ordering_then o p ≡ Equal → (o ≡ Equal) × (p ≡ Equal)
then_equal Less p e = cc
then_equal Equal p e = (refl, e)
then_equal Greater p e = cc

-- the first comparison is the same for both, and of the second one is less or the other greater
then_rises : (o p q : Ordering) → (p ≡ Less) ⊎ (q ≡ Greater) → (ordering_then o p ≡ Less) ⊎ (ordering_then o q ≡ Greater)
then_rises Less p q h = inl refl
then_rises Equal p q h = h
then_rises Greater p q h = inr refl

index_at_most : (o : Ordering) → ordering_index o ≤ 2
index_at_most Less = omega arith
index_at_most Equal = omega arith
index_at_most Greater = omega arith

-- of two rules in order the first is before the change, or the second is after it
change_rises : (from to : ℕ) (x y : ChangeRow) → IsChangeBefore x y → (change_cmp from to x ≡ Less) ⊎ (change_cmp from to y ≡ Greater)
change_rises from to x y (inl lt) =
    elim (nat_rises x.from y.from from lt) [
      | inl less ↦ inl (ap (λ o. ordering_then o (nat_cmp x.to to)) less)
      | inr greater ↦ inr (ap (λ o. ordering_then o (nat_cmp y.to to)) greater)
    ]
change_rises from to x y (inr both) =
    subst (λ start. (change_cmp from to x ≡ Less) ⊎ (ordering_then (nat_cmp start from) (nat_cmp y.to to) ≡ Greater)) both.0
    (then_rises (nat_cmp x.from from) (nat_cmp x.to to) (nat_cmp y.to to) (nat_rises x.to y.to to both.1))

change_monotone : (from to : ℕ) (x y : ChangeRow) → IsChangeBefore x y → ordering_index (change_cmp from to x) ≤ ordering_index (change_cmp from to y)
change_monotone from to x y p =
    elim (change_rises from to x y p) [
      | inl less ↦ (let e = ap ordering_index less in omega (arith, e))
      | inr greater ↦ (let e = ap ordering_index greater in omega (arith, e, index_at_most (change_cmp from to x)))
    ]

-- a rule for the change compares as equal
rule_equal : (row : ChangeRow) (from to : ℕ) → IsRule row from to → change_cmp from to row ≡ Equal
rule_equal row from to is =
    ap (λ a. ordering_then (nat_cmp a from) (nat_cmp row.to to)) is.0
    ∙ ap (λ o. ordering_then o (nat_cmp row.to to)) (nat_same from)
    ∙ ap (λ b. nat_cmp b to) is.1 ∙ nat_same to

equal_rule : (row : ChangeRow) (from to : ℕ) → change_cmp from to row ≡ Equal → IsRule row from to
equal_rule row from to e =
    let both = then_equal (nat_cmp row.from from) (nat_cmp row.to to) e in
    (nat_equal row.from from both.0, nat_equal row.to to both.1)

module _ (changes : List ChangeRow) (rising : AllPairs IsChangeBefore changes) (from to : ℕ) where
  pub answers_rise : IsNonDecreasingBy (λ row. ordering_index (change_cmp from to row)) changes
  answers_rise i j d le within =
      elim (cases_lt i j) [
        | inl lt ↦ change_monotone from to (get_or changes i d) (get_or changes j d) (rising i j d lt within)
        | inr ge ↦ (let same : i ≡ j = omega arith in subst (λ k. ordering_index (change_cmp from to (get_or changes k d)) ≤ ordering_index (change_cmp from to (get_or changes j d))) (sym same) (omega arith))
      ]

  pub kind_found : (i : ℕ) → i < length changes → change_cmp from to (get_or changes i no_row) ≡ Equal
      → (kind : ChangeKind) → Contains changes (record { from = from; to = to; kind = kind }) ↔ (Some (get_or changes i no_row).kind ≡ Some kind)
  kind_found i within e = found_kind changes rising from to i within (equal_rule (get_or changes i no_row) from to e)

  pub kind_absent : (i : ℕ) → IsPartitionPoint (λ row. change_cmp from to row ≡ Less) (λ row. change_cmp from to row ≡ Greater) changes i
      → (kind : ChangeKind) → Contains changes (record { from = from; to = to; kind = kind }) ↔ (None ≡ Some kind)
  kind_absent i parts = absent_kind changes from to (λ j within rule.
      let equal = rule_equal (get_or changes j no_row) from to rule in
      elim (cases_lt j i) [
        | inl lt ↦ (let less = parts.0 j no_row (omega arith) lt in cc)
        | inr ge ↦ (let greater = parts.1 j no_row ge within in cc)
      ])
