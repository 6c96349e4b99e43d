-- Looking up the rule for a change in a list that rises by its two stops.
use Rattle.std.proofs.Common.{◌≡◌, ◌↔◌, ℕ, ◌<◌, List, Some, None, AllPairs, Contains, length, get_or, sym, ◌∙◌, ap, subst, inl, inr, arith}
use Rattle.std.proofs.lemmas.List.Elements.{Contains-get_or}
use Rattle.std.proofs.lemmas.Option.{none-some, same_Some}
use Rattle.flex_model.specs.declared.change.ChangeKind.{ChangeKind}
use Rattle.flex_model.specs.declared.change.ChangeKind.TheVariants.{Least}
use Rattle.flex_model.specs.declared.change.ChangeRow.{ChangeRow}
use Rattle.flex_model.specs.SoundFeed.{IsChangeBefore}
use Rattle.flex_model.proofs.Found.{item_of}

-- what indexing past the end would give
abbrev pub no_row : ChangeRow
no_row = record { from = 0; to = 0; kind = Least 0 }

abbrev row_of : ℕ → ℕ → ChangeKind → ChangeRow
row_of from to kind = record { from = from; to = to; kind = kind }

-- the row is the rule for this change
abbrev pub IsRule : ChangeRow → ℕ → ℕ → Type 0
IsRule row from to = (row.from ≡ from) × (row.to ≡ to)

-- two rules of a rising list are for different changes
one_rule : (x y : ChangeRow) (from to : ℕ) → IsChangeBefore x y → IsRule x from to → IsRule y from to → ⊥
one_rule x y from to (inl lt) p q = let e = p.0 in let f = q.0 in omega arith
one_rule x y from to (inr both) p q = let lt = both.1 in let e = p.1 in let f = q.1 in omega arith

module _ (changes : List ChangeRow) (rising : AllPairs IsChangeBefore changes) (from to : ℕ) where
  same_index : (i j : ℕ) → i < length changes → j < length changes → IsRule (get_or changes i no_row) from to → IsRule (get_or changes j no_row) from to → i ≡ j
  same_index i j p q at_i at_j =
      let not_before : i < j → ⊥ = λ lt. one_rule (get_or changes i no_row) (get_or changes j no_row) from to (rising i j no_row lt q) at_i at_j in
      let not_after : j < i → ⊥ = λ lt. one_rule (get_or changes j no_row) (get_or changes i no_row) from to (rising j i no_row lt p) at_j at_i in
      omega arith

  -- a rule that the list contains stands at its index
  rule_at : (kind : ChangeKind) (c : Contains changes (row_of from to kind)) → get_or changes c.0 no_row ≡ row_of from to kind
  rule_at kind c = item_of changes (row_of from to kind) no_row c

  pub found_kind : (i : ℕ) → i < length changes → IsRule (get_or changes i no_row) from to
      → (kind : ChangeKind) → Contains changes (row_of from to kind) ↔ (Some (get_or changes i no_row).kind ≡ Some kind)
  found_kind i within at_i kind = (there, back)
    where
      there : Contains changes (row_of from to kind) → Some (get_or changes i no_row).kind ≡ Some kind
      there c =
          let here = rule_at kind c in
          let same : c.0 ≡ i = same_index c.0 i c.1 within (ap (λ r. r.from) here, ap (λ r. r.to) here) at_i in
          ap (λ r. Some r.kind) (ap (λ k. get_or changes k no_row) (sym same) ∙ here)

      back : Some (get_or changes i no_row).kind ≡ Some kind → Contains changes (row_of from to kind)
      back e =
          let row = get_or changes i no_row in
          let its : row.kind ≡ kind = same_Some row.kind kind e in
          let is : row ≡ row_of from to kind =
          ap (λ a. row_of a row.to row.kind) at_i.0 ∙ ap (λ b. row_of from b row.kind) at_i.1 ∙ ap (row_of from to) its in
          subst (Contains changes) is (Contains-get_or changes i no_row within)

-- no row of the list is the rule
pub absent_kind : (changes : List ChangeRow) (from to : ℕ) → ((j : ℕ) → j < length changes → IsRule (get_or changes j no_row) from to → ⊥)
    → (kind : ChangeKind) → Contains changes (row_of from to kind) ↔ (None ≡ Some kind)
absent_kind changes from to none kind = (
  λ c. let here = item_of changes (row_of from to kind) no_row c in absurd (none c.0 c.1 (ap (λ r. r.from) here, ap (λ r. r.to) here)),
  λ e. absurd (none-some kind e),
)
