-- The latest deadline of the pairs that arrive by then.
use Rattle.std.proofs.Common.{◌≡◌, ◌⊎◌, inl, inr, ℕ, ◌+◌, ℤ, ◌<◌, ◌≤◌, ◌≤ℤ◌, Option, Some, None, IfSome, List, [], ◌∷◌, length, slice_index_or, refl, sym, ◌∙◌, ap, subst, arith}
use Rattle.std.proofs.lemmas.Bool.{cases_lt, cases_order}
use Rattle.std.proofs.lemmas.Int.{ints}
use Rattle.std.proofs.lemmas.List.{get_or_default}
use Rattle.std.proofs.lemmas.Option.{none-some, same_Some}
use Rattle.flex_model.specs.declared.answer.Pair.{Pair}
use Rattle.flex_model.specs.declared.moment.Deadline.{Deadline}
use Rattle.flex_model.specs.Deadline.{IsNoLater}
use Rattle.flex_model.proofs.Orders.{IsNoLater_total, IsNoLater_trans}
use Rattle.label_bag.specs.Bag.{AreWithin, IsBag, IsBestBy, IsCountByThen}
use Rattle.label_bag.proofs.Tests.{no_later}

-- the latest deadline of the entries from the one index to the other
pub record IsLatestOf {T : Type 0} (entries : List (Pair × T)) (from to : ℕ) (best : Option Deadline) : Type 0 where
  pub none : best ≡ None → to ≤ from
  pub one : (deadline : Deadline) → best ≡ Some deadline
      → (k : ℕ) × (from ≤ k) × (k < to) × ((d : Pair × T) → (slice_index_or entries k d).0.deadline ≡ deadline)
  pub latest : (deadline : Deadline) → best ≡ Some deadline → (k : ℕ) (d : Pair × T) → from ≤ k → k < to
      → IsNoLater (slice_index_or entries k d).0.deadline deadline

found_at : {X : Type 0} (xs : List X) (k : ℕ) → k < length xs → (x : X) × (slice_index_or xs k x ≡ x)
found_at [] k lt = absurd (omega arith)
found_at (a ∷ xs) k lt = let x = slice_index_or (a ∷ xs) k a in (x, get_or_default (a ∷ xs) k x a lt)

module _ {T : Type 0} (entries : List (Pair × T)) where
  -- no entry yet
  pub none_yet : (to : ℕ) → IsLatestOf entries to to None
  none_yet to = record {
    none = λ e. omega arith;
    one = λ deadline e. absurd (none-some deadline e);
    latest = λ deadline e. absurd (none-some deadline e);
  }

  -- one entry more, to the left
  pub one_more : (left to : ℕ) (entry : Pair × T) (best : Option Deadline) (deadline : Deadline) → left < to → left < length entries → entry ≡ slice_index_or entries left entry
      → IsLatestOf entries (left + 1) to best → ((deadline ≡ entry.0.deadline) ⊎ (best ≡ Some deadline)) → IsNoLater entry.0.deadline deadline
      → IfSome best (λ other. IsNoLater other deadline) → IsLatestOf entries left to (Some deadline)
  one_more left to entry best deadline lt within is before one no_less least = record {
    none = λ e. absurd (none-some deadline (sym e));
    one = λ other e. (
        let same = same_Some deadline other e in
        elim one [
          | inl here ↦ (left, omega arith, lt, λ d. ap (λ z. z.0.deadline) (get_or_default entries left d entry within ∙ sym is) ∙ sym here ∙ same)
          | inr there ↦ (let found = before.one deadline there in (found.0, (let le = found.1 in omega arith), found.2, λ d. found.3 d ∙ same))
        ]);
    latest = λ other e k d from_ to_. subst (IsNoLater (slice_index_or entries k d).0.deadline) (same_Some deadline other e) (elim (cases_order k left) [
      | inl same ↦ subst (λ z. IsNoLater z.0.deadline deadline) (is ∙ get_or_default entries left entry d within ∙ ap (λ n. slice_index_or entries n d) (sym same)) no_less
      | inr (inl less) ↦ absurd (omega arith)
      | inr (inr more) ↦ earlier best before least k d (omega arith) to_
    ]);
  }
    where
      earlier : (best : Option Deadline) → IsLatestOf entries (left + 1) to best → IfSome best (λ other. IsNoLater other deadline) → (k : ℕ) (d : Pair × T) → left + 1 ≤ k → k < to
          → IsNoLater (slice_index_or entries k d).0.deadline deadline
      earlier None is above k d from_ to_ = absurd (let none = is.none refl in omega arith)
      earlier (Some b) is above k d from_ to_ = IsNoLater_trans (slice_index_or entries k d).0.deadline b deadline (is.latest b refl k d from_ to_) above

  -- each earlier one walks no farther, so that it would cover an entry that walks so far if its deadline were later
  pub walk_ends : (left to : ℕ) (entry : Pair × T) (longest : ℕ) (deadline : Deadline) → IsBag entries → AreWithin entries longest → to ≤ length entries → left < to
      → entry ≡ slice_index_or entries left entry → entry.0.walk ≡ longest → IsLatestOf entries left to (Some deadline) → IsLatestOf entries 0 to (Some deadline)
  walk_ends left to entry longest deadline bag within le lt is walks latest = record {
    none = λ e. absurd (none-some deadline (sym e));
    one = λ other e. (let found = latest.one other e in (found.0, omega arith, found.2, found.3));
    latest = λ other e k d from_ to_. elim (cases_lt k left) [
      | inr ge ↦ latest.latest other e k d ge to_
      | inl less ↦ (
          let earlier : Pair = (slice_index_or entries k d).0 in
          let here : Pair = (slice_index_or entries left d).0 in
          let apart = bag k left d less (omega arith) in
          let rises = no_later earlier here apart.before in
          let short : earlier.walk ≤ longest = within k d (omega arith) in
          let far : here.walk ≡ longest = ap (λ z. z.0.walk) (get_or_default entries left d entry (omega arith) ∙ sym is) ∙ walks in
          let no_less = latest.latest other e left d (omega arith) lt in
          elim (IsNoLater_total here.deadline earlier.deadline) [
            | inl covers ↦ absurd (apart.uncovered (record { deadline = covers; arrival = rises; walk = omega arith }))
            | inr less_ ↦ IsNoLater_trans earlier.deadline here.deadline other less_ no_less
          ])
    ];
  }

  -- the latest of those that arrive by then
  pub best_by : (arrival : ℤ) (count : ℕ) (best : Option Deadline) → IsCountByThen entries arrival count → IsLatestOf entries 0 count best → IsBestBy entries arrival best
  best_by arrival count None is latest = λ entry c arrives. (
      let none = latest.none refl in
      let late = is.behind c.0 entry (omega arith) c.1 in
      let same = ap (λ z. z.0.arrival) c.2 in
      omega (arith, ints))
  best_by arrival count (Some deadline) is latest =
      let found = latest.one deadline refl in
      let within = is.within in
      let lt : found.0 < length entries = let l = found.2 in omega arith in
      let entry = found_at entries found.0 lt in (
        (entry.0, (found.0, lt, entry.1), subst (λ z. z.0.arrival ≤ℤ arrival) entry.1 (is.before found.0 entry.0 found.2), ap (λ z. z.0.deadline) (sym entry.1) ∙ found.3 entry.0),
        λ other c arrives. elim (cases_lt c.0 count) [
          | inl early ↦ subst (λ z. IsNoLater z.0.deadline deadline) c.2 (latest.latest deadline refl c.0 other (omega arith) early)
          | inr late ↦ absurd (let after = is.behind c.0 other late c.1 in let same = ap (λ z. z.0.arrival) c.2 in omega (arith, ints))
        ],
      )
