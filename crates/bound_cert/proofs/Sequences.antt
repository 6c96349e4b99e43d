-- The record with a stop_sequence, found where those with lesser ones end.
use Rattle.std.proofs.Common.{◌≡◌, ℕ, ◌<◌, ◌≤◌, ◌⊎◌, Bool, false, cond, eqb, ltb, List, length, get_or, AllPairs, Some, None, sym, ap, subst, ◌∙◌, arith, inl, inr}
use Rattle.std.specs.Prelude.{position}
use Rattle.std.specs.List.{position_or_len}
use Rattle.std.specs.List.Sorted.{IsNonDecreasingBy}
use Rattle.std.proofs.lemmas.Bool.{cases_lt, eq-eqb, eqb-true, false_from_ne_true, lt-ltb, ltb-true}
use Rattle.std.proofs.lemmas.List.Sums.{position_or_len_is}
use Rattle.flex_model.specs.declared.trip.Row.{Row}
use Rattle.flex_model.specs.declared.trip.Spot.TheVariants as spot
use Rattle.flex_model.specs.declared.trip.Timing.TheVariants as timing
use Rattle.flex_model.specs.declared.trip.Way.TheVariants as way

pub no_row : Row
no_row = record { sequence = 0; «spot» = spot.Stop 0; timing = timing.Window 0 0; pickup = way.No; drop_off = way.No }

pub sequences_rise : (rows : List Row) → AllPairs (λ a b. a.sequence < b.sequence) rows → IsNonDecreasingBy (λ row. row.sequence) rows
sequences_rise rows rising i j d le low = elim (cases_lt i j) [
  | inl lt ↦ let less = rising i j d lt low in omega (arith, less)
  | inr ge ↦ let same : i ≡ j = omega (arith, le, ge) in let n = ap (λ k. (get_or rows k d).sequence) same in omega (arith, n)
]

module _ (rows : List Row) (sequence at : ℕ) (rising : AllPairs (λ a b. a.sequence < b.sequence) rows)
    (before : (k : ℕ) (d : Row) → k < at → (get_or rows k d).sequence < sequence)
    (after : (k : ℕ) (d : Row) → at ≤ k → k < length rows → sequence ≤ (get_or rows k d).sequence) where
  abbrev is_it : Row → Bool
  is_it row = eqb row.sequence sequence

  differs : (row : Row) → (row.sequence ≡ sequence → ⊥) → is_it row ≡ false
  differs row other = false_from_ne_true (is_it row) (λ h. other (eqb-true row.sequence sequence h))

  -- no record has it
  none_has : (d : Row) → ((k : ℕ) → k < length rows → is_it (get_or rows k d) ≡ false) → None ≡ position is_it rows
  none_has d all =
      let end : position_or_len is_it rows ≡ length rows = position_or_len_is is_it rows (length rows) d (omega arith) all (λ lt. absurd (omega (arith, lt))) in
      let none : ltb (length rows) (length rows) ≡ false = false_from_ne_true (ltb (length rows) (length rows)) (λ h. let lt = ltb-true (length rows) (length rows) h in omega (arith, lt)) in
      sym (ap (λ n. cond (ltb n (length rows)) (Some n) None) end ∙ ap (λ b. cond b (Some (length rows)) None) none)

  pub all_before : (d : Row) → length rows ≤ at → None ≡ position is_it rows
  all_before d le = none_has d (λ k low. differs (get_or rows k d) (λ same. let less = before k d (omega (arith, low, le)) in omega (arith, less, same)))

  pub other_row : (d : Row) → at < length rows → ((get_or rows at d).sequence ≡ sequence → ⊥) → None ≡ position is_it rows
  other_row d low other = none_has d (λ k within. differs (get_or rows k d) (λ same. by k within same (cases_lt k at)))
    where
      by : (k : ℕ) → k < length rows → (get_or rows k d).sequence ≡ sequence → (k < at) ⊎ (at ≤ k) → ⊥
      by k within same (inl lt) = let less = before k d lt in omega (arith, less, same)
      by k within same (inr ge) = elim (cases_lt at k) [
        | inl lt ↦ let more = rising at k d lt within in let least = after at d (omega arith) low in omega (arith, more, least, same)
        | inr le ↦ let here : k ≡ at = omega (arith, ge, le) in other (subst (λ (n : ℕ). (get_or rows n d).sequence ≡ sequence) here same)
      ]

  pub this_row : (d : Row) → at < length rows → (get_or rows at d).sequence ≡ sequence → Some at ≡ position is_it rows
  this_row d low same =
      let first : position_or_len is_it rows ≡ at = position_or_len_is is_it rows at d (omega (arith, low))
      (λ k lt. differs (get_or rows k d) (λ h. let less = before k d lt in omega (arith, less, h))) (λ lt. eq-eqb (get_or rows at d).sequence sequence same) in
      sym (ap (λ n. cond (ltb n (length rows)) (Some n) None) first ∙ ap (λ b. cond b (Some at) None) (lt-ltb at (length rows) low))
