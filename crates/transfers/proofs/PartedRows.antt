-- Rows that begin at one place stand together, in a list that two tests part: whether a row begins before the place, and
-- whether it begins there or before.
use Rattle.std.proofs.Common.{◌≡◌, ◌↔◌, inl, inr, ℕ, ◌+◌, ◌-◌, ◌<◌, ◌≤◌, Bool, true, false, List, AllPairs, Contains, length, get_or, sym, ◌∙◌, ap, subst, arith}
use Rattle.std.proofs.lemmas.Bool.{cases_lt, cases_order, false≢true}
use Rattle.std.proofs.lemmas.List.Edits.{get_or-between, length-between}
use Rattle.std.specs.List.{between}
use Rattle.std.specs.List.Sorted.{IsPartitionPoint, IsPartitionedBy}

-- a test that holds of each row before one of which it holds parts a list in order
pub parted : {A : Type 0} (IsBefore : A → A → Type 0) (test : A → Bool) → ((x y : A) → IsBefore x y → test y ≡ true → test x ≡ true)
    → (rows : List A) → AllPairs IsBefore rows → IsPartitionedBy test rows
parted IsBefore test down rows rising i j d le within e = elim (cases_order i j) [
  | inl same ↦ subst (λ k. test (get_or rows k d) ≡ true) (sym same) e
  | inr (inl less) ↦ down (get_or rows i d) (get_or rows j d) (rising i j d less within) e
  | inr (inr more) ↦ absurd (omega arith)
]

module _ {A : Type 0} (rows : List A) (before by : A → Bool) (start end : ℕ) (low : start ≤ length rows) (high : end ≤ length rows)
    (first : IsPartitionPoint (λ x. before x ≡ true) (λ x. before x ≡ false) rows start)
    (last : IsPartitionPoint (λ x. by x ≡ true) (λ x. by x ≡ false) rows end)
    (Begins : A → Type 0) (begins : (x : A) → Begins x ↔ ((before x ≡ false) × (by x ≡ true))) where
  -- what begins there stands from the one index on and before the other
  from_start : (k : ℕ) (x : A) → k < length rows → get_or rows k x ≡ x → Begins x → start ≤ k
  from_start k x within is at = elim (cases_lt k start) [
    | inl less ↦ absurd (
        let earlier : before x ≡ true = ap before (sym is) ∙ first.0 k x (omega arith) less in
        false≢true (sym ((begins x).0 at).0 ∙ earlier))
    | inr ge ↦ omega arith
  ]

  to_end : (k : ℕ) (x : A) → k < length rows → get_or rows k x ≡ x → Begins x → k < end
  to_end k x within is at = elim (cases_lt k end) [
    | inl less ↦ less
    | inr ge ↦ absurd (
        let after : by x ≡ false = ap by (sym is) ∙ last.1 k x (omega arith) within in
        false≢true (sym after ∙ ((begins x).0 at).1))
  ]

  pub stands_between : (x : A) → Contains (between start end rows) x ↔ (Contains rows x × Begins x)
  stands_between x = (
    λ c.
        let size : length (between start end rows) ≡ end - start = length-between rows start end high in
        let at : ℕ = c.0 in
        let few : at < length (between start end rows) = c.1 in
        let lt : start + at < end = omega (arith, size, few) in
        let is : get_or rows (start + at) x ≡ x = sym (get_or-between rows start end at x lt) ∙ c.2 in
        let not_before : before x ≡ false = ap before (sym is) ∙ first.1 (start + at) x (omega arith) (omega (arith, lt, high)) in
        let up_to : by x ≡ true = ap by (sym is) ∙ last.0 (start + at) x (omega arith) lt in
        ((start + at, omega (arith, lt, high), is), (begins x).1 (not_before, up_to)),
    λ h.
        let k : ℕ = h.0.0 in
        let within : k < length rows = h.0.1 in
        let is : get_or rows k x ≡ x = h.0.2 in
        let le : start ≤ k = from_start k x within is h.1 in
        let lt : k < end = to_end k x within is h.1 in
        let size : length (between start end rows) ≡ end - start = length-between rows start end high in
        let same : start + (k - start) ≡ k = omega (arith, le) in
        let inside : start + (k - start) < end = omega (arith, same, lt) in
        (k - start, omega (arith, size, le, lt), get_or-between rows start end (k - start) x inside ∙ ap (λ n. get_or rows n x) same ∙ is),
  )
