-- Items of a list that are tried in the order of their numbers.
use Rattle.std.proofs.Common.{◌≡◌, inl, inr, ℕ, zero, suc, ◌+◌, ◌<◌, ◌≤◌, List, Some, None, get_or, length, slice_get, sym, ◌∙◌, ap, subst, arith}
use Rattle.std.proofs.lemmas.Bool.{cases_order}
use Rattle.std.proofs.lemmas.List.{get_or_default}
use Rattle.std.proofs.lemmas.Option.{get_or_from_slice_get, slice_get-get_or, slice_get_within}
use Rattle.bound_cert.specs.declared.cert.CertPart.{CertPart}
use Rattle.cert_check.specs.declared.reason.Reason.{Reason}
use Rattle.flex_model.specs.declared.feed.Feed.{Feed}
use Rattle.flex_model.specs.declared.moment.DayTable.{DayTable}
use Rattle.flex_model.specs.declared.query.Query.{Query}
use Rattle.flex_model.specs.declared.times.Times.{Times}
use Rattle.cert_check.specs.Numbers.{AllTo, IsNumber}
use Rattle.cert_check.specs.Reasons.{Applies, IsFirstOfKind, Passes, kind, number, second}

-- a number is at most the length
pub number_within : {A : Type 0} (items : List A) (n : ℕ) (item : A) → IsNumber items n item → n ≤ length items
number_within items zero item is = absurd is
number_within items (suc n) item is = (let lt = slice_get_within items n item is in omega arith)

-- the item at an index has the number after it
pub number_of_index : {A : Type 0} (items : List A) (i : ℕ) (item : A) → slice_get items i ≡ Some item → IsNumber items (i + 1) item
number_of_index items i item is = (let e : suc i ≡ i + 1 = omega arith in subst (λ n. IsNumber items n item) e is)

pub number_from_index : {A : Type 0} (items : List A) (i m : ℕ) (item : A) → m ≡ i + 1 → slice_get items i ≡ Some item → IsNumber items m item
number_from_index items i m item e is = subst (λ n. IsNumber items n item) (sym e) (number_of_index items i item is)

-- the item at an index, as code reads it
pub item_read : {A : Type 0} (items : List A) (i : ℕ) (x d : A) → i < length items → x ≡ get_or items i d → slice_get items i ≡ Some x
item_read items i x d lt is = slice_get-get_or items i d lt ∙ ap Some (sym is)

-- what holds of the first items and the next one
pub below_more_at : {A : Type 0} (P : A → Type 0) (xs : List A) (i : ℕ) (x dummy : A) → i < length xs → x ≡ get_or xs i dummy
    → ((j : ℕ) (d : A) → j < i → P (get_or xs j d)) → P x → (j : ℕ) (d : A) → j < i + 1 → P (get_or xs j d)
below_more_at P xs i x dummy lt is all here j d less = elim (cases_order j i) [
  | inl same ↦ subst P (is ∙ get_or_default xs i dummy d lt ∙ ap (λ m. get_or xs m d) (sym same)) here
  | inr (inl before) ↦ all j d before
  | inr (inr after) ↦ absurd (omega arith)
]

pub index_of_number : {A : Type 0} (items : List A) (i : ℕ) (item : A) → IsNumber items (i + 1) item → slice_get items i ≡ Some item
index_of_number items i item is = (let e : i + 1 ≡ suc i = omega arith in subst (λ n. IsNumber items n item) e is)

module _ {A : Type 0} (P : ℕ → A → Type 0) (items : List A) where
  pub all_to_none : AllTo P items 0
  all_to_none zero item le is = absurd is
  all_to_none (suc m) item le is = absurd (omega arith)

  pub all_to_more : (i : ℕ) → AllTo P items i → ((item : A) → slice_get items i ≡ Some item → P (i + 1) item) → AllTo P items (i + 1)
  all_to_more i all here zero item le is = absurd is
  all_to_more i all here (suc m) item le is = elim (cases_order m i) [
    | inl same ↦ (
        let e : i + 1 ≡ suc m = omega arith in
        subst (λ n. P n item) e (here item (subst (λ k. slice_get items k ≡ Some item) same is)))
    | inr (inl before) ↦ all (suc m) item (omega arith) is
    | inr (inr after) ↦ absurd (omega arith)
  ]

  pub all_to_read : (i : ℕ) (x d : A) → x ≡ get_or items i d → AllTo P items i → P (i + 1) x → AllTo P items (i + 1)
  all_to_read i x d is all here = all_to_more i all (λ item at. subst (P (i + 1)) (is ∙ get_or_from_slice_get items i item d at) here)

  module _ (feed : Feed) (times : Times) (days : DayTable) (query : Query) (part : CertPart) (k : ℕ)
      (tests : (reason : Reason) → kind reason ≡ k → ((item : A) → IsNumber items (number reason) item → P (number reason) item)
      → Passes feed times days query part reason) where
    -- all items are tried, and none fails
    pub none_of_kind : (n : ℕ) → length items ≤ n → AllTo P items n → IsFirstOfKind feed times days query part k None
    none_of_kind n most all = λ reason e. tests reason e (λ item is.
        let within = number_within items (number reason) item is in
        all (number reason) item (omega arith) is)

    -- the items up to the one with this number are tried, and the next one fails
    pub some_of_kind : (n : ℕ) → AllTo P items n → (reason : Reason) → kind reason ≡ k → number reason ≡ n + 1
        → ((other : Reason) → kind other ≡ k → number other ≡ n + 1 → second other < second reason → Passes feed times days query part other)
        → Applies feed times days query part reason → IsFirstOfKind feed times days query part k (Some reason)
    some_of_kind n all reason e is same applies = (
      e,
      applies,
      λ other f before. elim before [
        | inl less ↦ tests other f (λ item at. all (number other) item (omega arith) at)
        | inr both ↦ same other f (both.0 ∙ is) both.1
      ],
    )

    -- the same where there is one test a number
    pub one_of_kind : (n : ℕ) → AllTo P items n → (reason : Reason) → kind reason ≡ k → number reason ≡ n + 1 → second reason ≡ 0
        → Applies feed times days query part reason → IsFirstOfKind feed times days query part k (Some reason)
    one_of_kind n all reason e is none applies = some_of_kind n all reason e is (λ other f g lt. absurd (omega arith)) applies
