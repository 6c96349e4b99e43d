-- Looking up ways: a walk, or a change.
use Rattle.std.proofs.Common.{◌≡◌, ◌≢◌, ◌↔◌, ℕ, Option, Some, None, sym, ◌∙◌, ap, subst, inl, inr}
use Rattle.std.proofs.lemmas.Option.{none-some, same_Some}
use Rattle.flex_model.specs.declared.change.ChangeKind.{ChangeKind}
use Rattle.flex_model.specs.declared.change.ChangeKind.TheVariants.{Least, Forbidden}
use Rattle.flex_model.specs.declared.feed.Feed.{Feed}
use Rattle.flex_model.specs.declared.place.Place.{Place}
use Rattle.flex_model.specs.declared.place.Place.TheVariants.{Stop}
use Rattle.flex_model.specs.declared.query.Query.{Query}
use Rattle.flex_model.specs.declared.times.Times.{Times}
use Rattle.flex_model.specs.Change.{HasAccess, HasChange, HasChangeRow, HasEgress}
use Rattle.flex_model.specs.Place.{IsStop}
use Rattle.flex_model.specs.Times.{HasSeconds}

-- the way to a stop that isn't the origin is a walk
pub access_on_foot : (times : Times) (query : Query) (place : Place) (s : ℕ) → place ≡ Stop s → place ≢ query.origin → (found : Option ℕ)
    → ((seconds : ℕ) → HasSeconds times.walks query.origin place seconds ↔ (found ≡ Some seconds))
    → (seconds : ℕ) → HasAccess times query place seconds ↔ (found ≡ Some seconds)
access_on_foot times query place s is other found walk seconds = (
  λ access. elim access [ inl here ↦ absurd (other here.0) | inr foot ↦ (walk seconds).0 foot.2 ],
  λ e. inr (other, subst IsStop (sym is) tt, (walk seconds).1 e),
)

-- and so is the way from a stop that isn't the destination
pub egress_on_foot : (times : Times) (query : Query) (place : Place) (s : ℕ) → place ≡ Stop s → place ≢ query.destination → (found : Option ℕ)
    → ((seconds : ℕ) → HasSeconds times.walks place query.destination seconds ↔ (found ≡ Some seconds))
    → (seconds : ℕ) → HasEgress times query place seconds ↔ (found ≡ Some seconds)
egress_on_foot times query place s is other found walk seconds = (
  λ egress. elim egress [ inl here ↦ absurd (other here.0) | inr foot ↦ (walk seconds).0 foot.2 ],
  λ e. inr (other, subst IsStop (sym is) tt, (walk seconds).1 e),
)

-- `found` is what the rule for changing from the one stop to the other says
module _ (feed : Feed) (a b : Place) (from to : ℕ) (from_stop : a ≡ Stop from) (to_stop : b ≡ Stop to) (found : Option ChangeKind)
    (rule : (kind : ChangeKind) → HasChangeRow feed from to kind ↔ (found ≡ Some kind)) where
  between : (seconds : ℕ) (r : Option ℕ) → HasChange feed (Stop from) (Stop to) seconds ↔ (r ≡ Some seconds) → HasChange feed a b seconds ↔ (r ≡ Some seconds)
  between seconds r h =
      subst (λ place. HasChange feed place b seconds ↔ (r ≡ Some seconds)) (sym from_stop)
      (subst (λ place. HasChange feed (Stop from) place seconds ↔ (r ≡ Some seconds)) (sym to_stop) h)

  pub least_change : (least : ℕ) → found ≡ Some (Least least) → (seconds : ℕ) → HasChange feed a b seconds ↔ (Some least ≡ Some seconds)
  least_change least is seconds = between seconds (Some least) (
    λ change. elim change [
      | inl row ↦ (let e : Some (Least least) ≡ Some (Least seconds) = sym is ∙ (rule (Least seconds)).0 row in cc)
      | inr within ↦ absurd (within.2 (Least least) ((rule (Least least)).1 is))
    ],
    λ e. inl ((rule (Least seconds)).1 (is ∙ ap (λ s. Some (Least s)) (same_Some least seconds e))),
  )

  pub forbidden_change : found ≡ Some Forbidden → (seconds : ℕ) → HasChange feed a b seconds ↔ (None ≡ Some seconds)
  forbidden_change is seconds = between seconds None (
    λ change. elim change [
      | inl row ↦ (let e : Some Forbidden ≡ Some (Least seconds) = sym is ∙ (rule (Least seconds)).0 row in cc)
      | inr within ↦ absurd (within.2 Forbidden ((rule Forbidden).1 is))
    ],
    λ e. absurd (none-some seconds e),
  )

  no_row : found ≡ None → (kind : ChangeKind) → HasChangeRow feed from to kind → ⊥
  no_row is kind row = none-some kind (sym is ∙ (rule kind).0 row)

  pub stays : found ≡ None → from ≡ to → (seconds : ℕ) → HasChange feed a b seconds ↔ (Some 0 ≡ Some seconds)
  stays is same seconds = between seconds (Some 0) (
    λ change. elim change [ inl row ↦ absurd (no_row is (Least seconds) row) | inr within ↦ ap Some (sym within.1) ],
    λ e. inr (same, sym (same_Some 0 seconds e), no_row is),
  )

  pub no_change : found ≡ None → from ≢ to → (seconds : ℕ) → HasChange feed a b seconds ↔ (None ≡ Some seconds)
  no_change is other seconds = between seconds None (
    λ change. elim change [ inl row ↦ absurd (no_row is (Least seconds) row) | inr within ↦ absurd (other within.0) ],
    λ e. absurd (none-some seconds e),
  )
