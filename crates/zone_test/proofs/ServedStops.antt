-- The stops that a zone serves, found one by one.
use Rattle.std.proofs.Common.{◌≡◌, inl, inr, ℕ, ◌+◌, ◌<◌, ◌≤◌, Bool, true, false, ◌&&◌, ◌↔◌, Some, List, [], ◌∷◌, ◌++◌, Contains, length, slice_get, get_or, refl, sym, true≢false, ◌∙◌, ap, subst, arith}
use Rattle.std.proofs.lemmas.Bool.{cases_order}
use Rattle.std.proofs.lemmas.List.Elements.{Contains-append_left, Contains-get_or, Contains-push, Contains-push_cases}
use Rattle.std.proofs.lemmas.List.Quantifiers.{all_pairs_push}
use Rattle.std.proofs.lemmas.Option.{slice_get-get_or, slice_get_within}
use Rattle.flex_model.specs.declared.place.Polygon.{Polygon}
use Rattle.flex_model.specs.declared.place.Stop.{Stop}
use Rattle.flex_model.specs.SoundFeed.{AreRising}
use Rattle.flex_model.specs.Zone.{is_in_zone}
use Rattle.flex_model.proofs.Found.{none_contained, slice_get_unique}
use Rattle.zone_test.specs.Served.{IsServed}

both_hold : (a b : Bool) → (a && b) ≡ true → (a ≡ true) × (b ≡ true)
both_hold true b e = (refl, e)
both_hold false b e = cc

hold_both : (a b : Bool) → a ≡ true → b ≡ true → (a && b) ≡ true
hold_both true b e f = f
hold_both false b e f = cc

-- the numbers are those of the stops before an index that are served, rising
pub record AreServedBelow (polygons : List Polygon) (stops : List Stop) (at : ℕ) (numbers : List ℕ) : Type 0 where
  pub rising : AreRising numbers
  pub served : (s : ℕ) → Contains numbers s → IsServed polygons stops s
  pub below : (s : ℕ) → Contains numbers s → s < at
  pub each : (s : ℕ) → s < at → IsServed polygons stops s → Contains numbers s

module _ (polygons : List Polygon) (stops : List Stop) where
  pub none_served : AreServedBelow polygons stops 0 []
  none_served = record {
    rising = λ i j d lt within. absurd (omega arith);
    served = λ s c. absurd (none_contained s c);
    below = λ s c. absurd (none_contained s c);
    each = λ s lt is. absurd (omega arith);
  }

  -- the next stop isn't served
  pub one_passed : (at : ℕ) (numbers : List ℕ) → AreServedBelow polygons stops at numbers → (IsServed polygons stops at → ⊥) → AreServedBelow polygons stops (at + 1) numbers
  one_passed at numbers are not = record {
    rising = are.rising;
    served = are.served;
    below = λ s c. (let lt = are.below s c in omega arith);
    each = λ s lt is. elim (cases_order s at) [
      | inl same ↦ absurd (not (subst (IsServed polygons stops) same is))
      | inr (inl less) ↦ are.each s less is
      | inr (inr more) ↦ absurd (omega arith)
    ];
  }

  -- the next stop is served
  pub one_served : (at : ℕ) (numbers : List ℕ) → AreServedBelow polygons stops at numbers → IsServed polygons stops at → AreServedBelow polygons stops (at + 1) (numbers ++ at ∷ [])
  one_served at numbers are is = record {
    rising = all_pairs_push (λ a b. a < b) numbers at are.rising (λ k d lt. are.below (get_or numbers k d) (Contains-get_or numbers k d lt));
    served = λ s c. elim (Contains-push_cases numbers at s c) [ inl old ↦ are.served s old | inr same ↦ subst (IsServed polygons stops) same is ];
    below = λ s c. elim (Contains-push_cases numbers at s c) [ inl old ↦ (let lt = are.below s old in omega arith) | inr same ↦ omega (arith, same) ];
    each = λ s lt its. elim (cases_order s at) [
      | inl same ↦ subst (Contains (numbers ++ at ∷ [])) (sym same) (Contains-push numbers at)
      | inr (inl less) ↦ Contains-append_left numbers (at ∷ []) s (are.each s less its)
      | inr (inr more) ↦ absurd (omega arith)
    ];
  }

  -- `slice` is the stops
  module _ (slice : List Stop) (same : slice ≡ stops) (at : ℕ) (lt : at < length slice) (stop : Stop) (is : stop ≡ get_or slice at stop) where
    found : slice_get stops at ≡ Some stop
    found = subst (λ l. slice_get l at ≡ Some stop) same (slice_get-get_or slice at stop lt ∙ ap Some (sym is))

    pub is_served_one : (stop.boards && is_in_zone polygons stop.at) ≡ true → IsServed polygons stops at
    is_served_one e = (let both = both_hold stop.boards (is_in_zone polygons stop.at) e in (stop, found, both.0, both.1))

    pub is_no_served_one : (stop.boards && is_in_zone polygons stop.at) ≡ false → IsServed polygons stops at → ⊥
    is_no_served_one e its =
        let one = slice_get_unique stops at its.0 stop its.1 found in
        let holds = subst (λ z. (z.boards && is_in_zone polygons z.at) ≡ true) one (hold_both its.0.boards (is_in_zone polygons its.0.at) its.2 its.3) in
        true≢false (sym holds ∙ e)

  -- at the end these are all
  pub all_served : (at : ℕ) (numbers : List ℕ) → AreServedBelow polygons stops at numbers → length stops ≤ at → (s : ℕ) → Contains numbers s ↔ IsServed polygons stops s
  all_served at numbers are le s = (are.served s, λ is. (let within = slice_get_within stops s is.0 is.1 in are.each s (omega arith) is))
