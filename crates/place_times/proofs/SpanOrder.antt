-- Spans in order are the rising spans.
use Rattle.std.proofs.Common.{◌≡◌, ℕ, zero, suc, ◌+◌, ◌-◌, ◌<◌, Bool, true, false, not, ◌&&◌, List, AllPairs, length, get_or, refl, sym, ◌∙◌, ap, subst, arith, ◌⊎◌, inl, inr}
use Rattle.std.specs.Prelude.{IsPermutation, IsSortedBy}
use Rattle.std.specs.Cmp.{IsStrictWeakOrder}
use Rattle.std.specs.List.{IsDistinct}
use Rattle.std.specs.Ordering.{is_lt, ordering_then}
use Rattle.std.proofs.lemmas.Bool.{false_from_ne_true, false≢true}
use Rattle.std.proofs.lemmas.Map.Keys.{IsDistinct-IsPermutation, IsDistinct-from_apart, apart_from_distinct}
use Rattle.flex_model.specs.Place.{IsPlaceBefore, place_cmp}
use Rattle.flex_model.specs.declared.place.Place.{Place}
use Rattle.flex_model.specs.declared.place.Place.TheVariants as place
use Rattle.flex_model.specs.declared.times.Span.{Span}
use Rattle.flex_model.proofs.Orders.{places_compared}
use Rattle.feed_meaning.specs.FeedValue.{rising}
use Rattle.feed_meaning.specs.TimesValue.{span_before}
use Rattle.feed_meaning.proofs.PlacesNamed.{span_irreflexive, span_transitive, spans_in_order}
use Rattle.feed_meaning.proofs.Rising.{rising-unique}

-- ---- the order of spans

asymmetric : (x y : Span) → span_before x y ≡ true → span_before y x ≡ false
asymmetric x y e = false_from_ne_true (span_before y x) (λ f. false≢true (sym (span_irreflexive x) ∙ span_transitive x y x e f))

not-before-itself : (a : Place) → IsPlaceBefore a a → ⊥
not-before-itself (place.Stop a) p = omega (arith, p)
not-before-itself (place.Point a) p = omega (arith, p)

apart : (a b : Place) → a ≡ b → IsPlaceBefore a b ⊎ IsPlaceBefore b a → ⊥
apart a b e (inl h) = not-before-itself a (subst (IsPlaceBefore a) (sym e) h)
apart a b e (inr h) = not-before-itself b (subst (IsPlaceBefore b) e h)

-- two spans join the same places, or one comes before the other
span_cases : (x y : Span) → ((x.from ≡ y.from) × (x.to ≡ y.to)) ⊎ ((span_before x y ≡ true) ⊎ (span_before y x ≡ true))
span_cases x y = elim (places_compared x.from y.from) [
  | inl same ↦ elim (places_compared x.to y.to) [
    | inl same' ↦ inl (same, same')
    | inr differ ↦ inr (spans_in_order x y (λ e f. apart x.to y.to f differ))
  ]
  | inr differ ↦ inr (spans_in_order x y (λ e f. apart x.from y.from e differ))
]

-- spans that join the same places come before the same spans
alike : (x y z : Span) → x.from ≡ y.from → x.to ≡ y.to → span_before x z ≡ span_before y z
alike x y z e f = ap (λ p. is_lt (ordering_then (place_cmp p z.from) (place_cmp x.to z.to))) e ∙ ap (λ p. is_lt (ordering_then (place_cmp y.from z.from) (place_cmp p z.to))) f

pub span_order : IsStrictWeakOrder span_before
span_order = record {
  one_way = asymmetric;
  chain = λ x y z e f. false_from_ne_true (span_before x z) (λ h. elim (span_cases x y) [
    | inl same ↦ false≢true (sym f ∙ sym (alike x y z same.0 same.1) ∙ h)
    | inr (inl lt) ↦ false≢true (sym e ∙ lt)
    | inr (inr lt) ↦ false≢true (sym f ∙ span_transitive y x z lt h)
  ]);
}

-- neither comes before the other
abbrev ties : Span → Span → Bool
ties x y = not (span_before x y) && not (span_before y x)

ties-flip : (x y : Span) → ties x y ≡ ties y x
ties-flip x y = by (span_before x y) (span_before y x)
  where
    by : (a b : Bool) → (not a && not b) ≡ (not b && not a)
    by true true = refl
    by true false = refl
    by false true = refl
    by false false = refl

apart-from_order : (x y : Span) → (span_before x y ≡ true) ⊎ (span_before y x ≡ true) → ties x y ≡ false
apart-from_order x y (inl e) = ap (λ a. not a && not (span_before y x)) e
apart-from_order x y (inr e) = ap (λ b. not (span_before x y) && not b) e ∙ by (not (span_before x y))
  where
    by : (a : Bool) → (a && false) ≡ false
    by true = refl
    by false = refl

rises-from_apart : (x y : Span) → ties x y ≡ false → span_before y x ≡ false → span_before x y ≡ true
rises-from_apart x y apart e = by (span_before x y) (span_before y x) apart e
  where
    by : (a b : Bool) → (not a && not b) ≡ false → b ≡ false → a ≡ true
    by true b h e = refl
    by false true h e = cc
    by false false h e = cc

module _ (ys : List Span) (sorted : IsSortedBy span_before ys) (distinct : IsDistinct ties ys) where
  next : (k : ℕ) (d : Span) → k + 1 < length ys → span_before (get_or ys k d) (get_or ys (k + 1) d) ≡ true
  next k d low =
      rises-from_apart (get_or ys k d) (get_or ys (k + 1) d) (apart_from_distinct ties ys k (k + 1) d distinct (omega arith) low) (sorted k d (omega arith) low)

  far : (i m : ℕ) (d : Span) → i + m + 1 < length ys → span_before (get_or ys i d) (get_or ys (i + m + 1) d) ≡ true
  far i zero d low =
      let e : i + zero + 1 ≡ i + 1 = omega arith in
      ap (λ k. span_before (get_or ys i d) (get_or ys k d)) e ∙ next i d (omega (arith, low, e))
  far i (suc m) d low =
      let e : i + suc m + 1 ≡ (i + m + 1) + 1 = omega arith in
      ap (λ k. span_before (get_or ys i d) (get_or ys k d)) e
      ∙ span_transitive (get_or ys i d) (get_or ys (i + m + 1) d) (get_or ys (i + m + 1 + 1) d) (far i m d (omega (arith, low))) (next (i + m + 1) d (omega (arith, low, e)))

  strictly : AllPairs (λ a b. span_before a b ≡ true) ys
  strictly i j d lt low =
      let e : i + (j - i - 1) + 1 ≡ j = omega (arith, lt) in
      ap (λ k. span_before (get_or ys i d) (get_or ys k d)) (sym e) ∙ far i (j - i - 1) d (omega (arith, low, e))

pub rising_spans : (xs ys : List Span) → AllPairs (λ x y. (span_before x y ≡ true) ⊎ (span_before y x ≡ true)) xs → IsPermutation xs ys → IsSortedBy span_before ys → rising span_before xs ≡ ys
rising_spans xs ys ordered moved sorted =
    let distinct : IsDistinct ties xs = IsDistinct-from_apart ties xs (λ i j d lt low. apart-from_order (get_or xs i d) (get_or xs j d) (ordered i j d lt low)) in
    rising-unique span_before span_irreflexive asymmetric xs ys moved (strictly ys sorted (IsDistinct-IsPermutation ties ties-flip xs ys moved distinct))
