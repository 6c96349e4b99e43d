-- Spans by where they begin: those that begin at a place stand together.
use Rattle.std.proofs.Common.{◌≡◌, ◌⊎◌, ◌↔◌, inl, inr, ℕ, ◌≤◌, true, false, List, AllPairs, Contains, Ordering, Less, Equal, Greater, length, refl, sym, ◌∙◌, ap}
use Rattle.std.proofs.lemmas.Bool.{false≢true}
use Rattle.std.specs.List.{between}
use Rattle.std.specs.List.Sorted.{IsPartitionPoint, IsPartitionedBy}
use Rattle.std.specs.Ordering.{is_le, is_lt}
use Rattle.flex_model.specs.declared.place.Place.{Place}
use Rattle.flex_model.specs.declared.times.Span.{Span}
use Rattle.flex_model.specs.Place.{place_cmp}
use Rattle.flex_model.specs.Times.{IsSpanBefore}
use Rattle.transfers.specs.Spans.{begins_before, begins_by}
use Rattle.flex_model.proofs.Spans.{place_equal, place_rises, place_same}
use Rattle.transfers.proofs.PartedRows.{parted, stands_between}

is_equal : (o : Ordering) → is_lt o ≡ false → is_le o ≡ true → o ≡ Equal
is_equal Less e f = absurd (false≢true (sym e))
is_equal Equal e f = refl
is_equal Greater e f = absurd (false≢true f)

-- what begins no later than one that begins before the place, begins before it too
before_down : (p : Place) (x y : Span) → IsSpanBefore x y → begins_before p y ≡ true → begins_before p x ≡ true
before_down p x y (inl from) e = elim (place_rises x.from y.from p from) [
  | inl less ↦ ap is_lt less
  | inr greater ↦ absurd (false≢true (sym (ap is_lt greater) ∙ e))
]
before_down p x y (inr to) e = ap (λ q. is_lt (place_cmp q p)) to.0 ∙ e

by_down : (p : Place) (x y : Span) → IsSpanBefore x y → begins_by p y ≡ true → begins_by p x ≡ true
by_down p x y (inl from) e = elim (place_rises x.from y.from p from) [
  | inl less ↦ ap is_le less
  | inr greater ↦ absurd (false≢true (sym (ap is_le greater) ∙ e))
]
by_down p x y (inr to) e = ap (λ q. is_le (place_cmp q p)) to.0 ∙ e

pub parted_before : (p : Place) (spans : List Span) → AllPairs IsSpanBefore spans → IsPartitionedBy (begins_before p) spans
parted_before p = parted IsSpanBefore (begins_before p) (before_down p)

pub parted_by : (p : Place) (spans : List Span) → AllPairs IsSpanBefore spans → IsPartitionedBy (begins_by p) spans
parted_by p = parted IsSpanBefore (begins_by p) (by_down p)

begins_there : (p : Place) (x : Span) → (x.from ≡ p) ↔ ((begins_before p x ≡ false) × (begins_by p x ≡ true))
begins_there p x = (
  λ at. let same : place_cmp x.from p ≡ Equal = ap (λ q. place_cmp q p) at ∙ place_same p in (ap is_lt same, ap is_le same),
  λ both. place_equal x.from p (is_equal (place_cmp x.from p) both.0 both.1),
)

pub spans_between : (spans : List Span) (p : Place) (start end : ℕ) → start ≤ length spans → end ≤ length spans
    → IsPartitionPoint (λ x. begins_before p x ≡ true) (λ x. begins_before p x ≡ false) spans start
    → IsPartitionPoint (λ x. begins_by p x ≡ true) (λ x. begins_by p x ≡ false) spans end
    → (span : Span) → Contains (between start end spans) span ↔ (Contains spans span × (span.from ≡ p))
spans_between spans p start end low high first last =
    stands_between spans (begins_before p) (begins_by p) start end low high first last (λ x. x.from ≡ p) (begins_there p)
