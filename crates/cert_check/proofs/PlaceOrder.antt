-- Labels in the order of their places: what a sort gives, and that those of a place stand together.
use Rattle.std.proofs.Common.{◌≡◌, ◌↔◌, inl, inr, ℕ, ◌+◌, ◌<◌, ◌≤◌, true, false, Bool, List, Contains, Ordering, Less, Equal, Greater, nat_cmp, get_or, length, refl, sym, ◌∙◌, ap, subst, arith}
use Rattle.std.proofs.lemmas.Bool.{cases_order, false≢true}
use Rattle.std.proofs.lemmas.Bool.Decides.{nat_tests}
use Rattle.std.proofs.lemmas.List.Sorted.{sorted_far}
use Rattle.std.proofs.lemmas.Option.{get_or_from_slice_get, slice_get-get_or}
use Rattle.std.specs.Cmp.{IsStrictWeakOrder}
use Rattle.std.specs.List.{AllWithin, between}
use Rattle.std.specs.List.Sorted.{IsPartitionPoint, IsPartitionedBy, IsSortedBy}
use Rattle.std.specs.Ordering.{is_le, is_lt}
use Rattle.cert_check.specs.declared.labels.RoundLabel.{RoundLabel}
use Rattle.flex_model.specs.declared.place.Place.{Place}
use Rattle.flex_model.specs.declared.place.Place.TheVariants.{Stop, Point}
use Rattle.flex_model.specs.Place.{place_cmp}
use Rattle.flex_model.proofs.Spans.{place_equal, place_same}
use Rattle.transfers.proofs.PartedRows.{parted, stands_between}
use Rattle.cert_check.specs.Places.{stands_before, stands_by}
use Rattle.cert_check.specs.Tasks.{AreByPlace}

abbrev pub place_less : Place → Place → Bool
place_less a b = is_lt (place_cmp a b)

abbrev pub label_less : RoundLabel → RoundLabel → Bool
label_less a b = place_less a.label.place b.label.place

nat_one_way : (x y : ℕ) → is_lt (nat_cmp x y) ≡ true → is_lt (nat_cmp y x) ≡ false
nat_one_way x y e = grind (arith, nat_tests)

nat_chain : (x y z : ℕ) → is_lt (nat_cmp x y) ≡ false → is_lt (nat_cmp y z) ≡ false → is_lt (nat_cmp x z) ≡ false
nat_chain x y z e f = grind (arith, nat_tests)

one_way : (x y : Place) → place_less x y ≡ true → place_less y x ≡ false
one_way (Stop x) (Stop y) e = nat_one_way x y e
one_way (Stop x) (Point y) e = refl
one_way (Point x) (Stop y) e = absurd (false≢true e)
one_way (Point x) (Point y) e = nat_one_way x y e

chain : (x y z : Place) → place_less x y ≡ false → place_less y z ≡ false → place_less x z ≡ false
chain (Stop x) (Stop y) (Stop z) e f = nat_chain x y z e f
chain (Stop x) (Stop y) (Point z) e f = absurd (false≢true (sym f))
chain (Stop x) (Point y) z e f = absurd (false≢true (sym e))
chain (Point x) (Stop y) (Stop z) e f = refl
chain (Point x) (Stop y) (Point z) e f = absurd (false≢true (sym f))
chain (Point x) (Point y) (Stop z) e f = refl
chain (Point x) (Point y) (Point z) e f = nat_chain x y z e f

pub label_order : IsStrictWeakOrder label_less
label_order = record {
  one_way = λ x y e. one_way x.label.place y.label.place e;
  chain = λ x y z e f. chain x.label.place y.label.place z.label.place e f;
}

pub by_place_from_sort : (labels : List RoundLabel) → IsSortedBy label_less labels → AreByPlace labels
by_place_from_sort labels up i j d lt low = sorted_far label_less label_order labels up i j d (omega arith) low

-- the first of two labels in order
abbrev InOrder : RoundLabel → RoundLabel → Type 0
InOrder a b = place_less b.label.place a.label.place ≡ false

-- what stands no later than one before a place, stands before it too
less_down : (p x y : Place) → place_less y x ≡ false → place_less y p ≡ true → place_less x p ≡ true
less_down (Stop p) (Stop x) (Stop y) e f = grind (arith, nat_tests)
less_down (Stop p) (Stop x) (Point y) e f = absurd (false≢true f)
less_down (Stop p) (Point x) (Stop y) e f = absurd (false≢true (sym e))
less_down (Stop p) (Point x) (Point y) e f = absurd (false≢true f)
less_down (Point p) (Stop x) y e f = refl
less_down (Point p) (Point x) (Stop y) e f = absurd (false≢true (sym e))
less_down (Point p) (Point x) (Point y) e f = grind (arith, nat_tests)

by_down : (p x y : Place) → place_less y x ≡ false → is_le (place_cmp y p) ≡ true → is_le (place_cmp x p) ≡ true
by_down (Stop p) (Stop x) (Stop y) e f = grind (arith, nat_tests)
by_down (Stop p) (Stop x) (Point y) e f = absurd (false≢true f)
by_down (Stop p) (Point x) (Stop y) e f = absurd (false≢true (sym e))
by_down (Stop p) (Point x) (Point y) e f = absurd (false≢true f)
by_down (Point p) (Stop x) y e f = refl
by_down (Point p) (Point x) (Stop y) e f = absurd (false≢true (sym e))
by_down (Point p) (Point x) (Point y) e f = grind (arith, nat_tests)

pub parted_before : (p : Place) (labels : List RoundLabel) → AreByPlace labels → IsPartitionedBy (stands_before p) labels
parted_before p = parted InOrder (stands_before p) (λ x y e f. less_down p x.label.place y.label.place e f)

pub parted_by : (p : Place) (labels : List RoundLabel) → AreByPlace labels → IsPartitionedBy (stands_by p) labels
parted_by p = parted InOrder (stands_by p) (λ x y e f. by_down p x.label.place y.label.place e f)

lt_le : (o : Ordering) → is_lt o ≡ true → is_le o ≡ true
lt_le Less e = refl
lt_le Equal e = absurd (false≢true e)
lt_le Greater e = absurd (false≢true e)

not_true : (b : Bool) → (b ≡ true → ⊥) → b ≡ false
not_true true never = absurd (never refl)
not_true false never = refl

-- an item is the same with any default
same_item : (labels : List RoundLabel) (n : ℕ) (x d : RoundLabel) → n < length labels → get_or labels n d ≡ get_or labels n x
same_item labels n x d lt = get_or_from_slice_get labels n (get_or labels n x) d (slice_get-get_or labels n x lt)

abbrev StandBy : Place → List RoundLabel → ℕ → Type 0
StandBy p labels n = AllWithin (λ x. stands_by p x ≡ true) labels 0 n

-- what stands before a place stands by it
pub known_by : (p : Place) (labels : List RoundLabel) (n : ℕ)
    → IsPartitionPoint (λ x. stands_before p x ≡ true) (λ x. stands_before p x ≡ false) labels n → StandBy p labels n
known_by p labels n known k d low high = lt_le (place_cmp (get_or labels k d).label.place p) (known.0 k d low high)

-- so does one more
pub one_more_by : (p : Place) (labels : List RoundLabel) (n : ℕ) (x : RoundLabel) (b : Bool) → n < length labels → StandBy p labels n
    → b ≡ stands_by p (get_or labels n x) → b ≡ true → StandBy p labels (n + 1)
one_more_by p labels n x b lt all is here k d low high = elim (cases_order k n) [
  | inl same ↦ subst (λ m. stands_by p (get_or labels m d) ≡ true) (sym same) (ap (stands_by p) (same_item labels n x d lt) ∙ sym is ∙ here)
  | inr (inl less) ↦ all k d low less
  | inr (inr more) ↦ absurd (omega arith)
]

-- from the first that doesn't stand by the place on none does
pub ends_there : (p : Place) (labels : List RoundLabel) → AreByPlace labels → (n : ℕ) (x : RoundLabel) (b : Bool) → n < length labels → StandBy p labels n
    → b ≡ stands_by p (get_or labels n x) → b ≡ false → IsPartitionPoint (λ y. stands_by p y ≡ true) (λ y. stands_by p y ≡ false) labels n
ends_there p labels order n x b lt all is out = (
  all,
  λ k d le within. not_true (stands_by p (get_or labels k d)) (λ e.
      let yes' : stands_by p (get_or labels n d) ≡ true = parted_by p labels order n k d le within e in
      let no' : stands_by p (get_or labels n d) ≡ false = ap (stands_by p) (same_item labels n x d lt) ∙ sym is ∙ out in
      false≢true (sym no' ∙ yes')),
)

pub all_there : (p : Place) (labels : List RoundLabel) (n : ℕ) → length labels ≤ n → StandBy p labels n
    → IsPartitionPoint (λ y. stands_by p y ≡ true) (λ y. stands_by p y ≡ false) labels (length labels)
all_there p labels n le all = (λ k d low high. all k d low (omega arith), λ k d low high. absurd (omega arith))

is_equal : (o : Ordering) → is_lt o ≡ false → is_le o ≡ true → o ≡ Equal
is_equal Less e f = absurd (false≢true (sym e))
is_equal Equal e f = refl
is_equal Greater e f = absurd (false≢true f)

stands_there : (p : Place) (x : RoundLabel) → (x.label.place ≡ p) ↔ ((stands_before p x ≡ false) × (stands_by p x ≡ true))
stands_there p x = (
  λ at. let same : place_cmp x.label.place p ≡ Equal = ap (λ q. place_cmp q p) at ∙ place_same p in (ap is_lt same, ap is_le same),
  λ both. place_equal x.label.place p (is_equal (place_cmp x.label.place p) both.0 both.1),
)

pub labels_between : (labels : List RoundLabel) (p : Place) (start end : ℕ) → start ≤ length labels → end ≤ length labels
    → IsPartitionPoint (λ x. stands_before p x ≡ true) (λ x. stands_before p x ≡ false) labels start
    → IsPartitionPoint (λ x. stands_by p x ≡ true) (λ x. stands_by p x ≡ false) labels end
    → (label : RoundLabel) → Contains (between start end labels) label ↔ (Contains labels label × (label.label.place ≡ p))
labels_between labels p start end low high first last =
    stands_between labels (stands_before p) (stands_by p) start end low high first last (λ x. x.label.place ≡ p) (stands_there p)
