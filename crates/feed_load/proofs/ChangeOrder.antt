-- Changes that were sorted by their two stops are in rising order.
use Rattle.std.proofs.Common.{◌≡◌, ℕ, Bool, true, false, cond, ◌&&◌, ◌||◌, List, AllPairs, get_or, refl, sym, ◌∙◌, arith, ◌⊎◌, inl, inr}
use Rattle.std.specs.Prelude.{nat_eq, nat_lt}
use Rattle.std.specs.Borrow.{Bor}
use Rattle.std.specs.Cmp.{IsStrictWeakOrder}
use Rattle.std.specs.Fn.{Called, ComputesKey}
use Rattle.std.specs.List.Sorted.{IsPermutation, IsSortedBy, IsSortedByKey}
use Rattle.std.specs.Ordering.{is_lt, nat_cmp, ordering_then}
use Rattle.std.specs.declared.cmp.Ordering.TheVariants.{Less, Equal, Greater}
use Rattle.std.proofs.lemmas.Bool.{false_from_ne_true, false≢true}
use Rattle.std.proofs.lemmas.Cmp.{nat_cmp_total, on_total, then_total}
use Rattle.std.proofs.lemmas.Fn.{always_returns_same}
use Rattle.std.proofs.lemmas.List.MinMax.{ranks_by}
use Rattle.std.proofs.lemmas.List.Sorted.{sorted_far}
use Rattle.flex_model.specs.declared.change.ChangeRow.{ChangeRow}
use Rattle.feed_meaning.specs.FeedValue.{change_before, rising}
use Rattle.feed_meaning.proofs.Rising.{rising-unique}
use Rattle.feed_load.proofs.Permuted.{AllPairs-permutation}
use denote.Param.Members.{Mut}

-- one of the two comes before the other
abbrev Ordered : ChangeRow → ChangeRow → Type 0
Ordered a b = (change_before a b ≡ true) ⊎ (change_before b a ≡ true)

turned : (a b : ChangeRow) → Ordered a b → Ordered b a
turned a b (inl h) = inr h
turned a b (inr h) = inl h

abbrev is_less : ChangeRow → ChangeRow → Bool
is_less x y = is_lt (ordering_then (nat_cmp x.from y.from) (nat_cmp x.to y.to))

-- the order of pairs is the order of changes
by-tests : (p q r s : Bool) → is_lt (ordering_then (cond p Less (cond q Equal Greater)) (cond r Less (cond s Equal Greater))) ≡ (p || (q && r))
by-tests true q r s = refl
by-tests false true true s = refl
by-tests false true false true = refl
by-tests false true false false = refl
by-tests false false r s = refl

is_less-is : (x y : ChangeRow) → is_less x y ≡ change_before x y
is_less-is x y = by-tests (nat_lt x.from y.from) (nat_eq x.from y.from) (nat_lt x.to y.to) (nat_eq x.to y.to)

less-ranks : IsStrictWeakOrder is_less
less-ranks = ranks_by (then_total (on_total (λ (x : ChangeRow). x.from) nat_cmp_total) (on_total (λ (x : ChangeRow). x.to) nat_cmp_total)) (λ x. x)

change_asymmetric : (x y : ChangeRow) → change_before x y ≡ true → change_before y x ≡ false
change_asymmetric x y e = sym (is_less-is y x) ∙ less-ranks.one_way x y (is_less-is x y ∙ e)

change_irreflexive : (x : ChangeRow) → change_before x x ≡ false
change_irreflexive x = false_from_ne_true (change_before x x) (λ e. false≢true (sym (change_asymmetric x x e) ∙ e))

sorted-pairs : (ys : List ChangeRow) → AllPairs Ordered ys → IsSortedBy is_less ys → AllPairs (λ a b. change_before a b ≡ true) ys
sorted-pairs ys ordered up i j d lt low = elim (ordered i j d lt low) [
  | inl h ↦ h
  | inr h ↦ absurd (false≢true (sym (sorted_far is_less less-ranks ys up i j d (omega arith) low) ∙ is_less-is (get_or ys j d) (get_or ys i d) ∙ h))
]

abbrev pair_of : ChangeRow → ℕ × ℕ
pair_of x = (x.from, x.to)

-- from the clause `sorted` of `sort_by_key`, where each call gives the pair of stops
pub rising_from_sort_by_key : {F : Type 0} {g : Mut F (Bor ChangeRow × Unit {0}) (ℕ × ℕ)} {f : F} (xs ys : List ChangeRow) → IsPermutation xs ys → AllPairs Ordered xs
    → ((key : ChangeRow → ℕ × ℕ) → ComputesKey g key f → IsSortedByKey key (λ p q. ordering_then (nat_cmp p.0 q.0) (nat_cmp p.1 q.1)) ys)
    → ((a : Bor ChangeRow × Unit {0}) (r : ℕ × ℕ) (f' : F) → Called g f a r f' → (r ≡ (a.0.now.from, a.0.now.to)) × (f' ≡ f)) → ys ≡ rising change_before xs
rising_from_sort_by_key {g = g} {f = f} xs ys moved ordered up calls =
    sym (rising-unique change_before change_irreflexive change_asymmetric xs ys moved
    (sorted-pairs ys (AllPairs-permutation Ordered turned xs ys moved ordered) (up pair_of (always_returns_same g (λ a r. r ≡ pair_of a.0.now) f calls))))
