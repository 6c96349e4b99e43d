-- What is left of the entries is a bag, of the pair and those that it doesn't cover.
use Rattle.std.proofs.Common.{◌≡◌, ◌⊎◌, ◌↔◌, ◌+◌, ◌++◌, ◌∷◌, max, true, false, Contains, IsErr, drop, filter, take, refl, sym, ◌∙◌, subst}
use Rattle.flex_model.specs.Triple.{CoversPair}
use Rattle.label_bag.specs.Bag.{HasCovering, IsBag, IsBagWithin, IsIndexFor, IsWithout}
use Rattle.label_bag.proofs.Offers.{left_over, offered_bag, offered_has, offered_within, stays_test}
use Rattle.label_bag.proofs.bag.Bag.offer.Given.{Over}
use Rattle.label_bag.proofs.bag.Bag.offer.Goals as goal
use Rattle.label_bag.proofs.bag.Bag.offer.Goals.{After-take_out, Else-is_covered}

not_true : false ≡ true → ⊥
not_true e = cc

pub returns-then-is_covered-clause-covered : goal.returns-then-is_covered-clause-covered
returns-then-is_covered-clause-covered g c = (λ e. subst (λ these. HasCovering these c.args.pair) (c.as_slice.ensures.value ∙ c.self.view_is) (c.is_covered.ensures.0 c.if-is_covered.true), λ h. refl)

-- no kept pair covers the offered one
free : (g : Over) (c : Else-is_covered g) → HasCovering c.self.inside.entries.items c.args.pair → ⊥
free g c h = not_true (sym c.if-is_covered.false ∙ c.is_covered.ensures.1 (subst (λ these. HasCovering these c.args.pair) (sym c.as_slice.ensures.value) h))

pub returns-in_err-insert-clause-covered : goal.returns-in_err-insert-clause-covered
returns-in_err-insert-clause-covered g c = (
  λ e. absurd (let err = subst IsErr e c.from_residual.ensures.0 in cc),
  λ h. absurd (free g (goal.at.returns-in_err-insert-clause-covered g c).Else-is_covered (subst (λ these. HasCovering these c.args.pair) (sym c.self.view_is) h)),
)

place : (g : Over) (c : After-take_out g) → IsIndexFor c.self.inside.entries.items c.args.pair c.index_for-at.result
place g c = subst (λ these. IsIndexFor these c.args.pair c.index_for-at.result) c.as_slice-2.ensures.value c.index_for-at.ensures

-- what is left
left : (g : Over) (c : After-take_out g) → c.take_out.new.entries.items
    ≡ take c.index_for-at.result c.self.inside.entries.items ++ (c.args.pair, c.args.item) ∷ filter (stays_test c.args.pair) (drop c.index_for-at.result c.self.inside.entries.items)
left g c =
    let entries = c.self.inside.entries.items in
    let at = c.index_for-at.result in
    left_over entries c.args.pair c.args.item at c.take_out.new.entries.items (place g c).within
    (subst (λ these. IsWithout these c.args.pair (at + 1) c.take_out.new.entries.items) c.in_ok-insert.ensures.items c.take_out.ensures)

pub invariant_of-self-2 : goal.invariant_of-self-2
invariant_of-self-2 g c =
    let entries = c.self.inside.entries.items in
    let at = c.index_for-at.result in
    let was = (goal.at.invariant_of-self-2 g c).After-take_out in
    let free_ = free g (goal.at.invariant_of-self-2 g c).Else-is_covered in
    subst (λ longest. IsBagWithin c.take_out.new.entries.items longest) (sym c.max-self-inside.ensures)
    (subst (λ these. IsBagWithin these (max c.self.inside.longest c.args.pair.walk)) (sym (left g was)) (record {
      apart = offered_bag entries c.args.pair c.args.item at (place g was) c.self.invariant.apart free_;
      within = offered_within entries c.args.pair c.args.item at (place g was) c.self.invariant.apart free_ c.self.inside.longest c.self.invariant.within;
    }))

pub returns-clause-covered : goal.returns-clause-covered
returns-clause-covered g c = (
  λ e. absurd cc,
  λ h. absurd (free g (goal.at.returns-clause-covered g c).Else-is_covered (subst (λ these. HasCovering these c.args.pair) (sym c.self.view_is) h)),
)

pub returns-clause-added : goal.returns-clause-added
returns-clause-added g c e entry =
    let entries = c.self.inside.entries.items in
    let was = (goal.at.returns-clause-added g c).After-take_out in
    let has = offered_has entries c.args.pair c.args.item c.index_for-at.result (place g was) c.self.invariant.apart (free g (goal.at.returns-clause-added g c).Else-is_covered) entry in
    subst (λ these. Contains c.take_out.new.entries.items entry ↔ ((entry ≡ (c.args.pair, c.args.item)) ⊎ (Contains these entry × (CoversPair c.args.pair entry.0 → ⊥)))) c.self.view_is
    (subst (λ these. Contains these entry ↔ ((entry ≡ (c.args.pair, c.args.item)) ⊎ (Contains entries entry × (CoversPair c.args.pair entry.0 → ⊥)))) (sym (left g was)) has)

pub returns-clause-apart : goal.returns-clause-apart
returns-clause-apart g c =
    let was = (goal.at.returns-clause-apart g c).After-take_out in
    subst IsBag (sym (left g was))
    (offered_bag c.self.inside.entries.items c.args.pair c.args.item c.index_for-at.result (place g was) c.self.invariant.apart (free g (goal.at.returns-clause-apart g c).Else-is_covered))
