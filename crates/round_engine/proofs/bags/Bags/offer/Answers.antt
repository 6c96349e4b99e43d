use Rattle.std.proofs.Common.{◌≡◌, ◌⊎◌, ◌<◌, [], Contains, length, set, sym, ◌∙◌, subst}
use Rattle.std.proofs.lemmas.List.{get_or_default}
use Rattle.flex_model.specs.declared.answer.Pair.{Pair}
use Rattle.round_engine.specs.Bags.{Entry, IsKept, IsOffer, bag_at}
use Rattle.round_engine.proofs.Kept.{set_offer}
use Rattle.round_engine.proofs.MarkedBags.{marked_offer, marked_on}
use Rattle.round_engine.proofs.bags.Bags.offer.Goals as goal

pub invariant_of-self : goal.invariant_of-self
invariant_of-self c =
    let within : c.args.at < length c.self.inside.bags.items = subst (λ these. c.args.at < length these) (sym c.self.view_is) c.requires in
    marked_on c.self.inside.bags.items c.self.inside.marked.items c.mark.new.marked.items c.args.at c.self.invariant within c.mark.ensures.kept c.mark.ensures.came

pub invariant_of-self-in_err-offer : goal.invariant_of-self-in_err-offer
invariant_of-self-in_err-offer c =
    let within : c.args.at < length c.self.inside.bags.items = subst (λ these. c.args.at < length these) (sym c.self.view_is) c.requires in
    let first : c.index.result.now ≡ bag_at c.self.inside.bags.items c.args.at =
    c.index.ensures ∙ get_or_default c.self.inside.bags.items c.args.at c.index.result.now [] within in
    let e : c.index_mut-bag.result.now ≡ bag_at c.self.inside.bags.items c.args.at =
    c.index_mut-bag.ensures.value ∙ get_or_default c.self.inside.bags.items c.args.at c.index_mut-bag.result.now [] within in
    marked_offer c.self.inside.bags.items c.self.inside.marked.items c.mark.new.marked.items c.args.at c.self.invariant within c.mark.ensures.kept c.mark.ensures.came
    (set c.self.inside.bags.items c.args.at c.offer.new.self) (c.args.pair, c.args.label)
    (λ empty. c.in_ok-mark.ensures.marked (first ∙ empty))
    (set_offer c.self.inside.bags.items c.args.at (c.args.pair, c.args.label) c.offer.new.self within
    (subst (λ these. (other : Pair) → IsKept these other → IsKept c.offer.new.self other) e c.offer.ensures.grows)
    (subst (λ these. (other : Entry) → Contains c.offer.new.self other → Contains these other ⊎ (other ≡ (c.args.pair, c.args.label))) e c.offer.ensures.came))

pub invariant_of-self-2 : goal.invariant_of-self-2
invariant_of-self-2 c =
    let within : c.args.at < length c.self.inside.bags.items = subst (λ these. c.args.at < length these) (sym c.self.view_is) c.requires in
    let first : c.index.result.now ≡ bag_at c.self.inside.bags.items c.args.at =
    c.index.ensures ∙ get_or_default c.self.inside.bags.items c.args.at c.index.result.now [] within in
    let e : c.index_mut-bag.result.now ≡ bag_at c.self.inside.bags.items c.args.at =
    c.index_mut-bag.ensures.value ∙ get_or_default c.self.inside.bags.items c.args.at c.index_mut-bag.result.now [] within in
    marked_offer c.self.inside.bags.items c.self.inside.marked.items c.mark.new.marked.items c.args.at c.self.invariant within c.mark.ensures.kept c.mark.ensures.came
    (set c.self.inside.bags.items c.args.at c.offer.new.self) (c.args.pair, c.args.label)
    (λ empty. c.in_ok-mark.ensures.marked (first ∙ empty))
    (set_offer c.self.inside.bags.items c.args.at (c.args.pair, c.args.label) c.offer.new.self within
    (subst (λ these. (other : Pair) → IsKept these other → IsKept c.offer.new.self other) e c.offer.ensures.grows)
    (subst (λ these. (other : Entry) → Contains c.offer.new.self other → Contains these other ⊎ (other ≡ (c.args.pair, c.args.label))) e c.offer.ensures.came))

pub returns-in_err-offer-clause-offer : goal.returns-in_err-offer-clause-offer
returns-in_err-offer-clause-offer c =
    let within : c.args.at < length c.self.inside.bags.items = subst (λ these. c.args.at < length these) (sym c.self.view_is) c.requires in
    let e : c.index_mut-bag.result.now ≡ bag_at c.self.inside.bags.items c.args.at =
    c.index_mut-bag.ensures.value ∙ get_or_default c.self.inside.bags.items c.args.at c.index_mut-bag.result.now [] within in
    subst (λ these. IsOffer c.args.at (c.args.pair, c.args.label) these (set c.self.inside.bags.items c.args.at c.offer.new.self)) c.self.view_is
    (set_offer c.self.inside.bags.items c.args.at (c.args.pair, c.args.label) c.offer.new.self within
    (subst (λ these. (other : Pair) → IsKept these other → IsKept c.offer.new.self other) e c.offer.ensures.grows)
    (subst (λ these. (other : Entry) → Contains c.offer.new.self other → Contains these other ⊎ (other ≡ (c.args.pair, c.args.label))) e c.offer.ensures.came))

pub returns-clause-offer : goal.returns-clause-offer
returns-clause-offer c =
    let within : c.args.at < length c.self.inside.bags.items = subst (λ these. c.args.at < length these) (sym c.self.view_is) c.requires in
    let e : c.index_mut-bag.result.now ≡ bag_at c.self.inside.bags.items c.args.at =
    c.index_mut-bag.ensures.value ∙ get_or_default c.self.inside.bags.items c.args.at c.index_mut-bag.result.now [] within in
    subst (λ these. IsOffer c.args.at (c.args.pair, c.args.label) these (set c.self.inside.bags.items c.args.at c.offer.new.self)) c.self.view_is
    (set_offer c.self.inside.bags.items c.args.at (c.args.pair, c.args.label) c.offer.new.self within
    (subst (λ these. (other : Pair) → IsKept these other → IsKept c.offer.new.self other) e c.offer.ensures.grows)
    (subst (λ these. (other : Entry) → Contains c.offer.new.self other → Contains these other ⊎ (other ≡ (c.args.pair, c.args.label))) e c.offer.ensures.came))
