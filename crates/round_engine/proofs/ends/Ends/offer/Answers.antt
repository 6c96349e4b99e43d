use Rattle.std.proofs.Common.{◌≡◌, ◌-◌, length, ap, subst, arith, ◌∙◌}
use Rattle.round_engine.specs.Bags.{IsOffer}
use Rattle.round_engine.proofs.Apart.{apart_offer, not_both}
use Rattle.round_engine.proofs.ends.Ends.offer.Goals as goal

pub invariant_of-self : goal.invariant_of-self
invariant_of-self c =
    apart_offer c.self.inside.bags c.offer.new.self (c.width-last.result - 1) (c.args.pair, c.args.label) c.self.invariant c.offer.ensures.offer
    (let w = c.width-last.ensures in let r = c.requires in let v = ap length c.self.view_is in omega arith)
    (λ kept. not_both c.any_bag_keeps.result (c.any_bag_keeps.ensures.1 kept) c.if-any_bag_keeps.false)

pub invariant_of-self-2 : goal.invariant_of-self-2
invariant_of-self-2 c =
    apart_offer c.self.inside.bags c.offer.new.self (c.width-last.result - 1) (c.args.pair, c.args.label) c.self.invariant c.offer.ensures.offer
    (let w = c.width-last.ensures in let r = c.requires in let v = ap length c.self.view_is in omega arith)
    (λ kept. not_both c.any_bag_keeps.result (c.any_bag_keeps.ensures.1 kept) c.if-any_bag_keeps.false)

pub returns-in_err-offer-clause-offer : goal.returns-in_err-offer-clause-offer
returns-in_err-offer-clause-offer c =
    let e : c.width-last.result ≡ length c.args.self.now = c.width-last.ensures ∙ ap length c.self.view_is in
    subst (λ these. IsOffer (length c.args.self.now - 1) (c.args.pair, c.args.label) these c.offer.new.self) c.self.view_is
    (subst (λ n. IsOffer (n - 1) (c.args.pair, c.args.label) c.self.inside.bags c.offer.new.self) e c.offer.ensures.offer)

pub returns-clause-kept : goal.returns-clause-kept
returns-clause-kept c = (c.width-last.result - 1, c.in_ok-offer.ensures.kept)

pub returns-clause-offer : goal.returns-clause-offer
returns-clause-offer c =
    let e : c.width-last.result ≡ length c.args.self.now = c.width-last.ensures ∙ ap length c.self.view_is in
    subst (λ these. IsOffer (length c.args.self.now - 1) (c.args.pair, c.args.label) these c.offer.new.self) c.self.view_is
    (subst (λ n. IsOffer (n - 1) (c.args.pair, c.args.label) c.self.inside.bags c.offer.new.self) e c.offer.ensures.offer)
