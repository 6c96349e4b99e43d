use Rattle.std.proofs.Common.{◌≡◌, ◌⊎◌, Contains, subst}
use Rattle.flex_model.specs.declared.answer.Pair.{Pair}
use Rattle.round_engine.specs.Bags.{Entry, IsKept}
use Rattle.round_engine.proofs.Kept.{offer_came, offer_grows, offer_keeps}
use Rattle.round_engine.proofs.place_bag.PlaceBag.offer.Goals as goal

pub returns-clause-kept : goal.returns-clause-kept
returns-clause-kept c =
    offer_keeps c.self.inside.labels c.offer.new.self c.args.pair c.args.label c.offer.result
    c.offer.ensures.covered c.offer.ensures.same c.offer.ensures.added c.in_ok-_offered._offered c.in_ok-_offered.was

pub returns-clause-grows : goal.returns-clause-grows
returns-clause-grows c =
    subst (λ these. (other : Pair) → IsKept these other → IsKept c.offer.new.self other) c.self.view_is
    (offer_grows c.self.inside.labels c.offer.new.self c.args.pair c.args.label c.offer.result
    c.offer.ensures.covered c.offer.ensures.same c.offer.ensures.added c.in_ok-_offered._offered c.in_ok-_offered.was)

pub returns-clause-came : goal.returns-clause-came
returns-clause-came c =
    subst (λ these. (other : Entry) → Contains c.offer.new.self other → Contains these other ⊎ (other ≡ (c.args.pair, c.args.label))) c.self.view_is
    (offer_came c.self.inside.labels c.offer.new.self c.args.pair c.args.label c.offer.result
    c.offer.ensures.covered c.offer.ensures.same c.offer.ensures.added c.in_ok-_offered._offered c.in_ok-_offered.was)
