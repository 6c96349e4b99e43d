-- The entry with a later deadline that walks no farther ends the reach.
use Rattle.std.proofs.Common.{◌≤◌, sym, subst}
use Rattle.flex_model.specs.Deadline.{IsNoLater}
use Rattle.label_bag.proofs.Searches.{reach_ends}
use Rattle.label_bag.proofs.indices.reach.Goals as goal

pub returns-then-kept-pair-clause-beyond : goal.returns-then-kept-pair-clause-beyond
returns-then-kept-pair-clause-beyond g c =
    let pair = c.args.pair.now in
    let entry = c.index-entries-k.result in
    let is = c.index-entries-k.is in
    reach_ends c.args.entries.now pair c.loop-k.k entry c.requires.bag c.loop-k-test.true is
    (subst (λ z. IsNoLater z.0.deadline pair.deadline → ⊥) (sym is) (c.is_later.ensures.0 c.if-is_later.true))
    (subst (λ z. z.0.walk ≤ pair.walk) (sym is) c.if-kept-pair.true)
