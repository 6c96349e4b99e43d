-- The edges of the point's slab decide.
use Rattle.std.proofs.Common.{◌≡◌, ◌∙◌, get_or, ap, subst}
use Rattle.flex_model.specs.Zone.{crossings, is_odd}
use Rattle.zone_test.proofs.KeptEdges.{all_within, found_crossed}
use Rattle.zone_test.specs.Slabs.{slab_of}
use Rattle.zone_test.proofs.ring_index.RingIndex.surrounds.Goals as goal

pub crossings-requires-clause-numbers : goal.crossings-requires-clause-numbers
crossings-requires-clause-numbers c =
    all_within c.self.inside.corners c.self.inside.bounds c.self.inside.slabs c.self.invariant c.args.point.now c.slab_of-slab.result (c.slab_of-slab.ensures.slab ∙ ap (λ l. slab_of l c.args.point.now.lat) c.deref.ensures) c.index-deref-slab.result (subst (λ l. c.index-deref-slab.result ≡ get_or l c.slab_of-slab.result c.index-deref-slab.result) c.deref-3.ensures c.index-deref-slab.is) c.deref-2.result.now c.deref-2.ensures c.deref-4.result.now c.deref-4.ensures

pub returns : goal.returns
returns c =
    ap is_odd
    (c.crossings.ensures
    ∙ found_crossed c.self.inside.corners c.self.inside.bounds c.self.inside.slabs c.self.invariant c.args.point.now c.slab_of-slab.result (c.slab_of-slab.ensures.slab ∙ ap (λ l. slab_of l c.args.point.now.lat) c.deref.ensures) c.index-deref-slab.result (subst (λ l. c.index-deref-slab.result ≡ get_or l c.slab_of-slab.result c.index-deref-slab.result) c.deref-3.ensures c.index-deref-slab.is) c.deref-2.result.now c.deref-2.ensures c.deref-4.result.now c.deref-4.ensures
    ∙ ap (crossings c.args.point.now) c.self.view_is)
