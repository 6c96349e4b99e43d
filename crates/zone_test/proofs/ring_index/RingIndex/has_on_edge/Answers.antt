-- The edges of the point's slab decide.
use Rattle.std.proofs.Common.{◌≡◌, ◌∙◌, get_or, ap, subst}
use Rattle.std.specs.List.{list_any}
use Rattle.flex_model.specs.Zone.{edges, is_on_edge}
use Rattle.zone_test.proofs.KeptEdges.{all_within, on_found}
use Rattle.zone_test.specs.Slabs.{slab_of}
use Rattle.zone_test.proofs.ring_index.RingIndex.has_on_edge.Goals as goal

pub is_on_some-requires-clause-numbers : goal.is_on_some-requires-clause-numbers
is_on_some-requires-clause-numbers c =
    all_within c.self.inside.corners c.self.inside.bounds c.self.inside.slabs c.self.invariant c.args.point.now c.slab_of-slab.result (c.slab_of-slab.ensures.slab ∙ ap (λ l. slab_of l c.args.point.now.lat) c.deref.ensures) c.index-deref-slab.result (subst (λ l. c.index-deref-slab.result ≡ get_or l c.slab_of-slab.result c.index-deref-slab.result) c.deref-3.ensures c.index-deref-slab.is) c.deref-2.result.now c.deref-2.ensures c.deref-4.result.now c.deref-4.ensures

pub returns : goal.returns
returns c =
    c.is_on_some.ensures
    ∙ on_found c.self.inside.corners c.self.inside.bounds c.self.inside.slabs c.self.invariant c.args.point.now c.slab_of-slab.result (c.slab_of-slab.ensures.slab ∙ ap (λ l. slab_of l c.args.point.now.lat) c.deref.ensures) c.index-deref-slab.result (subst (λ l. c.index-deref-slab.result ≡ get_or l c.slab_of-slab.result c.index-deref-slab.result) c.deref-3.ensures c.index-deref-slab.is) c.deref-2.result.now c.deref-2.ensures c.deref-4.result.now c.deref-4.ensures
    ∙ ap (λ ring. list_any (is_on_edge c.args.point.now) (edges ring)) c.self.view_is
