-- Edge by edge.
use Rattle.std.proofs.Common.{subst, arith}
use Rattle.zone_test.specs.Slabs.{IsWithNumber, edge_from, north, slab_of}
use Rattle.zone_test.proofs.AddedNumbers.{edge_added, no_edge}
use Rattle.zone_test.proofs.KeptEdges.{south_first}
use Rattle.zone_test.proofs.slabs.slabs_of.Goals as goal

pub add_number-requires-clause-order : goal.add_number-requires-clause-order
add_number-requires-clause-order c =
    let first = c.first_slab-first.ensures.slab in
    let last = c.last_slab-last.ensures.slab in
    let order = south_first c.args.bounds.now (edge_from c.args.corners.now c.loop-at.at) in
    omega (arith, first, last, order)

pub add_number-requires-clause-last : goal.add_number-requires-clause-last
add_number-requires-clause-last c = (let size = c.loop-at.invariant.count in let within = c.last_slab-last.ensures.within in omega (arith, size, within))

pub loop-at-init : goal.loop-at-init
loop-at-init c = no_edge c.args.corners.now c.args.bounds.now c.in_ok-slabs.slabs.items c.in_ok-slabs.ensures

pub loop-at-preserved : goal.loop-at-preserved
loop-at-preserved c =
    let slabs = c.loop-at.slabs.items in
    let at = c.loop-at.at in
    let now = c.add_number.new.slabs.items in
    edge_added c.args.corners.now c.args.bounds.now at slabs now c.loop-at.invariant
    (subst (λ first. IsWithNumber slabs at first (slab_of c.args.bounds.now (north (edge_from c.args.corners.now at))) now) c.first_slab-first.ensures.slab
    (subst (λ last. IsWithNumber slabs at c.first_slab-first.result last now) c.last_slab-last.ensures.slab c.in_ok-add_number.ensures))
