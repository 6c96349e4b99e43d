-- The edges go from each corner to the next.
use Rattle.std.proofs.Common.{◌∙◌, rules, sym}
use Rattle.flex_model.specs.Zone.{is_on_edge}
use Rattle.zone_test.proofs.RingEdges.{none_at_all, none_yet, one_found}
use Rattle.zone_test.proofs.rings.is_on_ring.Goals as goal

pub returns-then-is_on_edge : goal.returns-then-is_on_edge
returns-then-is_on_edge c =
    sym (one_found (is_on_edge c.args.point.now) c.args.ring.now.corners c.as_slice-corners.result.now c.as_slice-corners.ensures c.loop-at.at _
    (search rules) (sym c.is_on_edge.ensures ∙ c.if-is_on_edge.true))

pub loop-at-preserved : goal.loop-at-preserved
loop-at-preserved c =
    none_yet (is_on_edge c.args.point.now) c.args.ring.now.corners c.as_slice-corners.result.now c.as_slice-corners.ensures c.loop-at.at _
    (search rules) c.loop-at.invariant (sym c.is_on_edge.ensures ∙ c.if-is_on_edge.false)

pub returns : goal.returns
returns c =
    sym (none_at_all (is_on_edge c.args.point.now) c.args.ring.now.corners c.as_slice-corners.result.now c.as_slice-corners.ensures c.loop-at.at
    (search rules) c.loop-at.invariant)
