-- The edges go from each corner to the next.
use Rattle.std.proofs.Common.{◌∙◌, ap, rules, sym}
use Rattle.flex_model.specs.Zone.{is_crossed, is_odd}
use Rattle.zone_test.proofs.RingEdges.{all_counted, no_more, one_more}
use Rattle.zone_test.proofs.rings.is_surrounded.Goals as goal
use Rattle.zone_test.proofs.rings.is_surrounded.Goals.{then-is_crossed, else-is_crossed}

pub loop-at-preserved : goal.loop-at-preserved
loop-at-preserved c = elim c.if-is_crossed.branch [
  | then-is_crossed w ↦ (
    w.crossings-is ∙ one_more (is_crossed c.args.point.now) c.args.ring.now.corners c.as_slice-corners.result.now c.as_slice-corners.ensures c.loop-at.at _
        (search rules) c.loop-at.crossings c.loop-at.invariant.0 (sym c.is_crossed.ensures ∙ w.if-is_crossed.true),
    search rules,
  )
  | else-is_crossed w ↦ (
    w.crossings-is ∙ no_more (is_crossed c.args.point.now) c.args.ring.now.corners c.as_slice-corners.result.now c.as_slice-corners.ensures c.loop-at.at _
        (search rules) c.loop-at.crossings c.loop-at.invariant.0 (sym c.is_crossed.ensures ∙ w.if-is_crossed.false),
    search rules,
  )
]

pub returns : goal.returns
returns c =
    ap is_odd (all_counted (is_crossed c.args.point.now) c.args.ring.now.corners c.as_slice-corners.result.now c.as_slice-corners.ensures c.loop-at.at
    (search rules) c.loop-at.crossings c.loop-at.invariant.0)
