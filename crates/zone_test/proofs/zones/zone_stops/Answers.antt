-- Each stop is tried once, in order.
use Rattle.std.proofs.Common.{◌≡◌, ◌&&◌, true, false, [], ◌∷◌, ◌++◌, ◌+◌, ◌∙◌, rules, subst, sym}
use Rattle.flex_model.specs.Zone.{is_in_zone}
use Rattle.zone_test.proofs.ServedStops.{AreServedBelow, all_served, is_no_served_one, is_served_one, one_passed, one_served}
use Rattle.zone_test.proofs.zones.zone_stops.Goals as goal
use Rattle.zone_test.proofs.zones.zone_stops.Goals.{then-is_served+in_ok-push, else-is_served}

pub loop-at-preserved : goal.loop-at-preserved
loop-at-preserved c =
    let polygons = c.args.polygons.now in
    let stops = c.args.stops.now in
    elim c.if-is_served.branch [
      | then-is_served+in_ok-push w ↦ (
          let is : c.if-is_served.numbers ≡ c.loop-at.numbers ++ c.loop-at.at ∷ [] = search rules in
          subst (AreServedBelow polygons stops (c.loop-at.at + 1)) (sym is)
          (one_served polygons stops c.loop-at.at c.loop-at.numbers c.loop-at.invariant
          (is_served_one polygons stops c.as_slice-stops.result.now c.as_slice-stops.ensures c.loop-at.at (search rules) c.index-stops-at.result c.index-stops-at.is
          (subst (λ zone. (c.index-stops-at.result.boards && is_in_zone zone c.index-stops-at.result.at) ≡ true) c.in_ok-index.ensures (sym c.is_served.ensures ∙ w.if-is_served.true)))))
      | else-is_served w ↦ (
          let is : c.if-is_served.numbers ≡ c.loop-at.numbers = search rules in
          subst (AreServedBelow polygons stops (c.loop-at.at + 1)) (sym is)
          (one_passed polygons stops c.loop-at.at c.loop-at.numbers c.loop-at.invariant
          (is_no_served_one polygons stops c.as_slice-stops.result.now c.as_slice-stops.ensures c.loop-at.at (search rules) c.index-stops-at.result c.index-stops-at.is
          (subst (λ zone. (c.index-stops-at.result.boards && is_in_zone zone c.index-stops-at.result.at) ≡ false) c.in_ok-index.ensures (sym c.is_served.ensures ∙ w.if-is_served.false)))))
    ]

pub returns : goal.returns
returns c = (c.loop-at.invariant.rising, all_served c.args.polygons.now c.args.stops.now c.loop-at.at c.loop-at.numbers c.loop-at.invariant (search rules))
