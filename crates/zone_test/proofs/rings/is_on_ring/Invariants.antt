use Rattle.std.proofs.Common.{◌≡◌, false, take}
use Rattle.std.specs.List.{list_any}
use Rattle.flex_model.specs.Zone.{edges, is_on_edge}
use Rattle.zone_test.proofs.rings.is_on_ring.Given as goal

-- no earlier edge holds the point
abbrev pub invariant-loop-at : goal.invariant-loop-at
invariant-loop-at l = list_any (is_on_edge l.point) (take l.at (edges l.ring)) ≡ false
