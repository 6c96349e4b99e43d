use Rattle.std.proofs.Common.{◌≡◌, ◌≤◌, take, count_by}
use Rattle.flex_model.specs.Zone.{edges, is_crossed}
use Rattle.zone_test.proofs.rings.is_surrounded.Given as goal

-- the crossings of the earlier edges
abbrev pub invariant-loop-at : goal.invariant-loop-at
invariant-loop-at l = (l.crossings ≡ count_by (is_crossed l.point) (take l.at (edges l.ring))) × (l.crossings ≤ l.at)
