use Rattle.std.proofs.Common.{◌≡◌, take}
use Rattle.zone_test.proofs.zone_index.PolygonIndex.build.Given as goal

-- the earlier rings
abbrev pub invariant-loop-ring : goal.invariant-loop-ring
invariant-loop-ring l = l.rings ≡ take l.ring-index l.polygon.rings
