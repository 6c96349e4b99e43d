use Rattle.std.proofs.Common.{◌≡◌, take}
use Rattle.zone_test.proofs.zone_index.ZoneIndex.build.Given as goal

-- the earlier polygons
abbrev pub invariant-loop-polygon : goal.invariant-loop-polygon
invariant-loop-polygon l = l.indices ≡ take l.polygon-index l.polygons
