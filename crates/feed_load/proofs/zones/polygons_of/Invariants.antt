use Rattle.std.proofs.Common.{◌≡◌, take}
use Rattle.feed_load.proofs.zones.polygons_of.Given as goal

-- the earlier polygons
abbrev pub invariant-loop-polygon : goal.invariant-loop-polygon
invariant-loop-polygon l = l.own ≡ take l.polygon-index l.polygons
