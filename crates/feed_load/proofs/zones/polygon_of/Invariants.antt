use Rattle.std.proofs.Common.{◌≡◌, take}
use Rattle.feed_load.proofs.zones.polygon_of.Given as goal

-- the earlier rings
abbrev pub invariant-loop-ring : goal.invariant-loop-ring
invariant-loop-ring l = l.rings ≡ take l.ring-index l.polygon.rings
