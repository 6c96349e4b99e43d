use Rattle.std.proofs.Common.{◌≡◌, false, take}
use Rattle.flex_model.specs.Zone.{is_on_boundary}
use Rattle.zone_test.proofs.zone_index.has_on_boundary.Given as goal

-- no edge of an earlier ring holds the point
abbrev pub invariant-loop-ring : goal.invariant-loop-ring
invariant-loop-ring l = is_on_boundary l.point (take l.ring-index l.rings) ≡ false
