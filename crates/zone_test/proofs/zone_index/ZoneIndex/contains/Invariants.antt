use Rattle.std.proofs.Common.{◌≡◌, ◌||◌, false, take}
use Rattle.std.specs.List.{list_any}
use Rattle.flex_model.specs.Zone.{is_inside, is_on_boundary}
use Rattle.zone_test.proofs.zone_index.ZoneIndex.contains.Given as goal

-- no earlier polygon holds the point
abbrev pub invariant-loop-polygon : goal.invariant-loop-polygon
invariant-loop-polygon l = list_any (λ polygon. is_on_boundary l.point polygon.rings || is_inside l.point polygon.rings) (take l.polygon-index l.self) ≡ false
