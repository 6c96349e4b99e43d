use Rattle.std.proofs.Common.{◌≡◌, not, true, take}
use Rattle.std.specs.List.{list_all}
use Rattle.flex_model.specs.Zone.{crossings, is_odd}
use Rattle.zone_test.proofs.zone_index.has_outside_all.Given as goal

-- no earlier hole surrounds the point
abbrev pub invariant-loop-hole : goal.invariant-loop-hole
invariant-loop-hole l = list_all (λ hole. not (is_odd (crossings l.point hole))) (take l.hole-index l.holes) ≡ true
