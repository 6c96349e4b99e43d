-- No earlier edge holds the point.
use Rattle.std.proofs.Common.{◌≡◌, false, take}
use Rattle.std.specs.List.{list_any}
use Rattle.flex_model.specs.Zone.{is_on_edge}
use Rattle.zone_test.specs.Slabs.{edge_from}
use Rattle.zone_test.proofs.slabs.is_on_some.Given as goal

abbrev pub invariant-loop-at : goal.invariant-loop-at
invariant-loop-at l = list_any (λ at. is_on_edge l.point (edge_from l.corners at)) (take l.at-index l.numbers) ≡ false
