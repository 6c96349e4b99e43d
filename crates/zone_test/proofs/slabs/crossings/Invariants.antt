-- The crossings of the earlier edges.
use Rattle.std.proofs.Common.{◌≡◌, ◌≤◌, take, count_by}
use Rattle.flex_model.specs.Zone.{is_crossed}
use Rattle.zone_test.specs.Slabs.{edge_from}
use Rattle.zone_test.proofs.slabs.crossings.Given as goal

abbrev pub invariant-loop-at : goal.invariant-loop-at
invariant-loop-at l = record {
  count : l.crossings ≡ count_by (λ at. is_crossed l.point (edge_from l.corners at)) (take l.at-index l.numbers);
  few : l.crossings ≤ l.at-index;
}
