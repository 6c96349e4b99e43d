use Rattle.std.proofs.Common.{◌≡◌, ◌<◌, ◌-◌, ℕ, map, take}
use Rattle.bound_cert.specs.Parts.{told_label}
use Rattle.label_bag.specs.Bag.{IsBag}
use Rattle.round_engine.specs.Bags.{bag_at, round_at}
use Rattle.round_engine.specs.Flat.{labels_in}
use Rattle.journey_rebuild.proofs.rounds.round_of.Given as goal

abbrev pub invariant-loop-number : goal.invariant-loop-number
invariant-loop-number l = record {
  labels : map told_label l.labels ≡ labels_in (take l.number (round_at l.table.0 (l.round - 1)));
  bags : (i : ℕ) → i < l.number → IsBag (bag_at (round_at l.table.0 (l.round - 1)) i);
}
