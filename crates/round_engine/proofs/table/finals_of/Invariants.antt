use Rattle.std.proofs.Common.{◌≡◌, ◌<◌, ℕ, take}
use Rattle.label_bag.specs.Bag.{IsBag}
use Rattle.round_engine.specs.Bags.{bag_at}
use Rattle.round_engine.specs.Table.{finals_from}
use Rattle.round_engine.proofs.table.finals_of.Given as goal

abbrev pub invariant-loop-transfers : goal.invariant-loop-transfers
invariant-loop-transfers l = record {
  finals : l.into.items ≡ finals_from 0 (take l.transfers l.ends);
  bags : (t : ℕ) → t < l.transfers → IsBag (bag_at l.ends t);
}
