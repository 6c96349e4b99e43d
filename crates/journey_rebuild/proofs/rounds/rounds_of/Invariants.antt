use Rattle.std.proofs.Common.{◌≡◌, ◌<◌, ◌^◌, ℕ, All, length, map, take}
use Rattle.round_engine.specs.Bags.{round_at}
use Rattle.round_engine.specs.Flat.{labels_in}
use Rattle.journey_rebuild.specs.Rounds.{AreBagsOf, are_told}
use Rattle.journey_rebuild.proofs.rounds.rounds_of.Given as goal

abbrev pub invariant-loop-number : goal.invariant-loop-number
invariant-loop-number l = record {
  rounds : are_told l.rounds ≡ map labels_in (take l.number l.table.0);
  bags : (r : ℕ) → r < l.number → AreBagsOf (round_at l.table.0 r);
  countable : All (λ round. length round.labels < 2 ^ 64) l.rounds;
}
