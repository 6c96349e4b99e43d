use Rattle.std.proofs.Common.{◌≡◌, ◌++◌, [], replicate}
use Rattle.round_engine.proofs.bags.Bags.add_bags.Given as goal

abbrev pub invariant-loop-i : goal.invariant-loop-i
invariant-loop-i l = l.self ≡ l.initial.self ++ replicate l._i []
