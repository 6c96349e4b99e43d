use Rattle.std.proofs.Common.{◌≡◌, ◌++◌, map, take}
use Rattle.cert_check.specs.Labels.{in_round}
use Rattle.cert_check.proofs.labels.add_round.Given as goal

abbrev pub invariant-loop-i : goal.invariant-loop-i
invariant-loop-i l = l.into.items ≡ l.initial.into.items ++ map (in_round l.round) (take l.i l.labels)
