use Rattle.std.proofs.Common.{◌≡◌, take}
use Rattle.cert_check.specs.Labels.{labels_from}
use Rattle.cert_check.proofs.labels.labels_of.Given as goal

abbrev pub invariant-loop-i : goal.invariant-loop-i
invariant-loop-i l = l.labels.items ≡ labels_from 1 (take l.i l.rounds)
