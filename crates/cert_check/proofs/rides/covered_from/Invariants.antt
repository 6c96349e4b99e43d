use Rattle.std.proofs.Common.{◌≡◌, ◌⊎◌, ◌≤ℤ◌}
use Rattle.flex_model.specs.Answer.{triples}
use Rattle.cert_check.specs.Tasks.{IsCoveredFrom}
use Rattle.cert_check.proofs.rides.covered_from.Given as goal

abbrev pub invariant-loop-i : goal.invariant-loop-i
invariant-loop-i l = (l.latest ≤ℤ l.limit) × ((l.latest ≡ l.limit) ⊎ IsCoveredFrom (triples l.answers) l.boarded l.latest)
