use Rattle.std.proofs.Common.{ℕ, ◌<◌}
use Rattle.cert_check.specs.Tasks.{IsNthHeld}
use Rattle.cert_check.proofs.rides.unheld_of.Given as goal

abbrev pub invariant-loop-number : goal.invariant-loop-number
invariant-loop-number l = (k : ℕ) → k < l.number → IsNthHeld l.task l.boarded l.run k
