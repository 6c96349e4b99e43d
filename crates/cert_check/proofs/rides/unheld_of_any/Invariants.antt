use Rattle.std.proofs.Common.{ℕ, None, ◌<◌, slice_index_or}
use Rattle.ride_index.specs.declared.offered_run.OfferedRun.{OfferedRun}
use Rattle.cert_check.specs.Tasks.{IsUnheldOf}
use Rattle.cert_check.proofs.rides.unheld_of_any.Given as goal

abbrev pub invariant-loop-i : goal.invariant-loop-i
invariant-loop-i l = (j : ℕ) (d : OfferedRun) → j < l.i → IsUnheldOf l.task l.boarded (slice_index_or l.runs j d) None
