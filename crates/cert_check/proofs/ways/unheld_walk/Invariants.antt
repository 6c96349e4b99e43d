use Rattle.std.proofs.Common.{ℕ, ◌<◌, slice_index_or}
use Rattle.flex_model.specs.declared.times.Span.{Span}
use Rattle.cert_check.specs.Ways.{AreFirstHeld}
use Rattle.cert_check.proofs.ways.unheld_walk.Given as goal

abbrev pub invariant-loop-i : goal.invariant-loop-i
invariant-loop-i l = (j : ℕ) (d : Span) → j < l.i → AreFirstHeld l.task (slice_index_or l.walks j d).to
