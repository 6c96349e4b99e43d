use Rattle.std.proofs.Common.{ℕ, ◌<◌, slice_index_or}
use Rattle.flex_model.specs.declared.change.ChangeRow.{ChangeRow}
use Rattle.flex_model.specs.declared.place.Place.TheVariants.{Stop}
use Rattle.cert_check.specs.Ways.{AreNextHeld}
use Rattle.cert_check.proofs.ways.unheld_rule.Given as goal

abbrev pub invariant-loop-i : goal.invariant-loop-i
invariant-loop-i l = (j : ℕ) (d : ChangeRow) → j < l.i → AreNextHeld l.task l.label (Stop (slice_index_or l.rows j d).to)
