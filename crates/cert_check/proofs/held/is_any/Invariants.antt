use Rattle.std.proofs.Common.{◌≡◌, ℕ, ◌<◌, ◌≤◌, Some, slice_get}
use Rattle.cert_check.specs.declared.labels.RoundLabel.{RoundLabel}
use Rattle.flex_model.specs.LabelTable.{pair_of}
use Rattle.flex_model.specs.Triple.{CoversPair}
use Rattle.bound_cert.specs.Parts.{told_label}
use Rattle.cert_check.specs.Tasks.{pair_of_made}
use Rattle.cert_check.proofs.held.is_any.Given as goal

abbrev pub invariant-loop-i : goal.invariant-loop-i
invariant-loop-i l = (j : ℕ) (label : RoundLabel) → j < l.i → slice_get l.labels j ≡ Some label → label.round ≤ l.round
    → CoversPair (pair_of (told_label label.label)) (pair_of_made l.made) → ⊥
