use Rattle.std.proofs.Common.{◌≡◌, ℕ, ◌<◌, Some, slice_get}
use Rattle.flex_model.specs.declared.answer.Answer.{Answer}
use Rattle.flex_model.specs.Triple.{CoversPair, pair_of_triple}
use Rattle.cert_check.specs.Tasks.{pair_of_made}
use Rattle.cert_check.proofs.held.is_held_by_answer.Given as goal

abbrev pub invariant-loop-i : goal.invariant-loop-i
invariant-loop-i l = (j : ℕ) (answer : Answer) → j < l.i → slice_get l.answers j ≡ Some answer → answer.triple.transfers < l.round
    → CoversPair (pair_of_triple answer.triple) (pair_of_made l.made) → ⊥
