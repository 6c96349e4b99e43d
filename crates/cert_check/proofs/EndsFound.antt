-- What is reached at the destination from a label.
use Rattle.std.proofs.Common.{◌≡◌, ℕ, ◌<◌, ℤ, Some, sym, ◌∙◌, ap, subst, arith}
use Rattle.cert_check.specs.declared.labels.RoundLabel.{RoundLabel}
use Rattle.cert_check.specs.declared.made.Made.{Made}
use Rattle.cert_check.specs.declared.task.Task.{Task}
use Rattle.flex_model.specs.declared.answer.Pair.{Pair}
use Rattle.flex_model.specs.declared.moment.Deadline.{Deadline}
use Rattle.flex_model.specs.Answer.{triples}
use Rattle.flex_model.specs.LabelTable.{IsHeldByTriple}
use Rattle.flex_model.specs.Triple.{CoversPair, pair_of_triple}
use Rattle.cert_check.specs.Ends.{IsEndCovered, IsEndOf, end_after}
use Rattle.cert_check.specs.Tasks.{pair_of_made}

abbrev pub as_pair : Deadline → ℤ → ℕ → Pair
as_pair deadline arrival walk = record { deadline = deadline; arrival = arrival; walk = walk }

-- what a held end comes from is covered
pub end_covered : (task : Task) (label : RoundLabel) (made : Made) → 0 < label.round → IsEndOf task label (Some made)
    → IsHeldByTriple (triples task.part.now.answers) (pair_of_made made) label.round → IsEndCovered task label
end_covered task label made some of held = λ seconds egress le.
    let same : of.0 ≡ seconds = sym (of.4 seconds egress) in
    let covers : CoversPair (pair_of_triple held.triple) (end_after task label seconds) =
    subst (CoversPair (pair_of_triple held.triple)) (of.3 ∙ ap (end_after task label) same) held.covers in
    let few = held.few in
    (held.triple, held.is_printed, record { deadline = covers.deadline; arrival = covers.arrival; transfers = omega arith; walk = covers.walk })
