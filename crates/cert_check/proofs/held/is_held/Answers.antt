use Rattle.std.proofs.Common.{inl, inr, sym, subst}
use Rattle.flex_model.specs.Answer.{triples}
use Rattle.flex_model.specs.LabelTable.{IsHeldByTriple}
use Rattle.cert_check.specs.Tasks.{pair_of_made}
use Rattle.cert_check.proofs.HeldRides.{held_among, held_in_table}
use Rattle.cert_check.proofs.held.is_held.Goals as goal

pub returns-then-is_held_by_answer : goal.returns-then-is_held_by_answer
returns-then-is_held_by_answer c = (
  λ is. inr (subst (λ answers. IsHeldByTriple (triples answers) (pair_of_made c.args.made.now) c.args.round) c.as_slice.ensures (c.is_held_by_answer.ensures.0 is)),
  λ held. c.if-is_held_by_answer.true,
)

pub returns-else-is_held_by_answer : goal.returns-else-is_held_by_answer
returns-else-is_held_by_answer c = (
  λ is. inl (held_in_table c.args.task.now.part.now c.args.lookups.now.labels.now c.requires.labels c.args.place (pair_of_made c.args.made.now) c.args.round
      (c.is_held_by_label.ensures.0 is)),
  λ held. elim held [
    | inl label ↦ c.is_held_by_label.ensures.1 (held_among c.args.task.now.part.now c.args.lookups.now.labels.now c.requires.labels c.args.place (pair_of_made c.args.made.now) c.args.round label)
    | inr triple ↦ (
        let yes' = c.is_held_by_answer.ensures.1 (subst (λ answers. IsHeldByTriple (triples answers) (pair_of_made c.args.made.now) c.args.round) (sym c.as_slice.ensures) triple) in
        let no' = c.if-is_held_by_answer.false in
        cc)
  ],
)
