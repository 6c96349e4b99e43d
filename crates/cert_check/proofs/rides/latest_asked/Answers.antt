use Rattle.std.proofs.Common.{rules, ◌≡◌, ◌⊎◌, ◌≤ℤ◌, to_z, of_z, sym, ◌∙◌, subst}
use mir.Syntax.{w64}
use Rattle.std.proofs.lemmas.Int.{to_z-of_z}
use Rattle.flex_model.specs.Answer.{triples}
use Rattle.flex_model.specs.Journey.{limit}
use Rattle.cert_check.specs.Tasks.{IsCoveredFrom}
use Rattle.cert_check.proofs.rides.latest_asked.Goals as goal

pub returns-clause-low : goal.returns-clause-low
returns-clause-low c =
    subst (λ m. m ≤ℤ limit c.args.task.now.query.now) (sym (to_z-of_z w64 c.covered_from.result (search rules)))
    (subst (λ m. c.covered_from.result ≤ℤ m) (to_z-of_z w64 c.limit_of.result (search rules) ∙ c.limit_of.ensures) c.covered_from.ensures.low)

pub returns-clause-late : goal.returns-clause-late
returns-clause-late c =
    let boarded = c.args.boarded.now in
    let from = c.covered_from.result in
    let answers = c.args.task.now.part.now.answers in
    subst (λ m. (m ≡ limit c.args.task.now.query.now) ⊎ IsCoveredFrom (triples answers) boarded m) (sym (to_z-of_z w64 from (search rules)))
    (subst (λ m. (from ≡ m) ⊎ IsCoveredFrom (triples answers) boarded from) (to_z-of_z w64 c.limit_of.result (search rules) ∙ c.limit_of.ensures)
    (subst (λ xs. (from ≡ to_z w64 (of_z w64 c.limit_of.result)) ⊎ IsCoveredFrom (triples xs) boarded from) c.as_slice.ensures c.covered_from.ensures.late))
