use Rattle.std.proofs.Common.{◌∙◌, ◌∷◌, [], ap}
use Rattle.std.specs.Prelude.{is_none}
use Rattle.flex_model.specs.declared.fault.FaultCode.TheVariants.{BadNumber, DuplicateKey, EmptyField}
use Rattle.feed_meaning.specs.Rules.{is_empty, rule}
use Rattle.place_times.proofs.span_records.span_rules.Goals as goal

pub returns : goal.returns
returns c most earlier r from to seconds repeated = λ i.
    (c.rule.ensures ∙ ap (rule EmptyField) (c.is_empty.ensures ∙ ap is_empty from)) i
    ∷ (c.rule-2.ensures ∙ ap (rule EmptyField) (c.is_empty-2.ensures ∙ ap is_empty to)) i
    ∷ (c.rule-3.ensures ∙ ap (rule BadNumber) (c.is_no.ensures ∙ ap is_none seconds)) i
    ∷ (c.rule-4.ensures ∙ ap (rule DuplicateKey) repeated) i ∷ []
