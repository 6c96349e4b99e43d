use Rattle.std.proofs.Common.{◌∙◌, ◌∷◌, [], ap}
use Rattle.std.specs.Prelude.{is_none}
use Rattle.flex_model.specs.declared.fault.FaultCode.TheVariants.{BadDate, BadEnum, DuplicateKey, EmptyField}
use Rattle.field_text.specs.Grammars.{choice}
use Rattle.feed_meaning.specs.Rules.{is_empty, rule}
use Rattle.feed_rules.proofs.calendar_dates.date_rules.Goals as goal

pub returns : goal.returns
returns c earlier r service day kind repeated = λ i.
    (c.rule.ensures ∙ ap (rule EmptyField) (c.is_empty.ensures ∙ ap is_empty service)) i
    ∷ (c.rule-2.ensures ∙ ap (rule BadDate) (c.is_no.ensures ∙ ap is_none day)) i
    ∷ (c.rule-3.ensures ∙ ap (rule BadEnum) (c.is_no-2.ensures ∙ ap is_none (c.choice.ensures ∙ ap (choice 1 2) kind))) i
    ∷ (c.rule-4.ensures ∙ ap (rule DuplicateKey) repeated) i ∷ []
