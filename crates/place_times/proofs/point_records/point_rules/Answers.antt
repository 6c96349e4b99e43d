use Rattle.std.proofs.Common.{◌∙◌, ◌∷◌, [], ap}
use Rattle.std.specs.Prelude.{is_none}
use Rattle.flex_model.specs.declared.fault.FaultCode.TheVariants.{BadCoordinate, DuplicateKey, EmptyField}
use Rattle.field_text.specs.Grammars.{degree}
use Rattle.feed_meaning.specs.Rules.{is_empty, rule}
use Rattle.place_times.proofs.point_records.point_rules.Goals as goal

pub returns : goal.returns
returns c earlier r point repeated lat lon = λ i.
    (c.rule.ensures ∙ ap (rule EmptyField) (c.is_empty.ensures ∙ ap is_empty point)) i
    ∷ (c.rule-2.ensures ∙ ap (rule DuplicateKey) repeated) i
    ∷ (c.rule-3.ensures ∙ ap (rule BadCoordinate) (c.is_no.ensures ∙ ap is_none (c.latitude.ensures ∙ ap (degree 90) lat))) i
    ∷ (c.rule-4.ensures ∙ ap (rule BadCoordinate) (c.is_no-2.ensures ∙ ap is_none (c.longitude.ensures ∙ ap (degree 180) lon))) i ∷ []
