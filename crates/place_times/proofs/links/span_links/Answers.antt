use Rattle.std.proofs.Common.{◌∙◌, ◌∷◌, [], not, ap}
use Rattle.flex_model.specs.declared.fault.FaultCode.TheVariants.{UnknownId}
use Rattle.feed_meaning.specs.Rules.{rule}
use Rattle.feed_meaning.specs.TimesFaults.{is_place}
use Rattle.place_times.proofs.links.span_links.Goals as goal

pub returns : goal.returns
returns c = λ feed points r are from to. λ i.
    (c.rule.ensures ∙ ap (λ b. rule UnknownId (not b)) (c.is_place.ensures feed points are ∙ ap (is_place feed points) from)) i
    ∷ (c.rule-2.ensures ∙ ap (λ b. rule UnknownId (not b)) (c.is_place-2.ensures feed points are ∙ ap (is_place feed points) to)) i ∷ []
