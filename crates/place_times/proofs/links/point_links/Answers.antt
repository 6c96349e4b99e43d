use Rattle.std.proofs.Common.{◌∙◌, ◌∷◌, [], ap}
use Rattle.flex_model.specs.declared.fault.FaultCode.TheVariants.{SharedId}
use Rattle.feed_meaning.specs.Rules.{rule}
use Rattle.feed_meaning.specs.TimesFaults.{is_stop}
use Rattle.place_times.proofs.links.point_links.Goals as goal

pub returns : goal.returns
returns c = λ feed points r are point. λ i.
    (c.rule.ensures ∙ ap (rule SharedId) (c.is_stop.ensures feed points are ∙ ap (is_stop feed) point)) i ∷ []
