use Rattle.std.proofs.Common.{◌∙◌, refl, ap}
use Rattle.flex_model.specs.declared.fault.FaultCode.TheVariants.{UnknownId}
use Rattle.feed_meaning.specs.FeedLinks.{is_unknown_service}
use Rattle.feed_meaning.specs.Rules.{rule}
use Rattle.feed_rules.proofs.KnownIds.{cons_same}
use Rattle.feed_rules.proofs.other_links.booking_rule_links.Goals as goal

pub returns : goal.returns
returns c = λ tables r ids service.
    let known = c.is_unknown_service.ensures tables ids ∙ ap (is_unknown_service tables) service in
    cons_same (c.rule.ensures ∙ ap (rule UnknownId) known) refl
