use Rattle.std.proofs.Common.{◌∙◌, refl, ap}
use Rattle.flex_model.specs.declared.fault.FaultCode.TheVariants.{UnknownId}
use Rattle.flex_model.specs.declared.fault.InputFile.TheVariants as Files
use Rattle.feed_meaning.specs.FeedLinks.{is_unknown_service}
use Rattle.feed_meaning.specs.Rules.{rule}
use Rattle.feed_rules.proofs.KnownIds.{cons_same, unknown-in}
use Rattle.feed_rules.proofs.links.trip_links.Goals as goal

pub returns : goal.returns
returns c = λ tables r ids route service.
    let first = unknown-in tables Files.Routes "route_id" c.args.ids.now.routes c.args.route.now (r "route_id") c.is_unknown.result ids.routes c.is_unknown.ensures route in
    let second = c.is_unknown_service.ensures tables ids ∙ ap (is_unknown_service tables) service in
    cons_same (c.rule.ensures ∙ ap (rule UnknownId) first) (cons_same (c.rule-2.ensures ∙ ap (rule UnknownId) second) refl)
