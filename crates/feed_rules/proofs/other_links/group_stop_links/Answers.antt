use Rattle.std.proofs.Common.{◌∙◌, refl, ap}
use Rattle.flex_model.specs.declared.fault.FaultCode.TheVariants.{UnknownId}
use Rattle.flex_model.specs.declared.fault.InputFile.TheVariants as Files
use Rattle.feed_meaning.specs.Rules.{rule}
use Rattle.feed_rules.proofs.KnownIds.{cons_same, unknown-in}
use Rattle.feed_rules.proofs.other_links.group_stop_links.Goals as goal

pub returns : goal.returns
returns c = λ tables r ids group stop.
    let first = unknown-in tables Files.LocationGroups "location_group_id" c.args.ids.now.groups c.args.group.now (r "location_group_id") c.is_unknown.result ids.groups c.is_unknown.ensures group in
    let second = unknown-in tables Files.Stops "stop_id" c.args.ids.now.stops c.args.stop.now (r "stop_id") c.is_unknown-2.result ids.stops c.is_unknown-2.ensures stop in
    cons_same (c.rule.ensures ∙ ap (rule UnknownId) first) (cons_same (c.rule-2.ensures ∙ ap (rule UnknownId) second) refl)
