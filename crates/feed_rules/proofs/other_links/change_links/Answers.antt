use Rattle.std.proofs.Common.{◌∙◌, refl, ap}
use Rattle.flex_model.specs.declared.fault.FaultCode.TheVariants.{UnknownId}
use Rattle.flex_model.specs.declared.fault.InputFile.TheVariants as Files
use Rattle.feed_meaning.specs.Rules.{rule}
use Rattle.feed_rules.proofs.KnownIds.{cons_same, unknown-in}
use Rattle.feed_rules.proofs.other_links.change_links.Goals as goal

pub returns : goal.returns
returns c = λ tables r read ids.
    let t = c.args.t.now in
    let first = unknown-in tables Files.Stops "stop_id" c.args.ids.now.stops t.from.now (r "from_stop_id") c.is_unknown.result ids.stops c.is_unknown.ensures read.from in
    let second = unknown-in tables Files.Stops "stop_id" c.args.ids.now.stops t.to.now (r "to_stop_id") c.is_unknown-2.result ids.stops c.is_unknown-2.ensures read.to in
    cons_same (c.rule.ensures ∙ ap (rule UnknownId) first) (cons_same (c.rule-2.ensures ∙ ap (rule UnknownId) second) refl)
