use Rattle.std.proofs.Common.{◌∙◌, refl, ap}
use Rattle.flex_model.specs.declared.fault.FaultCode.TheVariants.{UnknownId}
use Rattle.flex_model.specs.declared.fault.InputFile.TheVariants as Files
use Rattle.feed_meaning.specs.Rules.{rule}
use Rattle.feed_rules.proofs.KnownIds.{cons_same, unknown-in}
use Rattle.feed_rules.proofs.other_links.frequency_links.Goals as goal

pub returns : goal.returns
returns c = λ tables r ids trip.
    let known = unknown-in tables Files.Trips "trip_id" c.args.ids.now.trips c.args.trip.now (r "trip_id") c.is_unknown.result ids.trips c.is_unknown.ensures trip in
    cons_same (c.rule.ensures ∙ ap (rule UnknownId) known) refl
