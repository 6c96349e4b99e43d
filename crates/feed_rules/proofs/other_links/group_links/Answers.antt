use Rattle.std.proofs.Common.{◌∙◌, ◌||◌, refl, ap}
use Rattle.flex_model.specs.declared.fault.FaultCode.TheVariants.{SharedId}
use Rattle.flex_model.specs.declared.fault.InputFile.TheVariants as Files
use Rattle.feed_tables.specs.Refusals.{is_given}
use Rattle.feed_meaning.specs.FeedLinks.{is_in}
use Rattle.feed_meaning.specs.Rules.{rule}
use Rattle.feed_rules.proofs.KnownIds.{cons_same}
use Rattle.feed_rules.proofs.other_links.group_links.Goals as goal

pub returns : goal.returns
returns c = λ tables r ids group given.
    let shared = c.is_shared.ensures tables ids (ap is_given group ∙ given)
    ∙ ap (λ t. is_in tables Files.Stops "stop_id" t || is_in tables Files.Locations "id" t) group in
    cons_same (c.rule.ensures ∙ ap (rule SharedId) shared) refl
