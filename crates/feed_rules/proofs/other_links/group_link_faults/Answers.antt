use Rattle.std.proofs.Common.{◌≡◌, ◌∙◌, ◌++◌, ap, []}
use Rattle.std.specs.Option.{option_map_or}
use Rattle.flex_model.specs.declared.fault.InputFile.TheVariants as Files
use Rattle.feed_tables.specs.Fields.{value_at}
use Rattle.feed_tables.specs.Records.{header_of}
use Rattle.feed_meaning.specs.FeedLinks as FeedLinks
use Rattle.feed_meaning.specs.Tables.{faults_at, values_of}
use Rattle.feed_meaning.proofs.LinkFacts.{link_more}
use Rattle.feed_rules.proofs.KnownIds.{ids_more}
use Rattle.feed_rules.proofs.other_links.group_link_faults.Goals as goal

pub loop-row-preserved : goal.loop-row-preserved
loop-row-preserved c = λ tables ids given.
    let header = header_of c.args.groups.now in
    let row = c.in-Some.row in
    let group : c.value-group.result.now ≡ values_of header row.fields "location_group_id" = c.value-group.ensures ∙ ap (λ o. option_map_or (value_at row.fields) o []) c.column-location_group_id.ensures in
    let both = ids_more header c.loop-row.yielded row given in
    link_more Files.LocationGroups (FeedLinks.group_links tables) header c.loop-row.yielded row c.loop-row.faults c.add_faults.new.faults c.group_links-rules.result
    (c.loop-row.invariant tables ids both.0)
    (c.in_ok-add_faults.ensures ∙ ap (λ n. c.loop-row.faults ++ faults_at Files.LocationGroups n c.group_links-rules.result) c.number.ensures)
    (c.group_links-rules.ensures tables (values_of header row.fields) ids group both.1)

pub loop-row-init : goal.loop-row-init
loop-row-init c = λ tables ids given. c.new-faults.ensures
