use Rattle.std.proofs.Common.{◌≡◌, ◌∙◌, ◌++◌, ap, []}
use Rattle.std.specs.Option.{option_map_or}
use Rattle.flex_model.specs.declared.fault.InputFile.TheVariants as Files
use Rattle.feed_tables.specs.Fields.{value_at}
use Rattle.feed_tables.specs.Records.{header_of}
use Rattle.feed_meaning.specs.FeedLinks as FeedLinks
use Rattle.feed_meaning.specs.Tables.{faults_at, values_of}
use Rattle.feed_meaning.proofs.LinkFacts.{link_more}
use Rattle.feed_rules.proofs.other_links.group_stop_link_faults.Goals as goal

pub loop-row-preserved : goal.loop-row-preserved
loop-row-preserved c = λ tables ids.
    let header = header_of c.args.group_stops.now in
    let row = c.in-Some.row in
    let group : c.value-group.result.now ≡ values_of header row.fields "location_group_id" = c.value-group.ensures ∙ ap (λ o. option_map_or (value_at row.fields) o []) c.column-location_group_id.ensures in
    let stop : c.value-stop.result.now ≡ values_of header row.fields "stop_id" = c.value-stop.ensures ∙ ap (λ o. option_map_or (value_at row.fields) o []) c.column-stop_id.ensures in
    link_more Files.LocationGroupStops (FeedLinks.group_stop_links tables) header c.loop-row.yielded row c.loop-row.faults c.add_faults.new.faults c.group_stop_links-rules.result
    (c.loop-row.invariant tables ids)
    (c.in_ok-add_faults.ensures ∙ ap (λ n. c.loop-row.faults ++ faults_at Files.LocationGroupStops n c.group_stop_links-rules.result) c.number.ensures)
    (c.group_stop_links-rules.ensures tables (values_of header row.fields) ids group stop)
