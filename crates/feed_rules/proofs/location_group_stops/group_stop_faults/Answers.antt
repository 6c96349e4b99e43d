use Rattle.std.proofs.Common.{◌≡◌, ◌∙◌, ◌++◌, ap, map, []}
use Rattle.std.specs.Option.{option_map_or}
use Rattle.flex_model.specs.declared.fault.InputFile.TheVariants as Files
use Rattle.feed_tables.specs.Fields.{value_at}
use Rattle.feed_tables.specs.Records.{header_of}
use Rattle.feed_meaning.specs.FeedRules as FeedRules
use Rattle.feed_meaning.specs.Tables.{entry_of, faults_at, values_of, with_earlier_from}
use Rattle.feed_meaning.proofs.Passes.{pass_more}
use Rattle.feed_rules.proofs.location_group_stops.group_stop_faults.Goals as goal

pub loop-row-init : goal.loop-row-init
unfolding with_earlier_from
loop-row-init c = c.new-faults.ensures

pub loop-row-preserved : goal.loop-row-preserved
loop-row-preserved c =
    let header = header_of c.args.table.now in
    let seen = c.loop-row.yielded in
    let row = c.in-Some.row in
    let group : c.value-group.result.now ≡ values_of header row.fields "location_group_id" = c.value-group.ensures ∙ ap (λ o. option_map_or (value_at row.fields) o []) c.column-location_group_id.ensures in
    let stop : c.value-stop.result.now ≡ values_of header row.fields "stop_id" = c.value-stop.ensures ∙ ap (λ o. option_map_or (value_at row.fields) o []) c.column-stop_id.ensures in
    pass_more Files.LocationGroupStops FeedRules.group_stop_rules header seen row c.loop-row.faults c.add_faults.new.faults c.group_stop_rules-rules.result c.loop-row.invariant
    (c.in_ok-add_faults.ensures ∙ ap (λ n. c.loop-row.faults ++ faults_at Files.LocationGroupStops n c.group_stop_rules-rules.result) c.number.ensures)
    (c.group_stop_rules-rules.ensures (map (λ x. x.values) (map (entry_of header) seen)) (values_of header row.fields) group stop)
