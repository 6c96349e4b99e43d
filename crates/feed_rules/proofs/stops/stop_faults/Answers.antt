use Rattle.std.proofs.Common.{◌≡◌, ◌∙◌, ◌++◌, ap, map, []}
use Rattle.std.specs.Option.{option_map_or}
use Rattle.flex_model.specs.declared.fault.InputFile.TheVariants as Files
use Rattle.feed_tables.specs.Fields.{value_at}
use Rattle.feed_tables.specs.Records.{header_of}
use Rattle.feed_meaning.specs.FeedRules as FeedRules
use Rattle.feed_meaning.specs.Tables.{entry_of, faults_at, values_of, with_earlier_from}
use Rattle.feed_meaning.proofs.Passes.{ids_more, pass_more, repeats_seen}
use Rattle.feed_rules.proofs.stops.stop_faults.Goals as goal

pub loop-row-init : goal.loop-row-init
unfolding with_earlier_from
loop-row-init c = record { faults = c.new-faults.ensures; ids = c.new-ids.ensures }

pub loop-row-preserved : goal.loop-row-preserved
loop-row-preserved c =
    let header = header_of c.args.table.now in
    let seen = c.loop-row.yielded in
    let row = c.in-Some.row in
    let stop : c.value-stop.result.now ≡ values_of header row.fields "stop_id" = c.value-stop.ensures ∙ ap (λ o. option_map_or (value_at row.fields) o []) c.column-stop_id.ensures in
    let kind : c.value-kind.result.now ≡ values_of header row.fields "location_type" = c.value-kind.ensures ∙ ap (λ o. option_map_or (value_at row.fields) o []) c.column-location_type.ensures in
    let lat : c.value-lat.result.now ≡ values_of header row.fields "stop_lat" = c.value-lat.ensures ∙ ap (λ o. option_map_or (value_at row.fields) o []) c.column-stop_lat.ensures in
    let lon : c.value-lon.result.now ≡ values_of header row.fields "stop_lon" = c.value-lon.ensures ∙ ap (λ o. option_map_or (value_at row.fields) o []) c.column-stop_lon.ensures in
    let repeated = repeats_seen "stop_id" header seen row c.loop-row.ids c.value-stop.result.now c.in_ok-is_repeated.is_repeated c.loop-row.invariant.ids stop c.in_ok-is_repeated.ensures.repeated in
    record {
      faults = pass_more Files.Stops FeedRules.stop_rules header seen row c.loop-row.faults c.add_faults.new.faults c.stop_rules-rules.result c.loop-row.invariant.faults
          (c.in_ok-add_faults.ensures ∙ ap (λ n. c.loop-row.faults ++ faults_at Files.Stops n c.stop_rules-rules.result) c.number.ensures)
          (c.stop_rules-rules.ensures (map (λ x. x.values) (map (entry_of header) seen)) (values_of header row.fields) stop repeated kind lat lon);
      ids = ids_more "stop_id" header seen row c.loop-row.ids c.note.new.self c.value-stop.result.now c.loop-row.invariant.ids c.in_ok-is_repeated.ensures.noted stop;
    }
