use Rattle.std.proofs.Common.{◌∙◌, ◌++◌, ap, map}
use Rattle.flex_model.specs.declared.fault.InputFile.TheVariants as Files
use Rattle.feed_tables.specs.Records.{header_of}
use Rattle.feed_meaning.specs.Tables.{entry_of, faults_at, values_of, with_earlier_from}
use Rattle.feed_meaning.specs.TimesFaults as TimesFaults
use Rattle.feed_meaning.proofs.Passes.{ids_more, pass_more, repeats_seen}
use Rattle.place_times.proofs.Texts.{text_is}
use Rattle.place_times.proofs.point_records.point_faults.Goals as goal

pub loop-row-init : goal.loop-row-init
unfolding with_earlier_from
loop-row-init c = record { faults = c.new-faults.ensures; ids = c.new-ids.ensures }

pub loop-row-preserved : goal.loop-row-preserved
loop-row-preserved c =
    let header = header_of c.args.table.now in
    let seen = c.loop-row.yielded in
    let row = c.in-Some.row in
    let point = text_is header row.fields "point_id" _ c.value-point.result.now c.value-point.ensures c.column-point_id.ensures in
    let lat = text_is header row.fields "point_lat" _ c.value-lat.result.now c.value-lat.ensures c.column-point_lat.ensures in
    let lon = text_is header row.fields "point_lon" _ c.value-lon.result.now c.value-lon.ensures c.column-point_lon.ensures in
    let repeated = repeats_seen "point_id" header seen row c.loop-row.ids c.value-point.result.now c.in_ok-is_repeated.is_repeated c.loop-row.invariant.ids point c.in_ok-is_repeated.ensures.repeated in
    record {
      faults = pass_more Files.Points TimesFaults.point_rules header seen row c.loop-row.faults c.add_faults.new.faults c.point_rules-rules.result c.loop-row.invariant.faults
          (c.in_ok-add_faults.ensures ∙ ap (λ n. c.loop-row.faults ++ faults_at Files.Points n c.point_rules-rules.result) c.number.ensures)
          (c.point_rules-rules.ensures (map (λ x. x.values) (map (entry_of header) seen)) (values_of header row.fields) point repeated lat lon);
      ids = ids_more "point_id" header seen row c.loop-row.ids c.note.new.self c.value-point.result.now c.loop-row.invariant.ids c.in_ok-is_repeated.ensures.noted point;
    }
