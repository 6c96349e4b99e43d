use Rattle.std.proofs.Common.{◌∙◌, ◌++◌, ap}
use Rattle.flex_model.specs.declared.fault.InputFile.TheVariants as Files
use Rattle.feed_tables.specs.Records.{header_of}
use Rattle.feed_meaning.specs.Tables.{faults_at, values_of}
use Rattle.feed_meaning.specs.TimesFaults as TimesFaults
use Rattle.feed_meaning.proofs.LinkFacts.{link_more}
use Rattle.place_times.proofs.Texts.{text_is}
use Rattle.place_times.proofs.links.point_link_faults.Goals as goal

pub loop-row-preserved : goal.loop-row-preserved
loop-row-preserved c = λ feed points are.
    let header = header_of c.args.table.now in
    let row = c.in-Some.row in
    let point = text_is header row.fields "point_id" _ c.value-point.result.now c.value-point.ensures c.column-point_id.ensures in
    link_more Files.Points (TimesFaults.point_links feed) header c.loop-row.yielded row c.loop-row.faults c.add_faults.new.faults c.point_links-rules.result
    (c.loop-row.invariant feed points are)
    (c.in_ok-add_faults.ensures ∙ ap (λ n. c.loop-row.faults ++ faults_at Files.Points n c.point_links-rules.result) c.number.ensures)
    (c.point_links-rules.ensures feed points (values_of header row.fields) are point)
