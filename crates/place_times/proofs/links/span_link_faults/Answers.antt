use Rattle.std.proofs.Common.{◌≡◌, ◌∙◌, ◌++◌, ap, map, sym}
use Rattle.std.specs.List.{flat_map}
use Rattle.std.proofs.lemmas.List.{map-id}
use Rattle.std.proofs.lemmas.Iterator.Consumers.{YieldsList-end, YieldsList-from_first}
use Rattle.feed_tables.specs.Records.{header_of, rows_of}
use Rattle.feed_meaning.specs.Tables.{entry_of, faults_at, values_of}
use Rattle.feed_meaning.specs.TimesFaults as TimesFaults
use Rattle.feed_meaning.proofs.LinkFacts.{link_more}
use Rattle.place_times.proofs.Texts.{text_is}
use Rattle.place_times.proofs.links.span_link_faults.Goals as goal

pub loop-row-preserved : goal.loop-row-preserved
loop-row-preserved c = λ feed points are.
    let header = header_of c.args.table.now in
    let row = c.in-Some.row in
    let from = text_is header row.fields "from_id" _ c.value-from.result.now c.value-from.ensures c.column-from_id.ensures in
    let to = text_is header row.fields "to_id" _ c.value-to.result.now c.value-to.ensures c.column-to_id.ensures in
    link_more c.args.file (TimesFaults.span_links feed points) header c.loop-row.yielded row c.loop-row.faults c.add_faults.new.faults c.span_links-rules.result
    (c.loop-row.invariant feed points are)
    (c.in_ok-add_faults.ensures ∙ ap (λ n. c.loop-row.faults ++ faults_at c.args.file n c.span_links-rules.result) c.number.ensures)
    (c.span_links-rules.ensures feed points (values_of header row.fields) are from to)

pub returns : goal.returns
returns c = λ feed points are.
    let rows = rows_of c.args.table.now in
    let end = YieldsList-end (YieldsList-from_first (λ x. x) (λ x. x) rows (c.into_iter-row-iterator.ensures.into_iter_gives ∙ c.rows-row-items.ensures.rows))
    c.loop-row.yielded _ c.loop-row.yielded_by _ _ c.in-None.is c.next.ensures.steps in
    let all : c.loop-row.yielded ≡ rows = sym (map-id c.loop-row.yielded) ∙ end.0 in
    c.loop-row.invariant feed points are
    ∙ ap (λ rs. flat_map (λ e. faults_at c.args.file e.row (TimesFaults.span_links feed points e.values)) (map (entry_of (header_of c.args.table.now)) rs)) all
