use Rattle.std.proofs.Common.{[], ◌∷◌, ◌++◌, map, sym, ◌∙◌, ap}
use Rattle.std.proofs.lemmas.List.{map-append}
use Rattle.flex_model.specs.declared.times.Span.{Span}
use Rattle.feed_tables.specs.Records.{header_of}
use Rattle.feed_meaning.specs.Tables.{entry_of, values_of}
use Rattle.place_times.specs.Places.{read_span, span_by}
use Rattle.place_times.proofs.PairFacts.{values_more}
use Rattle.place_times.proofs.Texts.{text_is}
use Rattle.place_times.proofs.spans.unsorted_spans.Goals as goal

pub loop-row-preserved : goal.loop-row-preserved
loop-row-preserved c = λ feed points are.
    let header = header_of c.args.table.now in
    let seen = c.loop-row.yielded in
    let row = c.in-Some.row in
    let earlier = map (λ x. x.values) (map (entry_of header) seen) in
    let r = values_of header row.fields in
    let most = c.args.most in
    let from = text_is header row.fields "from_id" _ c.value-from.result.now c.value-from.ensures c.column-from_id.ensures in
    let to = text_is header row.fields "to_id" _ c.value-to.result.now c.value-to.ensures c.column-to_id.ensures in
    let seconds = text_is header row.fields "seconds" _ c.value-seconds.result.now c.value-seconds.ensures c.column-seconds_column.ensures in
    c.in_ok-push.ensures.items ∙ ap (λ xs. xs ++ c.span_of.result ∷ []) (c.loop-row.invariant feed points are)
    ∙ ap (λ (s : Span). map (read_span feed points most) earlier ++ s ∷ [])
    (c.span_of.ensures feed points are
    ∙ ap (λ t. span_by feed points most t c.value-to.result.now c.value-seconds.result.now) from
    ∙ ap (λ t. span_by feed points most (r "from_id") t c.value-seconds.result.now) to
    ∙ ap (λ t. span_by feed points most (r "from_id") (r "to_id") t) seconds)
    ∙ sym (map-append (read_span feed points most) earlier (r ∷ []))
    ∙ ap (map (read_span feed points most)) (sym (values_more header seen row))
