use Rattle.std.proofs.Common.{[], ◌∷◌, ◌++◌, map, sym, ◌∙◌, ap}
use Rattle.std.proofs.lemmas.List.{map-append}
use Rattle.flex_model.specs.declared.place.Point.{Point}
use Rattle.feed_tables.specs.Records.{header_of}
use Rattle.feed_meaning.specs.FeedValue.{coordinate}
use Rattle.feed_meaning.specs.Tables.{entry_of, values_of}
use Rattle.feed_meaning.specs.TimesValue.{point_of}
use Rattle.place_times.proofs.PairFacts.{values_more}
use Rattle.place_times.proofs.Texts.{text_is}
use Rattle.place_times.proofs.point_records.points_of.Goals as goal

pub loop-row-preserved : goal.loop-row-preserved
loop-row-preserved c =
    let header = header_of c.args.table.now in
    let seen = c.loop-row.yielded in
    let row = c.in-Some.row in
    let earlier = map (λ x. x.values) (map (entry_of header) seen) in
    let id = text_is header row.fields "point_id" _ c.value-id.result.now c.value-id.ensures c.column-point_id.ensures in
    let lat = text_is header row.fields "point_lat" _ c.value-lat.result.now c.value-lat.ensures c.column-point_lat.ensures in
    let lon = text_is header row.fields "point_lon" _ c.value-lon.result.now c.value-lon.ensures c.column-point_lon.ensures in
    c.in_ok-push.ensures.ok ∙ ap (λ xs. xs ++ c.in_ok-point_of.field-0 ∷ []) c.loop-row.invariant
    ∙ ap (λ (p : Point). map point_of earlier ++ p ∷ [])
    (c.in_ok-point_of.ensures
    ∙ ap (λ t. record { id = t; at = record { lon = coordinate 180 c.value-lon.result.now; lat = coordinate 90 c.value-lat.result.now } }) id
    ∙ ap (λ t. record { id = values_of header row.fields "point_id"; at = record { lon = coordinate 180 t; lat = coordinate 90 c.value-lat.result.now } }) lon
    ∙ ap (λ t. record { id = values_of header row.fields "point_id"; at = record { lon = coordinate 180 (values_of header row.fields "point_lon"); lat = coordinate 90 t } }) lat)
    ∙ sym (map-append point_of earlier (values_of header row.fields ∷ []))
    ∙ ap (map point_of) (sym (values_more header seen row))
