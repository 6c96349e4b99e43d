use Rattle.std.proofs.Common.{[], ◌∷◌, ◌++◌, map, sym, ◌∙◌, ap}
use Rattle.feed_tables.specs.Records.{RowFields, header_of}
use Rattle.feed_meaning.specs.Tables.{values_of}
use Rattle.feed_load.specs.OpenTrips.{empty_trip, empty_trip_by}
use Rattle.feed_load.specs.TableValues.{values_under}
use Rattle.feed_load.proofs.Grouping.{map_more}
use Rattle.feed_load.proofs.Texts.{text_is}
use Rattle.feed_load.proofs.open_trips.empty_trips.Goals as goal

pub loop-row-preserved : goal.loop-row-preserved
loop-row-preserved c =
    let header = header_of c.args.table.now in
    let fields = c.in-Some.row.fields in
    let ids = c.args.service_ids.now in
    let id = text_is header fields "trip_id" _ c.value-id.result.now c.value-id.ensures c.column-trip_id.ensures in
    let service = text_is header fields "service_id" _ c.value-service.result.now c.value-service.ensures c.column-service_id.ensures in
    c.in_ok-push.ensures.items ∙ ap (λ xs. xs ++ c.in_ok-empty_trip.field-0 ∷ []) c.loop-row.invariant
    ∙ ap (λ t. map (empty_trip ids) (values_under header c.loop-row.yielded) ++ t ∷ [])
    (c.in_ok-empty_trip.ensures ∙ ap (λ i. empty_trip_by ids i c.value-service.result.now) id ∙ ap (empty_trip_by ids (values_of header fields "trip_id")) service)
    ∙ sym (map_more (empty_trip ids) (λ (x : RowFields). values_of header x.fields) c.loop-row.yielded c.in-Some.row)
