use Rattle.std.proofs.Common.{◌≡◌, ◌∙◌, ◌||◌, sym, ap, []}
use Rattle.std.specs.List.{list_any}
use Rattle.std.specs.Option.{option_map_or}
use Rattle.std.specs.Str.{bytes_eq}
use Rattle.feed_tables.specs.Fields.{value_at}
use Rattle.feed_tables.specs.Records.{header_of}
use Rattle.feed_meaning.specs.Rules as Rules
use Rattle.feed_meaning.specs.Tables.{values_of}
use Rattle.feed_rules.proofs.StationFacts.{boarding_more, station_more}
use Rattle.feed_rules.proofs.stations.stations_in.Goals as goal

pub loop-row-init : goal.loop-row-init
loop-row-init c = λ text given. ap (list_any (bytes_eq text)) c.new-ids.ensures

pub loop-row-preserved-then-is_boarding : goal.loop-row-preserved-then-is_boarding
loop-row-preserved-then-is_boarding c =
    let header = header_of c.args.stops.now in
    let row = c.in-Some.row in
    let kind : c.value-kind.result.now ≡ values_of header row.fields "location_type" = c.value-kind.ensures ∙ ap (λ o. option_map_or (value_at row.fields) o []) c.column-location_type.ensures in
    let boards = sym (ap (λ k. Rules.is_empty k || Rules.is_text k "0") kind) ∙ sym c.is_boarding.ensures ∙ c.if-is_boarding.true in
    boarding_more c.loop-row.ids header c.loop-row.yielded row boards c.loop-row.invariant

pub loop-row-preserved : goal.loop-row-preserved
loop-row-preserved c =
    let header = header_of c.args.stops.now in
    let row = c.in-Some.row in
    let kind : c.value-kind.result.now ≡ values_of header row.fields "location_type" = c.value-kind.ensures ∙ ap (λ o. option_map_or (value_at row.fields) o []) c.column-location_type.ensures in
    let stop : c.value-stop.result.now ≡ values_of header row.fields "stop_id" = c.value-stop.ensures ∙ ap (λ o. option_map_or (value_at row.fields) o []) c.column-stop_id.ensures in
    let boards = sym (ap (λ k. Rules.is_empty k || Rules.is_text k "0") kind) ∙ sym c.is_boarding.ensures ∙ c.if-is_boarding.false in
    station_more c.loop-row.ids c.note.new.self header c.loop-row.yielded row c.value-stop.result.now boards stop c.in_ok-note.ensures.noted c.loop-row.invariant
