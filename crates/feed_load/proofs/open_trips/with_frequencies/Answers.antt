use Rattle.std.proofs.Common.{length, sym, ◌∙◌, ap, arith}
use Rattle.std.proofs.lemmas.List.{length-map}
use Rattle.feed_tables.specs.Records.{header_of}
use Rattle.feed_load.specs.OpenTrips.{with_frequencies, with_repeats}
use Rattle.feed_load.specs.Repeats.{read_repeat, repeat_at}
use Rattle.feed_load.specs.TableValues.{values_under}
use Rattle.feed_load.proofs.Grouping.{found_low}
use Rattle.feed_load.proofs.OpenTrips.{nothing_yet, piece_added, piece_passed, repeats_added, size}
use Rattle.feed_load.proofs.Texts.{text_is}
use Rattle.feed_load.proofs.open_trips.with_frequencies.Goals as goal

pub loop-row-init : goal.loop-row-init
loop-row-init c = nothing_yet read_repeat with_repeats repeats_added c.args.trips.items

pub index_mut-requires : goal.index_mut-requires
index_mut-requires c =
    let trips = c.args.trips.items in
    let ids = c.args.trip_ids.now in
    let among = found_low ids c.value.result.now c.in-Some-index_of.index (sym c.index_of.ensures ∙ c.in-Some-index_of.is) in
    let many = size ids trips c.requires in
    let kept = ap length c.loop-row.invariant ∙ length-map trips (with_frequencies (values_under (header_of c.args.frequencies.now) c.loop-row.yielded)) in
    omega (arith, among, many, kept, c.loop-row.trips.ok.0)

pub loop-row-preserved : goal.loop-row-preserved
loop-row-preserved c =
    let header = header_of c.args.frequencies.now in
    let fields = c.in-Some.row.fields in
    let id = text_is header fields "trip_id" _ c.value.result.now c.value.ensures c.column-trip_id.ensures in
    piece_added read_repeat with_repeats repeats_added c.args.trips.items c.args.trip_ids.now c.requires header c.loop-row.yielded c.in-Some.row c.loop-row.trips.items c.loop-row.invariant
    c.value.result.now id c.in-Some-index_of.index c.repeat_of-repeat.result c.index_mut.result.now c.add_repeat.new.trip (sym c.index_of.ensures ∙ c.in-Some-index_of.is)
    (c.repeat_of-repeat.ensures ∙ ap (λ cs. repeat_at cs fields) c.repeat_columns-columns.ensures) c.index_mut.ensures.value c.in_ok-add_repeat.ensures

pub loop-row-preserved-in_default : goal.loop-row-preserved-in_default
loop-row-preserved-in_default c =
    let header = header_of c.args.frequencies.now in
    let id = text_is header c.in-Some.row.fields "trip_id" _ c.value.result.now c.value.ensures c.column-trip_id.ensures in
    piece_passed read_repeat with_repeats repeats_added c.args.trips.items c.args.trip_ids.now c.requires header c.loop-row.yielded c.in-Some.row c.loop-row.trips.items c.loop-row.invariant
    c.value.result.now id (sym c.index_of.ensures ∙ c.in_default.is)
