use Rattle.std.proofs.Common.{map, sym, subst}
use Rattle.feed_tables.specs.Records.{header_of}
use Rattle.feed_meaning.specs.Tables.{entry_of, values_of}
use Rattle.feed_rules.specs.Orders.{AreOrdersOf}
use Rattle.feed_rules.proofs.OrderFacts.{none-noted}
use Rattle.feed_rules.proofs.PairFacts.{values_more}
use Rattle.feed_rules.proofs.orders.trip_order.Goals as goal

pub loop-row-init : goal.loop-row-init
loop-row-init c = record { windowless = none-noted c.new.result c.new.ensures.empty; timed = none-noted c.new-2.result c.new-2.ensures.empty }

pub loop-row-preserved : goal.loop-row-preserved
loop-row-preserved c =
    let header = header_of c.args.stop_times.now in
    let seen = c.loop-row.yielded in
    let row = c.in-Some.row in
    let r = values_of header row.fields in
    subst (AreOrdersOf c.note_record.new.order) (sym (values_more header seen row))
    (c.in_ok-note_record.ensures (map (λ x. x.values) (map (entry_of header) seen)) r (c.read_stop_time-record.ensures header c.stop_time_columns-columns.ensures) c.loop-row.invariant)
