use Rattle.std.proofs.Common.{◌≡◌, ◌∙◌, ap, map, sym}
use Rattle.std.proofs.lemmas.Iterator.Consumers.{YieldsList-end, YieldsList-from_first}
use Rattle.std.proofs.lemmas.List.{map-id}
use Rattle.feed_tables.specs.Records.{RowFields, header_of, rows_of}
use Rattle.feed_load.specs.BookingColumns.{rule_at, rule_columns}
use Rattle.feed_load.proofs.booking_rules.rules_in.Goals as goal

pub returns : goal.returns
returns c =
    let rows = rows_of c.args.table.now in
    let end = YieldsList-end (YieldsList-from_first (λ x. x) (λ x. x) rows (c.into_iter-row-iterator.ensures.into_iter_gives ∙ c.rows-row-items.ensures.rows))
    c.loop-row.yielded _ c.loop-row.yielded_by _ _ c.in-None.is c.next.ensures.steps in
    let all : c.loop-row.yielded ≡ rows = sym (map-id c.loop-row.yielded) ∙ end.0 in
    c.loop-row.invariant ∙ ap (map (λ (row : RowFields). rule_at c.args.service_ids.now (rule_columns (header_of c.args.table.now)) row.fields)) all
