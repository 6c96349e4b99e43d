use Rattle.std.proofs.Common.{map}
use Rattle.feed_tables.specs.Records.{header_of}
use Rattle.feed_meaning.specs.Tables.{entry_of}
use Rattle.feed_rules.specs.Orders.{AreOrdersOf}
use Rattle.feed_rules.proofs.orders.trip_order.Given as goal

abbrev pub invariant-loop-row : goal.invariant-loop-row
invariant-loop-row l = AreOrdersOf l.order (map (λ x. x.values) (map (entry_of (header_of l.stop_times)) l.yielded))
