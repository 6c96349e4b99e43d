use Rattle.std.proofs.Common.{◌≡◌, map}
use Rattle.feed_tables.specs.Records.{header_of}
use Rattle.feed_load.specs.BookingColumns.{rule_at, rule_columns}
use Rattle.feed_load.proofs.booking_rules.rules_in.Given as goal

abbrev pub invariant-loop-row : goal.invariant-loop-row
invariant-loop-row l = l.rules ≡ map (λ row. rule_at l.service_ids (rule_columns (header_of l.table)) row.fields) l.yielded
