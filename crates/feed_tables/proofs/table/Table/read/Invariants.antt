use Rattle.std.proofs.Common.{◌≡◌, ◌≤◌, ◌<◌, ◌^◌, ◌++◌, ◌+◌, get_or, length, map}
use Rattle.std.specs.List.{sum_by}
use Rattle.feed_tables.specs.Fields.{trimmed}
use Rattle.feed_tables.specs.Parts.{EndAt, parts}
use Rattle.feed_tables.specs.Records.{table_records}
use Rattle.feed_tables.specs.Refusals.{first_refusal, first_refusal_from}
use Rattle.feed_tables.proofs.Bounds.{total}
use Rattle.feed_tables.proofs.table.Table.read.Given as goal

abbrev pub invariant-loop-index : goal.invariant-loop-index
invariant-loop-index l = record {
  count : length l.ends.items ≡ l.index;
  some : 0 < length l.ends.items;
  cut : EndAt 0 l.ends.items (length l.pool);
  small : get_or l.ends.items 0 0 ≤ 2 ^ 32;
  records : table_records l.bytes ≡ parts 0 l.ends.items l.pool ++ map (map trimmed) l.left;
  room : sum_by length l.pool + total l.left < 2 ^ 32;
  sound : first_refusal (table_records l.bytes) ≡ first_refusal_from l.columns l.index (map (map trimmed) l.left);
}
