use Rattle.std.proofs.Common.{◌≡◌, ◌≤◌, ◌++◌, ◌+◌, ◌<◌, ◌^◌, drop, length, map, take, true}
use Rattle.std.specs.List.{list_all, sum_by}
use Rattle.std.specs.Str.{is_utf8}
use Rattle.csv.specs.Records.{fields_of}
use Rattle.feed_tables.specs.Fields.{trimmed}
use Rattle.feed_tables.proofs.table.push_fields.Given as goal

abbrev pub invariant-loop-field : goal.invariant-loop-field
invariant-loop-field l = record {
  same : l.field-iterator.row.now ≡ l.raw;
  within : l.field-iterator.at ≤ length (fields_of l.raw);
  added : l.pool ≡ l.initial.pool ++ map trimmed (take l.field-iterator.at (fields_of l.raw));
  room : sum_by length l.pool + sum_by length (drop l.field-iterator.at (fields_of l.raw)) < 2 ^ 32;
  text : list_all is_utf8 (map trimmed (take l.field-iterator.at (fields_of l.raw))) ≡ true;
}
