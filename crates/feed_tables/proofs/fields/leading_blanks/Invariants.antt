use Rattle.std.proofs.Common.{◌≡◌, ◌<◌, ◌-◌, drop, get_or, true}
use Rattle.feed_tables.specs.Fields.{is_blank, without_leading}
use Rattle.feed_tables.proofs.fields.leading_blanks.Given as goal

abbrev pub invariant-loop-byte : goal.invariant-loop-byte
invariant-loop-byte l = record {
  count : l.count ≡ l.byte-index;
  value : without_leading (drop l.byte-index l.field) ≡ without_leading l.field;
  blank : 0 < l.count → is_blank (get_or l.field (l.count - 1) 0) ≡ true;
}
