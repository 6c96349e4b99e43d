use Rattle.std.proofs.Common.{◌≡◌, ◌<◌, ◌-◌, get_or, length, take, true}
use Rattle.feed_tables.specs.Fields.{is_blank, without_trailing}
use Rattle.feed_tables.proofs.fields.unblanked_end.Given as goal

abbrev pub invariant-loop-back : goal.invariant-loop-back
invariant-loop-back l = record {
  value : without_trailing (take (length l.field - l.back) l.field) ≡ without_trailing l.field;
  blank : 0 < l.back → is_blank (get_or l.field (length l.field - l.back) 0) ≡ true;
}
