use Rattle.std.proofs.Common.{◌≡◌, ◌<◌, ◌-◌, drop, get_or, true}
use Rattle.service_days.specs.ZoneTexts.{is_blank, without_leading}
use Rattle.service_days.proofs.texts.leading_blanks.Given as goal

abbrev pub invariant-loop-byte : goal.invariant-loop-byte
invariant-loop-byte l = record {
  count : l.count ≡ l.byte-index;
  value : without_leading (drop l.byte-index l.text) ≡ without_leading l.text;
  blank : 0 < l.count → is_blank (get_or l.text (l.count - 1) 0) ≡ true;
}
