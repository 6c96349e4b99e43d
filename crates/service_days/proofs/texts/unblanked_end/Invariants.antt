use Rattle.std.proofs.Common.{◌≡◌, ◌<◌, ◌-◌, get_or, length, take, true}
use Rattle.service_days.specs.ZoneTexts.{is_blank, without_trailing}
use Rattle.service_days.proofs.texts.unblanked_end.Given as goal

abbrev pub invariant-loop-back : goal.invariant-loop-back
invariant-loop-back l = record {
  value : without_trailing (take (length l.text - l.back) l.text) ≡ without_trailing l.text;
  blank : 0 < l.back → is_blank (get_or l.text (length l.text - l.back) 0) ≡ true;
}
