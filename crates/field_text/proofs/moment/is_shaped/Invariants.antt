use Rattle.std.proofs.Common.{◌≡◌, drop}
use Rattle.field_text.specs.Grammars as Grammars
use Rattle.field_text.proofs.moment.is_shaped.Given as goal

abbrev pub invariant-loop-i : goal.invariant-loop-i
invariant-loop-i l = Grammars.is_shaped (drop l.i l.pattern) (drop l.i l.text) ≡ Grammars.is_shaped l.pattern l.text
