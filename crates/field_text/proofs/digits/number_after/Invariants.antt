use Rattle.std.proofs.Common.{◌≡◌, take}
use Rattle.field_text.specs.Grammars as Grammars
use Rattle.field_text.proofs.digits.number_after.Given as goal

abbrev pub invariant-loop-digit : goal.invariant-loop-digit
invariant-loop-digit l = l.number ≡ Grammars.number_after l.before (take l.digit-index l.digits)
