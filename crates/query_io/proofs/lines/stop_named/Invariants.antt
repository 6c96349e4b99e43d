use Rattle.std.proofs.Common.{◌≡◌, None, take}
use Rattle.std.specs.Prelude.{position}
use Rattle.std.specs.Str.{bytes_eq}
use Rattle.field_text.specs.Grammars.{escape}
use Rattle.query_io.proofs.lines.stop_named.Given as goal

abbrev pub invariant-loop-i : goal.invariant-loop-i
invariant-loop-i l = position (λ stop. bytes_eq l.text (escape stop.id)) (take l.i l.stops) ≡ None
