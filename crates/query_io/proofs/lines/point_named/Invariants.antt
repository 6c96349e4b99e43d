use Rattle.std.proofs.Common.{◌≡◌, None, take}
use Rattle.std.specs.Prelude.{position}
use Rattle.std.specs.Str.{bytes_eq}
use Rattle.field_text.specs.Grammars.{escape}
use Rattle.query_io.proofs.lines.point_named.Given as goal

abbrev pub invariant-loop-i : goal.invariant-loop-i
invariant-loop-i l = position (λ point. bytes_eq l.text (escape point.id)) (take l.i l.points) ≡ None
