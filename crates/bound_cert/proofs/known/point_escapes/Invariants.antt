use Rattle.std.proofs.Common.{◌≡◌, map, take}
use Rattle.field_text.specs.Grammars.{escape}
use Rattle.bound_cert.proofs.known.point_escapes.Given as goal

abbrev pub invariant-loop-point : goal.invariant-loop-point
invariant-loop-point l = l.escapes ≡ map (λ point. escape point.id) (take l.point-index l.points)
