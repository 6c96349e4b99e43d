use Rattle.std.proofs.Common.{◌≡◌, map, take}
use Rattle.field_text.specs.Grammars.{escape}
use Rattle.bound_cert.proofs.known.stop_escapes.Given as goal

abbrev pub invariant-loop-stop : goal.invariant-loop-stop
invariant-loop-stop l = l.escapes ≡ map (λ stop. escape stop.id) (take l.stop-index l.stops)
