use Rattle.std.proofs.Common.{All, IsUtf8, take}
use Rattle.bound_cert.proofs.held.look_at_stops.Given as goal

abbrev pub invariant-loop-i : goal.invariant-loop-i
invariant-loop-i l = All (λ stop. IsUtf8 stop.id) (take l.i l.stops)
