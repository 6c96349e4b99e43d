use Rattle.std.proofs.Common.{All, IsUtf8, take}
use Rattle.bound_cert.proofs.held.look_at_points.Given as goal

abbrev pub invariant-loop-i : goal.invariant-loop-i
invariant-loop-i l = All (λ point. IsUtf8 point.id) (take l.i l.points)
