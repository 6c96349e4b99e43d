use Rattle.std.proofs.Common.{◌^◌, ◌<◌, All, take}
use Rattle.bound_cert.proofs.held.look_at_rows.Given as goal

abbrev pub invariant-loop-i : goal.invariant-loop-i
invariant-loop-i l = All (λ row. row.sequence < 2 ^ 32) (take l.i l.rows)
