use Rattle.std.proofs.Common.{All, take}
use Rattle.bound_cert.specs.HeldCert.{IsHeldAnswer}
use Rattle.bound_cert.proofs.held_part.look_at_answers.Given as goal

abbrev pub invariant-loop-i : goal.invariant-loop-i
invariant-loop-i l = All IsHeldAnswer (take l.i l.answers)
