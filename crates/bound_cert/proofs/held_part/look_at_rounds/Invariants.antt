use Rattle.std.proofs.Common.{All, take}
use Rattle.bound_cert.specs.HeldCert.{IsHeldRound}
use Rattle.bound_cert.proofs.held_part.look_at_rounds.Given as goal

abbrev pub invariant-loop-i : goal.invariant-loop-i
invariant-loop-i l = All IsHeldRound (take l.i l.rounds)
