use Rattle.std.proofs.Common.{All, take}
use Rattle.bound_cert.specs.HeldCert.{IsHeldLabel}
use Rattle.bound_cert.proofs.held_part.look_at_labels.Given as goal

abbrev pub invariant-loop-i : goal.invariant-loop-i
invariant-loop-i l = All IsHeldLabel (take l.i l.labels)
