use Rattle.std.proofs.Common.{All, take}
use Rattle.bound_cert.specs.HeldCert.{IsHeldRide}
use Rattle.bound_cert.proofs.held_part.look_at_rides.Given as goal

abbrev pub invariant-loop-i : goal.invariant-loop-i
invariant-loop-i l = All IsHeldRide (take l.i l.rides)
