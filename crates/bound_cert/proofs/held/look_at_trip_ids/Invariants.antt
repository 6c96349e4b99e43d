use Rattle.std.proofs.Common.{All, IsUtf8, take}
use Rattle.bound_cert.proofs.held.look_at_trip_ids.Given as goal

abbrev pub invariant-loop-i : goal.invariant-loop-i
invariant-loop-i l = All (λ trip. IsUtf8 trip.id) (take l.i l.trips)
