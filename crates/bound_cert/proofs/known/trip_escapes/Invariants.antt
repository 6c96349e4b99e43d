use Rattle.std.proofs.Common.{◌≡◌, map, take}
use Rattle.field_text.specs.Grammars.{escape}
use Rattle.bound_cert.proofs.known.trip_escapes.Given as goal

abbrev pub invariant-loop-trip : goal.invariant-loop-trip
invariant-loop-trip l = l.escapes ≡ map (λ trip. escape trip.id) (take l.trip-index l.trips)
