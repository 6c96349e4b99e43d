use Rattle.zone_test.proofs.ServedStops.{AreServedBelow}
use Rattle.zone_test.proofs.zones.zone_stops.Given as goal

-- the earlier stops that are served
abbrev pub invariant-loop-at : goal.invariant-loop-at
invariant-loop-at l = AreServedBelow l.polygons l.fn.stops l.at l.numbers
