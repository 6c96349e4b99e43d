use Rattle.std.proofs.Common.{◌≤◌, ◌-◌}
use Rattle.flex_model.specs.declared.times.Times.{Times}
use Rattle.ride_index.proofs.RideLists.{Gained}
use Rattle.ride_index.proofs.StartRides.{IsEarlyStart}
use Rattle.ride_index.proofs.started.add_between.Given as goal

abbrev pub invariant-loop-least : goal.invariant-loop-least
invariant-loop-least l =
    (l.from ≤ l.least)
    × ((times : Times) → Gained (IsEarlyStart l.feed l.days l.departure l.day l.from l.until l.limit l.least times) l.fn.found.items l.found.items)

abbrev pub decreases-loop-least : goal.decreases-loop-least
decreases-loop-least l = l.until - l.least
