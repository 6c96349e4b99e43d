-- The rides after a boarding are held. This project's own.
use Rattle.std.specs.Prelude.{List, length}
use Rattle.flex_model.specs.declared.answer.Pair.{Pair}
use Rattle.flex_model.specs.declared.moment.Deadline.{Deadline}
use Rattle.flex_model.specs.declared.ride.Ride.{Ride}
use Rattle.flex_model.specs.Deadline.{lesser}
use Rattle.flex_model.specs.LabelTable.{IsOnTheWay}
use Rattle.ride_index.specs.declared.boarded.BoardingPoint.{BoardingPoint}
use Rattle.ride_index.specs.declared.boarded.Carried.{Carried}
use Rattle.round_engine.specs.declared.boarding.Boarding.{Boarding}
use Rattle.round_engine.specs.declared.task.Task.{Task}
use Rattle.round_engine.specs.Attained.{IsHeldNow, number_of}
use Rattle.round_engine.specs.Bags.{Entry}
use Rattle.round_engine.specs.Chain.{deadline_up_to}
use Rattle.round_engine.specs.Made.{made_pair}
use Rattle.round_engine.specs.Offers.{LeavesFrom}

-- what is carried to the boarding
abbrev pub carried_to : Boarding → Carried
carried_to boarding = record { deadline = deadline_up_to boarding.parent; walk = boarding.walk }

-- the point of the boarding
abbrev pub point_at : Boarding → BoardingPoint
point_at boarding = record {
  place = boarding.place;
  earliest = boarding.earliest;
  carried = carried_to boarding;
}

-- the pair after the ride, coming with what is carried
abbrev pub pair_from : Carried → Ride → Deadline → Pair
pair_from carried ride deadline = record {
  deadline = lesser carried.deadline deadline;
  arrival = ride.arrives;
  walk = carried.walk;
}

-- what each ride on the way from the point makes is held
abbrev pub IsPointRidden : Task → List (List (List Entry)) → List (List Entry) → List (List Entry)
    → BoardingPoint → Type 0
IsPointRidden task earlier round ends point = (ride : Ride) (deadline : Deadline)
    → IsOnTheWay task.feed.now task.times.now task.days.now task.query.now ride deadline
    → LeavesFrom point.place point.earliest ride
    → IsHeldNow earlier round ends (number_of (length task.feed.now.stops) ride.alight)
    (pair_from point.carried ride deadline)

-- what each ride on the way makes of the boarding is held
abbrev pub AreRidden : Task → List (List (List Entry)) → List (List Entry) → List (List Entry)
    → Boarding → Type 0
AreRidden task earlier round ends boarding = (ride : Ride) (deadline : Deadline)
    → IsOnTheWay task.feed.now task.times.now task.days.now task.query.now ride deadline
    → LeavesFrom boarding.place boarding.earliest ride
    → IsHeldNow earlier round ends (number_of (length task.feed.now.stops) ride.alight)
    (made_pair boarding (record { ride = ride; deadline = deadline }))
