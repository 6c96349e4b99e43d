-- A travel day begins.
use Rattle.std.proofs.Common.{w32, to_z, of_z}
use Rattle.std.proofs.lemmas.Int.{to_z-of_z}
use Rattle.ride_index.proofs.StartedRides.{begins_if_some, none_running, runs_on_no_other_day}
use Rattle.ride_index.proofs.rides.running_base.Goals as goal

pub returns-clause-begins : goal.returns-clause-begins
returns-clause-begins c =
    begins_if_some c.args.days.now c.args.day (to_z w32 (of_z w32 c.args.day)) c.begin.result (to_z-of_z w32 c.args.day c.ranges.day) c.begin.ensures.begins

pub returns-clause-none : goal.returns-clause-none
returns-clause-none c =
    none_running c.args.feed.now c.args.days.now c.args.trip.now c.args.day c.begin.result
    (runs_on_no_other_day c.args.days.now c.args.day (to_z w32 (of_z w32 c.args.day)) c.begin.result (to_z-of_z w32 c.args.day c.ranges.day) c.begin.ensures.begins)
