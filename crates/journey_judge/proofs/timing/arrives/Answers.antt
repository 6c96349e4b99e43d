-- The two cases of the record where the ride is boarded.
use Rattle.std.proofs.Common.{◌↔◌, IsTrue, sym, subst, to_z, of_z, w32, w64, arith}
use Rattle.std.proofs.lemmas.Int.{ints}
use Rattle.flex_model.specs.Ride.{Arrives}
use Rattle.journey_judge.proofs.DirectTimes.{at_a_time}
use Rattle.journey_judge.proofs.WindowTimes.{of_moment}
use Rattle.journey_judge.proofs.timing.arrives.Goals as goal

pub returns-else-not-leaves_time : goal.returns-else-not-leaves_time
returns-else-not-leaves_time c =
    let ride = c.args.ride.now in
    subst (λ alighting. IsTrue c.is_moment.result ↔ Arrives c.args.times.now c.args.days.now ride c.args.by c.args.boarding alighting) (sym c.in-Times.is)
    (at_a_time c.args.times.now c.args.days.now ride c.args.by c.args.boarding c.in-Times.arrives c.in-Times.departs (c.leaves_time.ensures.0 c.if-not-leaves_time.false) c.is_moment.result
    (of_moment c.args.days.now ride.day (to_z w32 (of_z w32 ride.day)) c.args.by (to_z w64 (of_z w64 c.args.by)) c.in-Times.arrives ride.arrives (to_z w64 (of_z w64 ride.arrives))
    (omega (arith, ints)) (omega (arith, ints)) (omega (arith, ints)) c.is_moment.result c.is_moment.ensures))
