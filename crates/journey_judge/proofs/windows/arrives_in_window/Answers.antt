-- The ends of the window have one moment each.
use Rattle.std.proofs.Common.{to_z, of_z, w32, arith}
use Rattle.std.proofs.lemmas.Int.{ints}
use Rattle.journey_judge.proofs.WindowTimes.{by_the_end, no_end, no_start, of_day, too_early}
use Rattle.journey_judge.proofs.windows.arrives_in_window.Goals as goal

pub returns-in_default : goal.returns-in_default
returns-in_default c =
    no_start c.args.days.now c.args.ride.now c.args.start c.args.end c.moment.result
    (of_day c.args.days.now c.args.ride.now.day (to_z w32 (of_z w32 c.args.ride.now.day)) (omega (arith, ints)) c.args.start c.moment.result c.moment.ensures.moments) c.in_default.is

pub returns-in_default-moment : goal.returns-in_default-moment
returns-in_default-moment c =
    no_end c.args.days.now c.args.ride.now c.args.start c.args.end c.moment-2.result
    (of_day c.args.days.now c.args.ride.now.day (to_z w32 (of_z w32 c.args.ride.now.day)) (omega (arith, ints)) c.args.end c.moment-2.result c.moment-2.ensures.moments) c.in_default-moment.is

pub returns-then-ride-earliest : goal.returns-then-ride-earliest
returns-then-ride-earliest c =
    too_early c.args.days.now c.args.ride.now c.args.start c.args.end c.moment.result
    (of_day c.args.days.now c.args.ride.now.day (to_z w32 (of_z w32 c.args.ride.now.day)) (omega (arith, ints)) c.args.start c.moment.result c.moment.ensures.moments)
    c.in-Some.earliest c.in-Some.is (λ late. omega (arith, ints))

pub returns : goal.returns
returns c =
    by_the_end c.args.days.now c.args.ride.now c.args.start c.args.end c.moment.result
    (of_day c.args.days.now c.args.ride.now.day (to_z w32 (of_z w32 c.args.ride.now.day)) (omega (arith, ints)) c.args.start c.moment.result c.moment.ensures.moments)
    c.in-Some.earliest c.in-Some.is c.moment-2.result
    (of_day c.args.days.now c.args.ride.now.day (to_z w32 (of_z w32 c.args.ride.now.day)) (omega (arith, ints)) c.args.end c.moment-2.result c.moment-2.ensures.moments)
    c.in-Some-moment.latest c.in-Some-moment.is (omega (arith, ints)) _ (λ t. grind (arith, ints), λ le. grind (arith, ints))
