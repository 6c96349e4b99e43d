-- The time of the day has one moment.
use Rattle.std.proofs.Common.{w32, arith}
use Rattle.std.proofs.lemmas.Int.{ints, to_z-of_z}
use Rattle.journey_judge.proofs.WindowTimes.{just_moment, no_moment, of_day}
use Rattle.journey_judge.proofs.windows.is_moment.Goals as goal

pub returns-in_default : goal.returns-in_default
returns-in_default c =
    no_moment c.args.days.now c.args.day c.args.by c.args.time c.args.then c.moment.result
    (of_day c.args.days.now c.args.day _ (to_z-of_z w32 c.args.day c.ranges.day) c.args.time c.moment.result c.moment.ensures.moments) c.in_default.is

pub returns : goal.returns
returns c =
    just_moment c.args.days.now c.args.day c.args.by c.args.time c.args.then c.moment.result
    (of_day c.args.days.now c.args.day _ (to_z-of_z w32 c.args.day c.ranges.day) c.args.time c.moment.result c.moment.ensures.moments) c.in-Some.scheduled c.in-Some.is
    c.is_shifted.result (λ t. let e = c.is_shifted.ensures.0 t in omega (arith, ints), λ e. c.is_shifted.ensures.1 (omega (arith, ints)))
