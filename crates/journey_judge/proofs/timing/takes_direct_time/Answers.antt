-- There is one direct time, or none.
use Rattle.std.proofs.Common.{◌≡◌, ◌+ℤ◌, pos, arith}
use Rattle.std.proofs.lemmas.Int.{ints}
use Rattle.journey_judge.proofs.DirectTimes.{just_direct, no_direct}
use Rattle.journey_judge.proofs.timing.takes_direct_time.Goals as goal

pub returns-in_default : goal.returns-in_default
returns-in_default c = no_direct c.args.times.now c.args.ride.now c.direct.result c.direct.ensures (λ seconds. c.args.ride.now.arrives ≡ c.args.ride.now.departs +ℤ pos seconds) c.in_default.is

pub returns : goal.returns
returns c =
    just_direct c.args.times.now c.args.ride.now c.direct.result c.direct.ensures (λ seconds. c.args.ride.now.arrives ≡ c.args.ride.now.departs +ℤ pos seconds) c.in-Some.seconds c.in-Some.is
    c.is_after.result (λ t. let e = c.is_after.ensures.0 t in omega (arith, ints), λ e. c.is_after.ensures.1 (omega (arith, ints)))
