-- The time is one of the day that was counted back.
use Rattle.std.proofs.Common.{◌≡◌, ◌↔◌, ◌≤◌, ℤ, Some, w32, subst, arith}
use Rattle.std.proofs.lemmas.Int.{ints, to_z-of_z}
use Rattle.flex_model.specs.ServiceDay.{IsBack, IsMoment}
use Rattle.booking_rules.proofs.Fitting.{back_bounds, day_fits, travel_bounds}
use Rattle.booking_rules.proofs.RuleTimes.{back_moment}
use Rattle.booking_rules.proofs.notices.moment_back.Goals as goal

pub returns-clause-moments : goal.returns-clause-moments
returns-clause-moments c =
    let feed = c.args.feed.now in
    let days = c.args.days.now in
    let service = c.args.service in
    let prior = c.args.prior in
    let earlier = c.in_ok-earlier.earlier in
    let backs = subst (λ day. (e : ℤ) → IsBack feed service day prior.days e ↔ (c.count_back.result ≡ Some e)) (to_z-of_z w32 c.args.day c.ranges.day) c.count_back.ensures in
    let few : prior.days ≤ 1000 = c.requires.prior.days in
    let bounds = back_bounds feed service c.args.day prior.days earlier (omega arith) ((backs earlier).1 c.in_ok-earlier.was) in
    let travels = travel_bounds days c.args.day c.requires.days c.requires.day in
    let fits = day_fits earlier (omega (arith, ints, bounds.0, travels.0)) (omega (arith, ints, bounds.1, travels.1)) in
    back_moment feed days service c.args.day prior c.count_back.result earlier c.moment.result backs c.in_ok-earlier.was
    (subst (λ day. (m : ℤ) → IsMoment days day prior.time m ↔ (c.moment.result ≡ Some m)) fits c.moment.ensures.moments)
