-- A ride of the day has a start or none.
use Rattle.std.proofs.Common.{◌≡◌, SFits, w32, w64, to_z, of_z, rules, sym, subst}
use Rattle.std.proofs.lemmas.Int.{to_z-of_z}
use Rattle.flex_model.specs.ServiceDay.{BeginsAt}
use Rattle.ride_index.specs.TimedRides.{IsTimedRide}
use Rattle.ride_index.specs.Boarded.{GainsBut, IsNeedless}
use Rattle.ride_index.proofs.NeededRides.{but_none}
use Rattle.ride_index.proofs.StopRides.{both_kinds, none_without_begin}
use Rattle.ride_index.proofs.stop_rides.add_day.Goals as goal

pub returns-in_default-clause-rides : goal.returns-in_default-clause-rides
returns-in_default-clause-rides c = λ times.
    let feed = c.args.feed.now in
    let days = c.args.days.now in
    let day : to_z w32 (of_z w32 c.args.day) ≡ c.args.day = to_z-of_z w32 c.args.day c.ranges.day in
    but_none (λ ride. IsTimedRide feed times days c.args.stop c.args.earliest c.args.limit ride × (ride.day ≡ c.args.day)) (IsNeedless feed times days c.args.boarded.now.0 c.args.carried.now)
    c.args.found.now.items
    (λ x h. absurd (none_without_begin feed times days c.args.stop c.args.day c.args.earliest c.args.limit c.requires.feed
    (λ base begins. c.in_default.not-Some base ((c.begin.ensures.begins base).0 (subst (λ d. BeginsAt days d base) (sym day) begins))) x h))

pub add_day_once-requires-clause-begins : goal.add_day_once-requires-clause-begins
add_day_once-requires-clause-begins c =
    let fits : SFits w64 c.in-Some.base = search rules in
    let at : to_z w64 (of_z w64 c.in-Some.base) ≡ c.in-Some.base = to_z-of_z w64 c.in-Some.base fits in
    subst (BeginsAt c.args.days.now (to_z w32 (of_z w32 c.args.day))) (sym at) ((c.begin.ensures.begins c.in-Some.base).1 c.in-Some.is)

pub returns-clause-rides : goal.returns-clause-rides
returns-clause-rides c = λ times.
    let feed = c.args.feed.now in
    let days = c.args.days.now in
    let day : to_z w32 (of_z w32 c.args.day) ≡ c.args.day = to_z-of_z w32 c.args.day c.ranges.day in
    let earliest : to_z w64 (of_z w64 c.args.earliest) ≡ c.args.earliest = to_z-of_z w64 c.args.earliest c.ranges.earliest in
    let limit : to_z w64 (of_z w64 c.args.limit) ≡ c.args.limit = to_z-of_z w64 c.args.limit c.ranges.limit in
    let needless = IsNeedless feed times days c.args.boarded.now.0 c.args.carried.now in
    let before = c.args.found.now.items in
    let after = c.add_day_at_starts.new.found.items in
    subst (λ l. GainsBut (λ ride. IsTimedRide feed times days c.args.stop c.args.earliest l ride × (ride.day ≡ c.args.day)) needless before after) limit
    (subst (λ e. GainsBut (λ ride. IsTimedRide feed times days c.args.stop e (to_z w64 (of_z w64 c.args.limit)) ride × (ride.day ≡ c.args.day)) needless before after) earliest
    (subst (λ d. GainsBut (λ ride. IsTimedRide feed times days c.args.stop (to_z w64 (of_z w64 c.args.earliest)) (to_z w64 (of_z w64 c.args.limit)) ride × (ride.day ≡ d)) needless before after) day
    (both_kinds feed times days c.args.stop (to_z w32 (of_z w32 c.args.day)) (to_z w64 (of_z w64 c.args.earliest)) (to_z w64 (of_z w64 c.args.limit)) c.requires.feed needless
    before c.add_day_once.new.found.items after (c.in_ok-add_day_once.ensures.rides times) (c.in_ok-add_day_at_starts.ensures times))))
