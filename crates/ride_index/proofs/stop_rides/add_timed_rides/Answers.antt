-- Travel day by travel day.
use Rattle.std.proofs.Common.{◌≡◌, w32, w64, to_z, of_z, refl, sym, ◌∙◌, subst, arith}
use Rattle.std.proofs.lemmas.Int.{to_z-of_z}
use Rattle.ride_index.specs.Boarded.{GainsBut, IsNeedless}
use Rattle.ride_index.specs.TimedRides.{IsTimedRide}
use Rattle.ride_index.proofs.StopRides.{all_days, next_day, no_days, travels_from}
use Rattle.ride_index.proofs.stop_rides.add_timed_rides.Goals as goal

pub loop-ahead-init : goal.loop-ahead-init
loop-ahead-init c = record {
  points = refl;
  rides = λ times.
      let first : to_z w32 (of_z w32 c.first_travel_day-first.result) ≡ c.first_travel_day-first.result = to_z-of_z w32 c.first_travel_day-first.result (record { sfits = c.first_travel_day-first.type_inv }) in
      no_days c.args.feed.now c.args.days.now c.args.stop (to_z w64 (of_z w64 c.args.earliest)) (to_z w64 (of_z w64 c.args.limit)) (to_z w32 (of_z w32 c.first_travel_day-first.result))
      (travels_from c.args.days.now _ _ (sym first) c.first_travel_day-first.ensures)
      (IsNeedless c.args.feed.now times c.args.days.now c.args.boarded.now.0 c.args.carried.now) times c.args.found.now.items;
}

pub loop-ahead-preserved : goal.loop-ahead-preserved
loop-ahead-preserved c = record {
  points = c.add_day.ensures.points ∙ c.loop-ahead.invariant.points;
  rides = λ times.
      let feed = c.args.feed.now in
      let days = c.args.days.now in
      let first : to_z w32 (of_z w32 c.first_travel_day-first.result) ≡ c.first_travel_day-first.result = to_z-of_z w32 c.first_travel_day-first.result (record { sfits = c.first_travel_day-first.type_inv }) in
      let back : to_z w32 (of_z w32 c.day_after-day.result) ≡ c.day_after-day.result = to_z-of_z w32 c.day_after-day.result (record { sfits = c.day_after-day.type_inv }) in
      next_day feed days c.args.stop (to_z w64 (of_z w64 c.args.earliest)) (to_z w64 (of_z w64 c.args.limit)) (to_z w32 (of_z w32 c.first_travel_day-first.result))
      (travels_from days _ _ (sym first) c.first_travel_day-first.ensures)
      (IsNeedless feed times days c.args.boarded.now.0 c.args.carried.now)
      c.loop-ahead.ahead (to_z w32 (of_z w32 c.day_after-day.result)) times c.args.found.now.items c.loop-ahead.found.items c.add_day.new.found.items
      (back ∙ c.day_after-day.ensures) (c.loop-ahead.invariant.rides times)
      (subst (λ ps. GainsBut (λ ride. IsTimedRide feed times days c.args.stop (to_z w64 (of_z w64 c.args.earliest)) (to_z w64 (of_z w64 c.args.limit)) ride
      × (ride.day ≡ to_z w32 (of_z w32 c.day_after-day.result))) (IsNeedless feed times days ps c.args.carried.now) c.loop-ahead.found.items c.add_day.new.found.items)
      c.loop-ahead.invariant.points (c.in_ok-add_day.ensures.rides times));
}

pub returns-clause-rides : goal.returns-clause-rides
returns-clause-rides c = λ times.
    let feed = c.args.feed.now in
    let days = c.args.days.now in
    let needless = IsNeedless feed times days c.args.boarded.now.0 c.args.carried.now in
    let first : to_z w32 (of_z w32 c.first_travel_day-first.result) ≡ c.first_travel_day-first.result = to_z-of_z w32 c.first_travel_day-first.result (record { sfits = c.first_travel_day-first.type_inv }) in
    let earliest : to_z w64 (of_z w64 c.args.earliest) ≡ c.args.earliest = to_z-of_z w64 c.args.earliest c.ranges.earliest in
    let limit : to_z w64 (of_z w64 c.args.limit) ≡ c.args.limit = to_z-of_z w64 c.args.limit c.ranges.limit in
    let gained = all_days feed days c.args.stop (to_z w64 (of_z w64 c.args.earliest)) (to_z w64 (of_z w64 c.args.limit)) (to_z w32 (of_z w32 c.first_travel_day-first.result))
    (travels_from days _ _ (sym first) c.first_travel_day-first.ensures) needless
    c.loop-ahead.ahead times c.args.found.now.items c.loop-ahead.found.items (omega (arith, c.loop-ahead-test.false)) (c.loop-ahead.invariant.rides times) in
    subst (λ x. GainsBut (IsTimedRide feed times days c.args.stop c.args.earliest x) needless c.args.found.now.items c.loop-ahead.found.items) limit
    (subst (λ x. GainsBut (IsTimedRide feed times days c.args.stop x (to_z w64 (of_z w64 c.args.limit))) needless c.args.found.now.items c.loop-ahead.found.items) earliest gained)
