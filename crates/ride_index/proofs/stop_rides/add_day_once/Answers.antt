-- The rides of the day are those of its departures between the two times.
use Rattle.std.proofs.Common.{◌≡◌, None, w32, w64, to_z, of_z, get_or, sym, ◌∙◌, subst, arith}
use Rattle.std.proofs.lemmas.Int.{to_z-of_z}
use Rattle.std.proofs.lemmas.Option.{slice_get-get_or}
use Rattle.flex_model.specs.declared.ride.Ride.{Ride}
use Rattle.flex_model.specs.ServiceDay.{BeginsAt}
use Rattle.flex_model.proofs.Found.{Contains-at}
use Rattle.ride_index.specs.TimedRides.{IsRideWith}
use Rattle.ride_index.specs.declared.departure.Departure.{Departure}
use Rattle.ride_index.specs.Boarded.{GainsBut, IsNeedless}
use Rattle.ride_index.proofs.NeededRides.{but_none}
use Rattle.ride_index.proofs.StopRides.{IsOnce, but_all_first, but_next_first, each_once, none_once, whole_once}
use Rattle.ride_index.proofs.stop_rides.add_day_once.Goals as goal

abbrev no_departure : Departure
no_departure = record { named = 0; departs = 0; trip = 0; row = 0 }

pub returns-then-until-from-clause-rides : goal.returns-then-until-from-clause-rides
returns-then-until-from-clause-rides c = λ times.
    let feed = c.args.feed.now in
    let days = c.args.days.now in
    let sound = c.requires.feed in
    let base : to_z w64 (of_z w64 c.args.base) ≡ c.args.base = to_z-of_z w64 c.args.base c.ranges.base in
    let earliest : to_z w64 (of_z w64 c.args.earliest) ≡ c.args.earliest = to_z-of_z w64 c.args.earliest c.ranges.earliest in
    let limit : to_z w64 (of_z w64 c.args.limit) ≡ c.args.limit = to_z-of_z w64 c.args.limit c.ranges.limit in
    let earliest' = to_z w64 (of_z w64 c.args.earliest) in
    let limit' = to_z w64 (of_z w64 c.args.limit) in
    let base' = to_z w64 (of_z w64 c.args.base) in
    but_none (IsOnce feed times days c.args.stop c.args.day c.args.earliest c.args.limit sound) (IsNeedless feed times days c.args.boarded.now.0 c.args.carried.now) c.args.found.now.items
    (λ x h. absurd (none_once feed times days c.args.stop c.args.day earliest' limit' sound base' c.first_time-from.result c.time_after-until.result c.args.index.now.once
    c.requires.index.once (subst (BeginsAt days c.args.day) (sym base) c.requires.begins) c.first_time-from.ensures c.time_after-until.ensures (omega (arith, c.if-until-from.true)) x
    (subst (λ e. IsOnce feed times days c.args.stop c.args.day e limit' sound x) (sym earliest)
    (subst (λ l. IsOnce feed times days c.args.stop c.args.day c.args.earliest l sound x) (sym limit) h))))

pub add_needed_rides-requires-clause-departure : goal.add_needed_rides-requires-clause-departure
add_needed_rides-requires-clause-departure c =
    let xs = c.between-departures.result.now in
    let k = c.loop-departure.departure-index in
    let d = get_or xs k no_departure in
    let listed = Contains-at xs k d (slice_get-get_or xs k no_departure (omega (arith, c.loop-departure-test.true))) in
    (c.requires.index.once d).0 ((c.between-departures.ensures d).0 listed).0

pub loop-departure-preserved : goal.loop-departure-preserved
loop-departure-preserved c = record {
  points = c.add_needed_rides.ensures.points ∙ c.loop-departure.invariant.points;
  rides = λ times.
      let xs = c.between-departures.result.now in
      let k = c.loop-departure.departure-index in
      let feed = c.args.feed.now in
      let days = c.args.days.now in
      let one : Departure → Ride → Type 0 = λ d. IsRideWith feed times days d (to_z w32 (of_z w32 c.args.day)) None (to_z w64 (of_z w64 c.args.limit)) in
      but_next_first one xs (IsNeedless feed times days c.args.boarded.now.0 c.args.carried.now) k (get_or xs k no_departure)
      c.args.found.now.items c.loop-departure.found.items c.add_needed_rides.new.found.items
      (slice_get-get_or xs k no_departure (omega (arith, c.loop-departure-test.true))) (c.loop-departure.invariant.rides times)
      (subst (λ ps. GainsBut (one (get_or xs k no_departure)) (IsNeedless feed times days ps c.args.carried.now) c.loop-departure.found.items c.add_needed_rides.new.found.items)
      c.loop-departure.invariant.points (c.in_ok-add_needed_rides.ensures.rides times));
}

pub returns-clause-rides : goal.returns-clause-rides
returns-clause-rides c = λ times.
    let feed = c.args.feed.now in
    let days = c.args.days.now in
    let xs = c.between-departures.result.now in
    let base : to_z w64 (of_z w64 c.args.base) ≡ c.args.base = to_z-of_z w64 c.args.base c.ranges.base in
    let day : to_z w32 (of_z w32 c.args.day) ≡ c.args.day = to_z-of_z w32 c.args.day c.ranges.day in
    let earliest : to_z w64 (of_z w64 c.args.earliest) ≡ c.args.earliest = to_z-of_z w64 c.args.earliest c.ranges.earliest in
    let limit : to_z w64 (of_z w64 c.args.limit) ≡ c.args.limit = to_z-of_z w64 c.args.limit c.ranges.limit in
    let day' = to_z w32 (of_z w32 c.args.day) in
    let earliest' = to_z w64 (of_z w64 c.args.earliest) in
    let limit' = to_z w64 (of_z w64 c.args.limit) in
    let base' = to_z w64 (of_z w64 c.args.base) in
    let needless = IsNeedless feed times days c.args.boarded.now.0 c.args.carried.now in
    let begins : BeginsAt days day' base' = subst (λ d. BeginsAt days d base') (sym day) (subst (BeginsAt days c.args.day) (sym base) c.requires.begins) in
    let gained = but_all_first (λ d. IsRideWith feed times days d day' None limit') xs (IsOnce feed times days c.args.stop day' earliest' limit' c.requires.feed) needless
    c.loop-departure.departure-index c.args.found.now.items c.loop-departure.found.items (omega (arith, c.loop-departure-test.false))
    (each_once feed times days c.args.stop day' earliest' limit' c.requires.feed base' c.first_time-from.result c.time_after-until.result c.args.index.now.once xs c.requires.index.once begins c.first_time-from.ensures c.time_after-until.ensures c.between-departures.ensures)
    (whole_once feed times days c.args.stop day' earliest' limit' c.requires.feed base' c.first_time-from.result c.time_after-until.result c.args.index.now.once xs c.requires.index.once begins c.first_time-from.ensures c.time_after-until.ensures c.between-departures.ensures)
    (c.loop-departure.invariant.rides times) in
    subst (λ l. GainsBut (IsOnce feed times days c.args.stop c.args.day c.args.earliest l c.requires.feed) needless c.args.found.now.items c.loop-departure.found.items) limit
    (subst (λ e. GainsBut (IsOnce feed times days c.args.stop c.args.day e limit' c.requires.feed) needless c.args.found.now.items c.loop-departure.found.items) earliest
    (subst (λ d. GainsBut (IsOnce feed times days c.args.stop d earliest' limit' c.requires.feed) needless c.args.found.now.items c.loop-departure.found.items) day gained))
