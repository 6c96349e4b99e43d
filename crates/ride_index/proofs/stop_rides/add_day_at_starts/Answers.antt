-- The rides of the day at starts are those of all departures of the stop.
use Rattle.std.proofs.Common.{◌≡◌, w32, w64, to_z, of_z, get_or, refl, subst, arith}
use Rattle.std.proofs.lemmas.Int.{to_z-of_z}
use Rattle.std.proofs.lemmas.Option.{slice_get-get_or}
use Rattle.flex_model.proofs.Found.{Contains-at}
use Rattle.ride_index.specs.TimedRides.{IsRideAtStart}
use Rattle.ride_index.specs.declared.departure.Departure.{Departure}
use Rattle.ride_index.proofs.RideLists.{Gained}
use Rattle.ride_index.proofs.StopRides.{IsStarted, all_first, each_started, next_first, whole_started}
use Rattle.ride_index.proofs.stop_rides.add_day_at_starts.Goals as goal

abbrev no_departure : Departure
no_departure = record { named = 0; departs = 0; trip = 0; row = 0 }

pub add_rides_at_starts-requires-clause-departure : goal.add_rides_at_starts-requires-clause-departure
add_rides_at_starts-requires-clause-departure c =
    let xs = c.between-departures.result.now in
    let k = c.loop-departure.departure-index in
    let d = get_or xs k no_departure in
    let listed = Contains-at xs k d (slice_get-get_or xs k no_departure (omega (arith, c.loop-departure-test.true))) in
    (c.requires.index.at_starts d).0 ((c.between-departures.ensures d).0 listed).0

pub loop-departure-preserved : goal.loop-departure-preserved
loop-departure-preserved c = λ times.
    let xs = c.between-departures.result.now in
    let k = c.loop-departure.departure-index in
    next_first (λ d. IsRideAtStart c.args.feed.now times c.args.days.now d (to_z w32 (of_z w32 c.args.day)) (to_z w64 (of_z w64 c.args.earliest)) (to_z w64 (of_z w64 c.args.limit))) xs k (get_or xs k no_departure)
    c.args.found.now.items c.loop-departure.found.items c.add_rides_at_starts.new.found.items
    (slice_get-get_or xs k no_departure (omega (arith, c.loop-departure-test.true))) (c.loop-departure.invariant times) (c.in_ok-add_rides_at_starts.ensures times)

pub returns : goal.returns
returns c = λ times.
    let feed = c.args.feed.now in
    let days = c.args.days.now in
    let xs = c.between-departures.result.now in
    let day : to_z w32 (of_z w32 c.args.day) ≡ c.args.day = to_z-of_z w32 c.args.day c.ranges.day in
    let earliest : to_z w64 (of_z w64 c.args.earliest) ≡ c.args.earliest = to_z-of_z w64 c.args.earliest c.ranges.earliest in
    let limit : to_z w64 (of_z w64 c.args.limit) ≡ c.args.limit = to_z-of_z w64 c.args.limit c.ranges.limit in
    let day' = to_z w32 (of_z w32 c.args.day) in
    let earliest' = to_z w64 (of_z w64 c.args.earliest) in
    let limit' = to_z w64 (of_z w64 c.args.limit) in
    let gained = all_first (λ d. IsRideAtStart feed times days d day' earliest' limit') xs (IsStarted feed times days c.args.stop day' earliest' limit' c.requires.feed)
    c.loop-departure.departure-index c.args.found.now.items c.loop-departure.found.items (omega (arith, c.loop-departure-test.false))
    (each_started feed times days c.args.stop day' earliest' limit' c.requires.feed c.args.index.now.at_starts xs c.requires.index.at_starts 604800 refl c.between-departures.ensures)
    (whole_started feed times days c.args.stop day' earliest' limit' c.requires.feed c.args.index.now.at_starts xs c.requires.index.at_starts 604800 refl c.between-departures.ensures)
    (c.loop-departure.invariant times) in
    subst (λ l. Gained (IsStarted feed times days c.args.stop c.args.day c.args.earliest l c.requires.feed) c.args.found.now.items c.loop-departure.found.items) limit
    (subst (λ e. Gained (IsStarted feed times days c.args.stop c.args.day e limit' c.requires.feed) c.args.found.now.items c.loop-departure.found.items) earliest
    (subst (λ d. Gained (IsStarted feed times days c.args.stop d earliest' limit' c.requires.feed) c.args.found.now.items c.loop-departure.found.items) day gained))
