-- Where the trip runs on the day, and no earlier boarding has its rides.
use Rattle.std.proofs.Common.{◌≡◌, ◌<◌, ◌+ℤ◌, None, w32, w64, to_z, of_z, SFits, rules, length, sym, ◌∙◌, ap, subst}
use Rattle.std.proofs.lemmas.Int.{to_z-of_z}
use Rattle.std.proofs.lemmas.Option.{slice_get_within}
use Rattle.flex_model.specs.Ride.{shift}
use Rattle.flex_model.specs.ServiceDay.{BeginsAt}
use Rattle.service_days.specs.Running.{IsRunning}
use Rattle.ride_index.specs.Boarded.{IsNoted, IsNeedless}
use Rattle.ride_index.specs.TimedRides.{IsRideWith}
use Rattle.ride_index.proofs.RideLists.{Gained, gained_none}
use Rattle.ride_index.proofs.NeededRides.{but_gained, but_none, needless}
use Rattle.ride_index.proofs.StartedRides.{once_read, none_without_run}
use Rattle.ride_index.proofs.rides.add_needed_rides.Goals as goal

pub returns-in_default-clause-rides : goal.returns-in_default-clause-rides
returns-in_default-clause-rides c = λ times.
    let feed = c.args.feed.now in
    let days = c.args.days.now in
    let departure = c.args.departure.now in
    let trip = c.index-deref-departure.result in
    let of = once_read feed departure c.deref.result.now trip c.deref.ensures c.index-deref-departure.is c.requires.departure in
    let day : to_z w32 (of_z w32 c.args.day) ≡ c.args.day = to_z-of_z w32 c.args.day c.ranges.day in
    but_gained (IsRideWith feed times days departure c.args.day None c.args.limit) (IsNeedless feed times days c.args.boarded.now.0 c.args.carried.now) c.args.found.now.items c.args.found.now.items
    (gained_none (IsRideWith feed times days departure c.args.day None c.args.limit) c.args.found.now.items
    (λ x. none_without_run feed times days trip departure c.args.day None c.args.limit x of.0.of_trip
    (λ m. c.in_default.ensures.none (subst (IsRunning feed days trip) (sym day) (record { on_travel_day = m.on_travel_day; runs = m.runs })))))

pub skips-requires-clause-row : goal.skips-requires-clause-row
skips-requires-clause-row c =
    let of = once_read c.args.feed.now c.args.departure.now c.deref.result.now c.index-deref-departure.result c.deref.ensures c.index-deref-departure.is c.requires.departure in
    subst (λ rows. c.args.departure.now.row < length rows) (sym c.as_slice.ensures) (slice_get_within c.index-deref-departure.result.rows c.args.departure.now.row of.0.row of.0.at_row)

pub returns-then-skips-clause-rides : goal.returns-then-skips-clause-rides
returns-then-skips-clause-rides c = λ times.
    let feed = c.args.feed.now in
    let days = c.args.days.now in
    let departure = c.args.departure.now in
    let trip = c.index-deref-departure.result in
    let points = c.args.boarded.now.0 in
    let carried = c.args.carried.now in
    let of = once_read feed departure c.deref.result.now trip c.deref.ensures c.index-deref-departure.is c.requires.departure in
    let day : to_z w32 (of_z w32 c.args.day) ≡ c.args.day = to_z-of_z w32 c.args.day c.ranges.day in
    let day' = to_z w32 (of_z w32 c.args.day) in
    let fits : SFits w64 c.in-Some.base = search rules in
    let base : to_z w64 (of_z w64 c.in-Some.base) ≡ c.in-Some.base = to_z-of_z w64 c.in-Some.base fits in
    let zero : to_z w64 (of_z w64 c.zero_of-zero.result) ≡ c.zero_of-zero.result = to_z-of_z w64 c.zero_of-zero.result (record { sfits = c.zero_of-zero.type_inv }) in
    let runs = c.in-Some.ensures.running in
    let before =
    subst (λ z. IsNoted c.args.boarded.now c.number_of-number.result trip.rows departure.row z carried) zero
    (subst (λ rows. IsNoted c.args.boarded.now c.number_of-number.result rows departure.row (to_z w64 (of_z w64 c.zero_of-zero.result)) carried) c.as_slice.ensures (c.skips.ensures.noted.0 c.if-skips.true)) in
    but_none (IsRideWith feed times days departure c.args.day None c.args.limit) (IsNeedless feed times days points carried) c.args.found.now.items
    (λ x w. needless feed days trip departure day' c.in-Some.base c.zero_of-zero.result c.args.limit points carried c.requires.feed of.0 c.in-Some.ensures.begins
    (c.zero_of-zero.ensures.value ∙ ap (λ b. b +ℤ shift trip None) base) (record { on_travel_day = runs.on_travel_day; runs = runs.runs; starts = of.1 }) c.number_of-number.result c.args.boarded.now.1 before times x
    (subst (λ d. IsRideWith feed times days departure d None c.args.limit x) (sym day) w))

pub add_started-requires-clause-departure : goal.add_started-requires-clause-departure
add_started-requires-clause-departure c =
    let of = once_read c.args.feed.now c.args.departure.now c.deref.result.now c.index-deref-departure.result c.deref.ensures c.index-deref-departure.is c.requires.departure in
    of.0

pub add_started-requires-clause-begins : goal.add_started-requires-clause-begins
add_started-requires-clause-begins c =
    let fits : SFits w64 c.in-Some.base = search rules in
    let at : to_z w64 (of_z w64 c.in-Some.base) ≡ c.in-Some.base = to_z-of_z w64 c.in-Some.base fits in
    subst (BeginsAt c.args.days.now (to_z w32 (of_z w32 c.args.day))) (sym at) c.in-Some.ensures.begins

pub add_started-requires-clause-may_run : goal.add_started-requires-clause-may_run
add_started-requires-clause-may_run c =
    let of = once_read c.args.feed.now c.args.departure.now c.deref.result.now c.index-deref-departure.result c.deref.ensures c.index-deref-departure.is c.requires.departure in
    let runs = c.in-Some.ensures.running in
    record { on_travel_day = runs.on_travel_day; runs = runs.runs; starts = of.1 }

pub returns-clause-rides : goal.returns-clause-rides
returns-clause-rides c = λ times.
    let feed = c.args.feed.now in
    let days = c.args.days.now in
    let departure = c.args.departure.now in
    let day : to_z w32 (of_z w32 c.args.day) ≡ c.args.day = to_z-of_z w32 c.args.day c.ranges.day in
    let limit : to_z w64 (of_z w64 c.args.limit) ≡ c.args.limit = to_z-of_z w64 c.args.limit c.ranges.limit in
    but_gained (IsRideWith feed times days departure c.args.day None c.args.limit) (IsNeedless feed times days c.args.boarded.now.0 c.args.carried.now) c.args.found.now.items c.add_started.new.found.items
    (subst (λ l. Gained (IsRideWith feed times days departure c.args.day None l) c.args.found.now.items c.add_started.new.found.items) limit
    (subst (λ d. Gained (IsRideWith feed times days departure d None (to_z w64 (of_z w64 c.args.limit))) c.args.found.now.items c.add_started.new.found.items) day
    (c.in_ok-add_started.ensures times)))
