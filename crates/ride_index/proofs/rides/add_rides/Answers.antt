-- Where the trip runs on the day.
use Rattle.std.proofs.Common.{◌≡◌, None, w32, w64, to_z, of_z, SFits, rules, sym, subst}
use Rattle.std.proofs.lemmas.Int.{to_z-of_z}
use Rattle.flex_model.specs.ServiceDay.{BeginsAt}
use Rattle.service_days.specs.Running.{IsRunning}
use Rattle.ride_index.specs.TimedRides.{IsRideWith}
use Rattle.ride_index.proofs.RideLists.{Gained, gained_none}
use Rattle.ride_index.proofs.StartedRides.{once_read, none_without_run}
use Rattle.ride_index.proofs.rides.add_rides.Goals as goal

pub returns-in_default : goal.returns-in_default
returns-in_default c = λ times.
    let feed = c.args.feed.now in
    let days = c.args.days.now in
    let departure = c.args.departure.now in
    let trip = c.index-deref-departure.result in
    let of = once_read feed departure c.deref.result.now trip c.deref.ensures c.index-deref-departure.is c.requires.departure in
    let day : to_z w32 (of_z w32 c.args.day) ≡ c.args.day = to_z-of_z w32 c.args.day c.ranges.day in
    gained_none (IsRideWith feed times days departure c.args.day None c.args.limit) c.args.found.now.items
    (λ x. none_without_run feed times days trip departure c.args.day None c.args.limit x of.0.of_trip
    (λ m. c.in_default.ensures.none (subst (IsRunning feed days trip) (sym day) (record { on_travel_day = m.on_travel_day; runs = m.runs }))))

pub add_started-requires-clause-departure : goal.add_started-requires-clause-departure
add_started-requires-clause-departure c =
    let of = once_read c.args.feed.now c.args.departure.now c.deref.result.now c.index-deref-departure.result c.deref.ensures c.index-deref-departure.is c.requires.departure in
    of.0

pub add_started-requires-clause-begins : goal.add_started-requires-clause-begins
add_started-requires-clause-begins c =
    let fits : SFits w64 c.in-Some.base = search rules in
    let at : to_z w64 (of_z w64 c.in-Some.base) ≡ c.in-Some.base = to_z-of_z w64 c.in-Some.base fits in
    subst (BeginsAt c.args.days.now (to_z w32 (of_z w32 c.args.day))) (sym at) c.in-Some.ensures.begins

pub add_started-requires-clause-may_run : goal.add_started-requires-clause-may_run
add_started-requires-clause-may_run c =
    let of = once_read c.args.feed.now c.args.departure.now c.deref.result.now c.index-deref-departure.result c.deref.ensures c.index-deref-departure.is c.requires.departure in
    let runs = c.in-Some.ensures.running in
    record { on_travel_day = runs.on_travel_day; runs = runs.runs; starts = of.1 }

pub returns : goal.returns
returns c = λ times.
    let feed = c.args.feed.now in
    let days = c.args.days.now in
    let day : to_z w32 (of_z w32 c.args.day) ≡ c.args.day = to_z-of_z w32 c.args.day c.ranges.day in
    let limit : to_z w64 (of_z w64 c.args.limit) ≡ c.args.limit = to_z-of_z w64 c.args.limit c.ranges.limit in
    subst (λ l. Gained (IsRideWith feed times days c.args.departure.now c.args.day None l) c.args.found.now.items c.add_started.new.found.items) limit
    (subst (λ d. Gained (IsRideWith feed times days c.args.departure.now d None (to_z w64 (of_z w64 c.args.limit))) c.args.found.now.items c.add_started.new.found.items) day
    (c.in_ok-add_started.ensures times))
