-- The starts between two times are those at which rides leave and arrive in time.
use Rattle.std.proofs.Common.{◌≡◌, Some, pos, ◌+ℤ◌, w32, w64, to_z, of_z, SFits, rules, sym, ◌∙◌, ap, subst}
use Rattle.std.proofs.lemmas.Int.{to_z-of_z}
use Rattle.flex_model.specs.Ride.{shift}
use Rattle.flex_model.specs.ServiceDay.{BeginsAt}
use Rattle.service_days.specs.Running.{IsRunning}
use Rattle.ride_index.specs.TimedRides.{IsRideAtStart}
use Rattle.ride_index.proofs.RideLists.{Gained, gained_none}
use Rattle.ride_index.proofs.StartRides.{rides_at_starts}
use Rattle.ride_index.proofs.StartedRides.{started_read, none_without_run}
use Rattle.ride_index.proofs.started.add_rides_at_starts.Goals as goal

pub returns-in_default : goal.returns-in_default
returns-in_default c = λ times.
    let feed = c.args.feed.now in
    let days = c.args.days.now in
    let departure = c.args.departure.now in
    let trip = c.index-deref-departure.result in
    let of = started_read feed departure c.deref.result.now trip c.deref.ensures c.index-deref-departure.is c.requires.departure in
    let day : to_z w32 (of_z w32 c.args.day) ≡ c.args.day = to_z-of_z w32 c.args.day c.ranges.day in
    gained_none (IsRideAtStart feed times days departure c.args.day c.args.earliest c.args.limit) c.args.found.now.items
    (λ x s. none_without_run feed times days trip departure c.args.day (Some s.start) c.args.limit x of.0.of_trip
    (λ m. c.in_default.ensures.none (subst (IsRunning feed days trip) (sym day) (record { on_travel_day = m.on_travel_day; runs = m.runs }))) s.ride_with)

pub add_between-requires-clause-departure : goal.add_between-requires-clause-departure
add_between-requires-clause-departure c =
    let of = started_read c.args.feed.now c.args.departure.now c.deref.result.now c.index-deref-departure.result c.deref.ensures c.index-deref-departure.is c.requires.departure in
    of.0

pub add_between-requires-clause-begins : goal.add_between-requires-clause-begins
add_between-requires-clause-begins c =
    let fits : SFits w64 c.in-Some.base = search rules in
    let at : to_z w64 (of_z w64 c.in-Some.base) ≡ c.in-Some.base = to_z-of_z w64 c.in-Some.base fits in
    subst (BeginsAt c.args.days.now (to_z w32 (of_z w32 c.args.day))) (sym at) c.in-Some.ensures.begins

pub add_between-requires-clause-running : goal.add_between-requires-clause-running
add_between-requires-clause-running c = c.in-Some.ensures.running

pub add_between-requires-clause-runs_so : goal.add_between-requires-clause-runs_so
add_between-requires-clause-runs_so c =
    let of = started_read c.args.feed.now c.args.departure.now c.deref.result.now c.index-deref-departure.result c.deref.ensures c.index-deref-departure.is c.requires.departure in
    of.1

pub returns : goal.returns
returns c = λ times.
    let feed = c.args.feed.now in
    let days = c.args.days.now in
    let d = c.args.departure.now in
    let trip = c.index-deref-departure.result in
    let of = started_read feed d c.deref.result.now trip c.deref.ensures c.index-deref-departure.is c.requires.departure in
    let day : to_z w32 (of_z w32 c.args.day) ≡ c.args.day = to_z-of_z w32 c.args.day c.ranges.day in
    let limit : to_z w64 (of_z w64 c.args.limit) ≡ c.args.limit = to_z-of_z w64 c.args.limit c.ranges.limit in
    let earliest : to_z w64 (of_z w64 c.args.earliest) ≡ c.args.earliest = to_z-of_z w64 c.args.earliest c.ranges.earliest in
    let fits : SFits w64 c.in-Some.base = search rules in
    let base : to_z w64 (of_z w64 c.in-Some.base) ≡ c.in-Some.base = to_z-of_z w64 c.in-Some.base fits in
    let zero : to_z w64 (of_z w64 c.zero_of.result) ≡ c.zero_of.result = to_z-of_z w64 c.zero_of.result (record { sfits = c.zero_of.type_inv }) in
    let origin : to_z w64 (of_z w64 c.moment_after-origin.result) ≡ c.moment_after-origin.result = to_z-of_z w64 c.moment_after-origin.result (record { sfits = c.moment_after-origin.type_inv }) in
    subst (λ l. Gained (IsRideAtStart feed times days d c.args.day c.args.earliest l) c.args.found.now.items c.add_between.new.found.items) limit
    (subst (λ e. Gained (IsRideAtStart feed times days d c.args.day e (to_z w64 (of_z w64 c.args.limit))) c.args.found.now.items c.add_between.new.found.items) earliest
    (subst (λ x. Gained (IsRideAtStart feed times days d x (to_z w64 (of_z w64 c.args.earliest)) (to_z w64 (of_z w64 c.args.limit))) c.args.found.now.items c.add_between.new.found.items) day
    (rides_at_starts feed days trip d (to_z w32 (of_z w32 c.args.day)) c.in-Some.base (to_z w64 (of_z w64 c.moment_after-origin.result)) (to_z w64 (of_z w64 c.args.earliest)) (to_z w64 (of_z w64 c.args.limit))
    c.first_time-from.result c.time_after-until.result c.requires.feed of.0 c.in-Some.ensures.begins
    (origin ∙ c.moment_after-origin.ensures ∙ ap (λ z. z +ℤ pos d.departs) (zero ∙ c.zero_of.ensures.value ∙ ap (λ b. b +ℤ shift trip (Some 0)) base))
    c.first_time-from.ensures c.time_after-until.ensures times c.args.found.now.items c.add_between.new.found.items (c.in_ok-add_between.ensures times))))
