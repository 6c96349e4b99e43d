-- Start by start, up to the last one before the end.
use Rattle.std.proofs.Common.{◌≡◌, w32, w64, to_z, of_z, Some, subst, arith}
use Rattle.std.proofs.lemmas.Int.{to_z-of_z}
use Rattle.flex_model.specs.Ride.{IsStart}
use Rattle.freq_trips.specs.Starts.{IsLeastFrom}
use Rattle.ride_index.specs.TimedRides.{IsRideBetween}
use Rattle.ride_index.proofs.RideLists.{Gained}
use Rattle.ride_index.proofs.StartRides.{all_starts, next_start, no_starts}
use Rattle.ride_index.proofs.started.add_between.Goals as goal

pub loop-least-init : goal.loop-least-init
loop-least-init c = (omega arith, λ times. no_starts c.args.feed.now c.args.days.now c.args.departure.now (to_z w32 (of_z w32 c.args.day)) c.args.from c.args.until (to_z w64 (of_z w64 c.args.limit)) times c.args.found.now.items)

pub returns-in_default : goal.returns-in_default
returns-in_default c = λ times.
    let feed = c.args.feed.now in
    let days = c.args.days.now in
    let d = c.args.departure.now in
    let day : to_z w32 (of_z w32 c.args.day) ≡ c.args.day = to_z-of_z w32 c.args.day c.ranges.day in
    let limit : to_z w64 (of_z w64 c.args.limit) ≡ c.args.limit = to_z-of_z w64 c.args.limit c.ranges.limit in
    subst (λ l. Gained (IsRideBetween feed times days d c.args.day c.args.from c.args.until l) c.args.found.now.items c.loop-least.found.items) limit
    (subst (λ x. Gained (IsRideBetween feed times days d x c.args.from c.args.until (to_z w64 (of_z w64 c.args.limit))) c.args.found.now.items c.loop-least.found.items) day
    (all_starts feed days d (to_z w32 (of_z w32 c.args.day)) c.args.from c.args.until (to_z w64 (of_z w64 c.args.limit)) c.args.trip.now c.requires.departure.of_trip c.loop-least.least times
    c.args.found.now.items c.loop-least.found.items (λ start is late lt. c.in_default.ensures start is late) (c.loop-least.invariant.1 times)))

pub returns-then-until-start : goal.returns-then-until-start
returns-then-until-start c = λ times.
    let feed = c.args.feed.now in
    let days = c.args.days.now in
    let d = c.args.departure.now in
    let day : to_z w32 (of_z w32 c.args.day) ≡ c.args.day = to_z-of_z w32 c.args.day c.ranges.day in
    let limit : to_z w64 (of_z w64 c.args.limit) ≡ c.args.limit = to_z-of_z w64 c.args.limit c.ranges.limit in
    let past = c.if-until-start.true in
    subst (λ l. Gained (IsRideBetween feed times days d c.args.day c.args.from c.args.until l) c.args.found.now.items c.loop-least.found.items) limit
    (subst (λ x. Gained (IsRideBetween feed times days d x c.args.from c.args.until (to_z w64 (of_z w64 c.args.limit))) c.args.found.now.items c.loop-least.found.items) day
    (all_starts feed days d (to_z w32 (of_z w32 c.args.day)) c.args.from c.args.until (to_z w64 (of_z w64 c.args.limit)) c.args.trip.now c.requires.departure.of_trip c.loop-least.least times
    c.args.found.now.items c.loop-least.found.items (λ start is late lt. (let le = c.in-Some.ensures.2 start is late in omega (arith, past, lt, le))) (c.loop-least.invariant.1 times)))

pub returns : goal.returns
returns c = λ times.
    let feed = c.args.feed.now in
    let days = c.args.days.now in
    let d = c.args.departure.now in
    let day : to_z w32 (of_z w32 c.args.day) ≡ c.args.day = to_z-of_z w32 c.args.day c.ranges.day in
    let limit : to_z w64 (of_z w64 c.args.limit) ≡ c.args.limit = to_z-of_z w64 c.args.limit c.ranges.limit in
    let past = c.loop-least-test.false in
    subst (λ l. Gained (IsRideBetween feed times days d c.args.day c.args.from c.args.until l) c.args.found.now.items c.loop-least.found.items) limit
    (subst (λ x. Gained (IsRideBetween feed times days d x c.args.from c.args.until (to_z w64 (of_z w64 c.args.limit))) c.args.found.now.items c.loop-least.found.items) day
    (all_starts feed days d (to_z w32 (of_z w32 c.args.day)) c.args.from c.args.until (to_z w64 (of_z w64 c.args.limit)) c.args.trip.now c.requires.departure.of_trip c.loop-least.least times
    c.args.found.now.items c.loop-least.found.items (λ start is late lt. omega (arith, past, lt, late)) (c.loop-least.invariant.1 times)))

pub loop-least-preserved : goal.loop-least-preserved
loop-least-preserved c =
    let next : IsLeastFrom (IsStart c.args.trip.now) c.loop-least.least (Some c.in-Some.start) = c.in-Some.ensures in
    let low = c.loop-least.invariant.0 in
    let le = next.1 in (
      omega (arith, low, le),
      λ times.
          next_start c.args.feed.now c.args.days.now c.args.departure.now (to_z w32 (of_z w32 c.args.day)) c.args.from c.args.until (to_z w64 (of_z w64 c.args.limit)) c.args.trip.now c.requires.departure.of_trip
          c.loop-least.least c.in-Some.start times c.args.found.now.items c.loop-least.found.items c.add_started.new.found.items next low (omega (arith, c.if-until-start.false))
          (c.loop-least.invariant.1 times) (c.in_ok-add_started.ensures times),
    )
