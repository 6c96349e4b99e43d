-- Trip by trip.
use Rattle.std.proofs.Common.{get_or, length, refl, ◌∙◌, ap, arith}
use Rattle.std.proofs.lemmas.Option.{slice_get_read}
use Rattle.ride_index.proofs.DepartureLists.{all_trips, next_trip}
use Rattle.ride_index.proofs.listing.all_departures.Goals as goal

pub loop-number-preserved : goal.loop-number-preserved
loop-number-preserved c =
    let feed = c.args.feed.now in
    let trip = c.index-trips-number.result in
    let all = c.as_slice-trips.ensures in
    let size = ap length all in
    next_trip feed c.args.kind c.loop-number.number trip c.loop-number.found.items c.add_trip.new.found.items
    (slice_get_read feed.trips (length feed.trips) c.loop-number.number trip refl (omega (arith, size, c.loop-number-test.true)) (c.index-trips-number.is ∙ ap (λ xs. get_or xs c.loop-number.number trip) all))
    c.loop-number.invariant c.in_ok-add_trip.ensures

pub returns : goal.returns
returns c =
    let size = ap length c.as_slice-trips.ensures in
    all_trips c.args.feed.now c.args.kind c.loop-number.number c.loop-number.found.items (omega (arith, size, c.loop-number-test.false)) c.loop-number.invariant
