-- The rides that alight at the trip's records.
use Rattle.std.proofs.Common.{◌≡◌, ◌+ℤ◌, pos, w32, w64, to_z, of_z, length, ◌<◌, ◌^◌, sym, ◌∙◌, ap, subst}
use Rattle.std.proofs.lemmas.Int.{to_z-of_z}
use Rattle.flex_model.specs.Ride.{shift}
use Rattle.ride_index.specs.TimedRides.{AreSoundRows}
use Rattle.ride_index.proofs.StartedRides.{few_rows, rides_of_alightings, sound_rows}
use Rattle.ride_index.proofs.rides.add_started.Goals as goal

pub add_alightings-requires-clause-rows : goal.add_alightings-requires-clause-rows
add_alightings-requires-clause-rows c =
    subst AreSoundRows (sym c.as_slice.ensures) (sound_rows c.args.feed.now c.args.departure.now.trip c.args.trip.now c.requires.feed c.requires.departure.of_trip)

pub add_alightings-requires-clause-few : goal.add_alightings-requires-clause-few
add_alightings-requires-clause-few c =
    let sound = few_rows c.args.feed.now c.args.departure.now.trip c.args.trip.now c.requires.feed c.requires.departure.of_trip in
    subst (λ rows. length rows < 2 ^ 32) (sym c.as_slice.ensures) sound.few

pub returns : goal.returns
returns c = λ times.
    let base : to_z w64 (of_z w64 c.args.base) ≡ c.args.base = to_z-of_z w64 c.args.base c.ranges.base in
    let zero : to_z w64 (of_z w64 c.zero_of-zero.result) ≡ c.zero_of-zero.result = to_z-of_z w64 c.zero_of-zero.result (record { sfits = c.zero_of-zero.type_inv }) in
    let departs : to_z w64 (of_z w64 c.moment_after.result) ≡ c.moment_after.result = to_z-of_z w64 c.moment_after.result (record { sfits = c.moment_after.type_inv }) in
    rides_of_alightings c.args.feed.now c.args.days.now c.args.trip.now c.args.departure.now c.args.day c.args.base c.zero_of-zero.result c.args.limit c.args.start
    c.requires.feed c.requires.departure c.requires.begins (c.zero_of-zero.ensures.value ∙ ap (λ b. b +ℤ shift c.args.trip.now c.args.start) base) c.requires.may_run times
    c.as_slice.result.now c.boarded_ride-boarded.result _ _ _ _ c.args.found.now.items c.add_alightings.new.found.items
    c.as_slice.ensures c.boarded_ride-boarded.ensures (to_z-of_z w32 c.args.day c.ranges.day)
    (departs ∙ c.moment_after.ensures ∙ ap (λ z. z +ℤ pos c.args.departure.now.departs) zero) zero (to_z-of_z w64 c.args.limit c.ranges.limit)
    c.in_ok-add_alightings.ensures
