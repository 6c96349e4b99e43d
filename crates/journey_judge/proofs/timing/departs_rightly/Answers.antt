-- The test is on the ride's records, with the trip's shift.
use Rattle.std.proofs.Common.{◌≡◌, ◌↔◌, IsTrue, ◌∙◌, subst, to_z, of_z, w64, arith}
use Rattle.std.proofs.lemmas.Int.{ints}
use Rattle.flex_model.specs.Ride.{Leaves, shift}
use Rattle.journey_judge.proofs.RideRecords.{just_on}
use Rattle.journey_judge.proofs.timing.departs_rightly.Goals as goal

pub returns : goal.returns
returns c =
    let ride = c.args.ride.now in
    let records = c.in-Some.records in
    let by : to_z w64 (of_z w64 c.shift.result) ≡ c.shift.result = omega (arith, ints) in
    just_on c.args.feed.now ride (λ trip boarding alighting. Leaves c.args.days.now ride (shift trip ride.start) boarding.timing)
    records.trip.now records.boarding records.alighting c.in-Some.ensures c.leaves.result
    (subst (λ s. IsTrue c.leaves.result ↔ Leaves c.args.days.now ride s records.boarding.timing) (by ∙ c.shift.ensures.value) c.leaves.ensures)
