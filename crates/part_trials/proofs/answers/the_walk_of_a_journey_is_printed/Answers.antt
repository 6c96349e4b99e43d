use Rattle.std.proofs.Common.{pos, None, arith, subst}
use Rattle.std.proofs.lemmas.Int.{ints}
use Rattle.part_trials.specs.Printed.{HasOneTrip}
use Rattle.part_trials.proofs.PrintedRides.{is_printed}
use Rattle.part_trials.proofs.answers.the_walk_of_a_journey_is_printed.Goals as goal

pub assert_text-requires-clause-ride : goal.assert_text-requires-clause-ride
assert_text-requires-clause-ride g c =
    is_printed c.in_ok-feed.feed None (pos 1749024000) (pos 1749025200)
    (subst (λ is_frequent. HasOneTrip is_frequent c.in_ok-feed.feed) c.in_ok-trip.ensures.frequent c.in_ok-feed.ensures)
    (record { low = omega (arith, ints); high = omega (arith, ints) }) (record { low = omega (arith, ints); high = omega (arith, ints) })
