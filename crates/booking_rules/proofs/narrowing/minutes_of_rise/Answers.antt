-- From the one departure to the last one the deadline rises by no more than the departure does.
use Rattle.std.proofs.Common.{subst}
use Rattle.flex_model.specs.Booking.{IsDeadline}
use Rattle.booking_rules.proofs.RunDepartures.{rises_at_most}
use Rattle.booking_rules.proofs.narrowing.minutes_of_rise.Goals as goal

pub minutes_to_deadline-requires : goal.minutes_to_deadline-requires
minutes_to_deadline-requires c =
    let feed = c.args.feed.now in
    let days = c.args.days.now in
    let deadline = subst (λ ride. IsDeadline feed days ride c.in-Some.deadline) c.nth_ride.ensures c.in-Some.ensures.booked.1 in
    rises_at_most feed days c.args.ride.now c.args.run.now c.args.first c.in-Some.deadline c.args.latest c.requires.first c.requires.departs deadline c.requires.latest
