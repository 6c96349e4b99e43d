-- A permitted ride leaves in the range in which bookings are told.
use Rattle.std.proofs.Common.{w64, rules, SFits, IfNone, IfSome, subst}
use Rattle.std.proofs.lemmas.Int.{to_z-of_z}
use Rattle.flex_model.specs.Booking.{IsBookable, IsDeadline}
use Rattle.booking_rules.proofs.PermittedDepartures.{departs_in_range}
use Rattle.ride_index.proofs.offers.deadline_of.Goals as goal

pub bookable-requires-clause-departs : goal.bookable-requires-clause-departs
bookable-requires-clause-departs c =
    let w = c.args.wanted.now in
    departs_in_range w.feed.now w.times.now w.days.now c.args.ride.now c.requires.reachable.permitted c.requires.wanted.feed c.requires.wanted.days

pub returns-clause-booked : goal.returns-clause-booked
returns-clause-booked c =
    let w = c.args.wanted.now in
    let fits : SFits w64 w.asked = search rules in
    subst (λ a. IfSome c.bookable.result (λ deadline. IsBookable w.feed.now w.days.now c.args.ride.now a × IsDeadline w.feed.now w.days.now c.args.ride.now deadline)) (to_z-of_z w64 w.asked fits) c.bookable.ensures.booked

pub returns-clause-refused : goal.returns-clause-refused
returns-clause-refused c =
    let w = c.args.wanted.now in
    let fits : SFits w64 w.asked = search rules in
    subst (λ a. IfNone c.bookable.result (IsBookable w.feed.now w.days.now c.args.ride.now a → ⊥)) (to_z-of_z w64 w.asked fits) c.bookable.ensures.refused
