-- The ride's bookings are those of its two ends.
use Rattle.std.proofs.Common.{◌≡◌, IfNone, w64, to_z, of_z, subst, sym}
use Rattle.std.proofs.lemmas.Int.{to_z-of_z}
use Rattle.flex_model.specs.Booking.{IsBookable, IsDeadline}
use Rattle.booking_rules.proofs.RideEnds.{can_book_both, can_book_drop_off, can_book_pickup, lesser_of_both}
use Rattle.booking_rules.proofs.bookings.bookable.Goals as goal

pub returns-in_err-boarding-clause-refused : goal.returns-in_err-boarding-clause-refused
returns-in_err-boarding-clause-refused c =
    let feed = c.args.feed.now in
    let days = c.args.days.now in
    let ride = c.args.ride.now in
    let ways = c.ways_of-pickup.result in
    let now : to_z w64 (of_z w64 c.args.now) ≡ c.args.now = to_z-of_z w64 c.args.now c.ranges.now in
    subst (λ deadline. IfNone deadline (IsBookable feed days ride c.args.now → ⊥)) (sym c.from_residual.ensures)
    (λ bookable. c.in_err-boarding.ensures.refused (can_book_pickup feed days ride ways.0 ways.1 c.ways_of-pickup.ensures.ways (to_z w64 (of_z w64 c.args.now)) (subst (IsBookable feed days ride) (sym now) bookable)))

pub returns-in_err-alighting-clause-refused : goal.returns-in_err-alighting-clause-refused
returns-in_err-alighting-clause-refused c =
    let feed = c.args.feed.now in
    let days = c.args.days.now in
    let ride = c.args.ride.now in
    let ways = c.ways_of-pickup.result in
    let now : to_z w64 (of_z w64 c.args.now) ≡ c.args.now = to_z-of_z w64 c.args.now c.ranges.now in
    subst (λ deadline. IfNone deadline (IsBookable feed days ride c.args.now → ⊥)) (sym c.from_residual-in_err-alighting.ensures)
    (λ bookable. c.in_err-alighting.ensures.refused (can_book_drop_off feed days ride ways.0 ways.1 c.ways_of-pickup.ensures.ways (to_z w64 (of_z w64 c.args.now)) (subst (IsBookable feed days ride) (sym now) bookable)))

pub returns-clause-booked : goal.returns-clause-booked
returns-clause-booked c =
    let feed = c.args.feed.now in
    let days = c.args.days.now in
    let ride = c.args.ride.now in
    let ways = c.ways_of-pickup.result in
    let are = c.ways_of-pickup.ensures.ways in
    let boarding = c.in_ok-boarding.ensures.booked in
    let alighting = c.in_ok-alighting.ensures.booked in
    let now : to_z w64 (of_z w64 c.args.now) ≡ c.args.now = to_z-of_z w64 c.args.now c.ranges.now in (
      subst (IsBookable feed days ride) now (can_book_both feed days ride ways.0 ways.1 are (to_z w64 (of_z w64 c.args.now)) boarding.0 alighting.0),
      subst (IsDeadline feed days ride) (sym c.lesser.ensures) (lesser_of_both feed days ride ways.0 ways.1 are c.in_ok-boarding.boarding c.in_ok-alighting.alighting boarding.1 alighting.1),
    )
