-- The end has a booking, which closes and opens as its rule says.
use Rattle.std.proofs.Common.{◌≡◌, ◌↔◌, ◌≤ℤ◌, ◌+ℤ◌, ℤ, pos, IfNone, false, true, Some, w64, to_z, of_z, refl, sym, ◌∙◌, subst, arith}
use Rattle.std.proofs.lemmas.Int.{ints, to_z-of_z}
use Rattle.flex_model.specs.Booking.{ClosesAt}
use Rattle.booking_rules.specs.Ends.{CanBookEnd}
use Rattle.booking_rules.specs.Openings.{IsOpening}
use Rattle.booking_rules.proofs.Fitting.{as_written, moment_fits}
use Rattle.booking_rules.proofs.RideEnds.{can_be_booked, closes_early, never_closes, opens_late}
use Rattle.booking_rules.proofs.bookings.end_deadline.Goals as goal
use Rattle.booking_rules.proofs.bookings.end_deadline.Goals.{In_ok-closes, then-closes-now-via-then-closes-now, then-closes-now-via-else-closes-now+then-not-opens_by}

pub returns-in_err-closes-clause-refused : goal.returns-in_err-closes-clause-refused
returns-in_err-closes-clause-refused c =
    let feed = c.args.feed.now in
    let days = c.args.days.now in
    let ride = c.args.ride.now in
    let rule = c.in-Book.rule in
    let closes = as_written days ride c.requires.days c.requires.day c.requires.departs (λ day departs. (m : ℤ) → ClosesAt feed days rule day departs m ↔ (c.closing.result ≡ Some m)) c.closing.ensures.closings in
    subst (λ deadline. IfNone deadline (CanBookEnd feed days ride c.args.way c.args.now → ⊥)) (sym c.from_residual.ensures)
    (never_closes feed days ride c.args.way c.args.now rule c.in-Book.is c.closing.result c.in_err-closes.was closes)

-- the closing as the code's number keeps it
closing_kept : (c : In_ok-closes) → to_z w64 (of_z w64 c.in_ok-closes.closes) ≡ c.in_ok-closes.closes
closing_kept c =
    let low : pos 0 ≤ℤ (c.in_ok-closes.closes +ℤ pos 60000000) = c.in_ok-closes.ensures.low in
    let departs = to_z w64 (of_z w64 c.args.ride.now.departs) in
    let to : c.args.ride.now.departs ≤ℤ pos 10000000000 = c.requires.departs.high in
    let from : pos 0 ≤ℤ c.args.ride.now.departs = c.requires.departs.low in
    let fits = moment_fits c.args.ride.now.departs (omega (arith, ints)) (omega (arith, ints)) in
    let high : c.in_ok-closes.closes ≤ℤ departs = c.in_ok-closes.ensures.high in
    moment_fits c.in_ok-closes.closes low (omega (arith, ints))

closes_then : (c : In_ok-closes) → ClosesAt c.args.feed.now c.args.days.now c.in-Book.rule c.args.ride.now.day c.args.ride.now.departs (to_z w64 (of_z w64 c.in_ok-closes.closes))
closes_then c =
    let feed = c.args.feed.now in
    let days = c.args.days.now in
    let ride = c.args.ride.now in
    let rule = c.in-Book.rule in
    let closes = as_written days ride c.requires.days c.requires.day c.requires.departs (λ day departs. (m : ℤ) → ClosesAt feed days rule day departs m ↔ (c.closing.result ≡ Some m)) c.closing.ensures.closings in
    subst (ClosesAt feed days rule ride.day ride.departs) (sym (closing_kept c)) ((closes c.in_ok-closes.closes).1 c.in_ok-closes.was)

pub returns-then-closes-now-clause-refused : goal.returns-then-closes-now-clause-refused
returns-then-closes-now-clause-refused c =
    let feed = c.args.feed.now in
    let days = c.args.days.now in
    let ride = c.args.ride.now in
    let rule = c.in-Book.rule in
    let closing = to_z w64 (of_z w64 c.in_ok-closes.closes) in
    let now : to_z w64 (of_z w64 c.args.now) ≡ c.args.now = to_z-of_z w64 c.args.now c.ranges.now in
    let at = closes_then (goal.at.returns-then-closes-now-clause-refused c).In_ok-closes in
    elim c.then-closes-now.branch [
      | then-closes-now-via-then-closes-now w ↦ closes_early feed days ride c.args.way c.args.now rule c.in-Book.is closing at (omega (arith, ints, w.if-closes-now.true))
      | then-closes-now-via-else-closes-now+then-not-opens_by w ↦
          opens_late feed days ride c.args.way c.args.now rule c.in-Book.is closing at w.opening.result
          (as_written days ride c.requires.days c.requires.day c.requires.departs (λ day departs. IsOpening feed days rule day departs w.opening.result) ((w.opening.ensures w.opening.result).1 refl))
          (λ before. (
          let yes_ : w.opens_by.result ≡ true = w.opens_by.ensures.1 before in
          let no_ : w.opens_by.result ≡ false = w.if-not-opens_by.true in
          let e : false ≡ true = sym no_ ∙ yes_ in cc))
    ]

pub returns-clause-booked : goal.returns-clause-booked
returns-clause-booked c =
    let feed = c.args.feed.now in
    let days = c.args.days.now in
    let ride = c.args.ride.now in
    let rule = c.in-Book.rule in
    let closing = to_z w64 (of_z w64 c.in_ok-closes.closes) in
    let now : to_z w64 (of_z w64 c.args.now) ≡ c.args.now = to_z-of_z w64 c.args.now c.ranges.now in
    can_be_booked feed days ride c.args.way c.args.now rule c.in-Book.is closing (closes_then (goal.at.returns-clause-booked c).In_ok-closes) c.opening.result
    (as_written days ride c.requires.days c.requires.day c.requires.departs (λ day departs. IsOpening feed days rule day departs c.opening.result) ((c.opening.ensures c.opening.result).1 refl))
    (c.opens_by.ensures.0 c.if-not-opens_by.false)
    (omega (arith, ints, c.if-closes-now.false))
