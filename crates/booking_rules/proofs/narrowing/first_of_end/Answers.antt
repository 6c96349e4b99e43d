-- The booking can be made from where its first closing, put off by as many minutes, is no earlier than now and its opening.
use Rattle.std.proofs.Common.{◌≡◌, ◌↔◌, ◌*◌, ◌≤◌, ℕ, ℤ, ◌≤ℤ◌, ◌+ℤ◌, pos, Some, w64, to_z, of_z, refl, subst, arith}
use Rattle.std.proofs.lemmas.Int.{ints, to_z-of_z}
use Rattle.flex_model.specs.Booking.{ClosesAt}
use Rattle.booking_rules.specs.Narrowing.{last_number}
use Rattle.booking_rules.specs.Openings.{IsOpening, OpensBefore}
use Rattle.booking_rules.proofs.EndDepartures.{end_departures, end_from, first_closes, opens_before_later}
use Rattle.booking_rules.proofs.RunDepartures.{at_first, closing_fits, is_short}
use Rattle.booking_rules.proofs.narrowing.first_of_end.Goals as goal
use Rattle.booking_rules.proofs.narrowing.first_of_end.Goals.{After-opening-opens}

-- the closing for the first departure, and that the code's number keeps it
closes : (c : After-opening-opens) → ClosesAt c.args.feed.now c.args.days.now c.in-Book.rule c.args.ride.now.day c.args.run.now.first c.in-Some.closes
closes c =
    (at_first c.args.run.now c.requires.some c.requires.departs c.args.days.now c.args.ride.now c.requires.days c.requires.day
    (λ day departs. (m : ℤ) → ClosesAt c.args.feed.now c.args.days.now c.in-Book.rule day departs m ↔ (c.closing.result ≡ Some m)) c.closing.ensures.closings
    c.in-Some.closes).1 c.in-Some.is

closing_kept : (c : After-opening-opens) → to_z w64 (of_z w64 c.in-Some.closes) ≡ c.in-Some.closes
closing_kept c = closing_fits c.args.run.now c.requires.some c.requires.departs c.in-Some.closes c.in-Some.ensures.low c.in-Some.ensures.high

-- the opening for it
opens : (c : After-opening-opens) → IsOpening c.args.feed.now c.args.days.now c.in-Book.rule c.args.ride.now.day c.args.run.now.first c.opening-opens.result
opens c =
    at_first c.args.run.now c.requires.some c.requires.departs c.args.days.now c.args.ride.now c.requires.days c.requires.day
    (λ day departs. IsOpening c.args.feed.now c.args.days.now c.in-Book.rule day departs c.opening-opens.result) ((c.opening-opens.ensures c.opening-opens.result).1 refl)

-- now and the opening aren't after the closing of the last departure
at_last : (c : After-opening-opens) → (c.args.now ≤ℤ (c.in-Some.closes +ℤ pos (60 * last_number c.args.run.now))) × OpensBefore c.opening-opens.result (c.in-Some.closes +ℤ pos (60 * last_number c.args.run.now))
at_last c =
    end_from c.args.feed.now c.args.days.now c.args.ride.now c.args.run.now c.args.way c.args.now c.in-Book.rule c.in-Book.is c.in-Some.closes c.opening-opens.result
    (closes c) (opens c) (last_number c.args.run.now) c.requires.last

pub returns-in_default-closing : goal.returns-in_default-closing
returns-in_default-closing c k lt =
    absurd (first_closes c.args.feed.now c.args.days.now c.args.ride.now c.args.run.now c.args.way c.args.now c.in-Book.rule c.in-Book.is c.closing.result c.in_default-closing.is
    (at_first c.args.run.now c.requires.some c.requires.departs c.args.days.now c.args.ride.now c.requires.days c.requires.day
    (λ day departs. (m : ℤ) → ClosesAt c.args.feed.now c.args.days.now c.in-Book.rule day departs m ↔ (c.closing.result ≡ Some m)) c.closing.ensures.closings)
    c.requires.last)

pub minutes_until-requires : goal.minutes_until-requires
minutes_until-requires c =
    let at = (goal.at.minutes_until-requires c).After-opening-opens in
    let in_time = (at_last at).0 in
    let short = is_short c.args.run.now c.requires.some c.requires.departs in
    let fits = closing_kept at in
    let now : to_z w64 (of_z w64 c.args.now) ≡ c.args.now = to_z-of_z w64 c.args.now c.ranges.now in
    omega (arith, ints)

pub minutes_until_open-requires : goal.minutes_until_open-requires
minutes_until_open-requires c =
    let at = (goal.at.minutes_until_open-requires c).After-opening-opens in
    let closes = c.in-Some.closes in
    let short = is_short c.args.run.now c.requires.some c.requires.departs in
    let fits = closing_kept at in
    opens_before_later c.opening-opens.result (closes +ℤ pos (60 * last_number c.args.run.now)) (to_z w64 (of_z w64 closes) +ℤ pos 10000000000) (omega (arith, ints)) (at_last at).1

pub returns : goal.returns
returns c =
    let at = (goal.at.returns c).After-opening-opens in
    let closing = c.in-Some.closes in
    let opening = c.opening-opens.result in
    let until = c.minutes_until.result in
    let until_open = c.minutes_until_open.result in
    let now : to_z w64 (of_z w64 c.args.now) ≡ c.args.now = to_z-of_z w64 c.args.now c.ranges.now in
    let in_time = subst (λ n. (k : ℕ) → (until ≤ k) ↔ (n ≤ℤ (closing +ℤ pos (60 * k)))) now
    (subst (λ x. (k : ℕ) → (until ≤ k) ↔ (to_z w64 (of_z w64 c.args.now) ≤ℤ (x +ℤ pos (60 * k)))) (closing_kept at) c.minutes_until.ensures) in
    let by_then = subst (λ x. (k : ℕ) → (until_open ≤ k) ↔ OpensBefore opening (x +ℤ pos (60 * k))) (closing_kept at) c.minutes_until_open.ensures in
    end_departures c.args.feed.now c.args.days.now c.args.ride.now c.args.run.now c.args.way c.args.now c.in-Book.rule c.in-Book.is closing opening (closes at) (opens at)
    until until_open c.max.result in_time by_then c.max.ensures c.requires.last
