-- Closings, openings and deadlines of rides that differ in their moments alone.
use Rattle.std.proofs.Common.{◌≡◌, inl, inr, ℕ, ◌*◌, ◌≤◌, ℤ, pos, ◌+ℤ◌, ◌-ℤ◌, ◌≤ℤ◌, Option, Some, None, refl, subst, arith}
use Rattle.std.proofs.lemmas.Int.{by_lt_z, clamps, ints}
use Rattle.std.specs.Int.{int_min}
use Rattle.flex_model.specs.declared.booking.Notice.{Notice}
use Rattle.flex_model.specs.declared.booking.Notice.TheVariants.{RealTime, Ahead, Days}
use Rattle.flex_model.specs.declared.booking.SameDay.TheVariants.{Always, Greatest, Start}
use Rattle.flex_model.specs.declared.feed.Feed.{Feed}
use Rattle.flex_model.specs.declared.moment.DayTable.{DayTable}
use Rattle.flex_model.specs.declared.moment.Deadline.{Deadline}
use Rattle.flex_model.specs.declared.moment.Deadline.TheVariants.{At, Never}
use Rattle.flex_model.specs.declared.ride.Ride.{Ride}
use Rattle.flex_model.specs.Booking.{CanBook, Closes, ClosesAt, HasBooking, HasClosing, IsBookable, IsDeadline, OpensBy}
use Rattle.flex_model.specs.Deadline.{lesser}
use Rattle.flex_model.proofs.Bookings.{Closes_unique, IsNoticeOf_unique}
use Rattle.booking_rules.specs.Departures.{later, ride_at}

module _ (feed : Feed) (days : DayTable) (day : ℤ) where
  -- a booking that closes for one departure closes for each
  pub closing_moved : (notice : Notice) (a t x : ℤ) → Closes feed days notice day a x → (y : ℤ) × Closes feed days notice day t y
  closing_moved RealTime a t x p = (t, refl)
  closing_moved (Ahead least opens) a t x p = (t -ℤ pos (60 * least), omega (arith, ints))
  closing_moved (Days last first service) a t x p = (int_min t p.1, (p.0, p.1, p.2, p.3, refl))

  -- from one departure to a later one a closing rises as the departure does, up to the closing of the later one
  pub closing_between : (notice : Notice) (a t b x y z : ℤ) (s : ℕ) → t ≡ a +ℤ pos s → t ≤ℤ b
      → Closes feed days notice day a x → Closes feed days notice day t y → Closes feed days notice day b z → y ≡ int_min (x +ℤ pos s) z
  closing_between RealTime a t b x y z s is le p q r = omega (arith, ints, clamps)
  closing_between (Ahead least opens) a t b x y z s is le p q r = omega (arith, ints, clamps)
  closing_between (Days last first service) a t b x y z s is le p q r =
      let at_t = Closes_unique feed days (Days last first service) day t y (int_min t p.1) q (p.0, p.1, p.2, p.3, refl) in
      let at_b = Closes_unique feed days (Days last first service) day b z (int_min b p.1) r (p.0, p.1, p.2, p.3, refl) in
      let at_a : x ≡ int_min a p.1 = p.4 in
      omega (arith, ints, clamps)

  -- the later departure closes no earlier
  pub closing_rises : (notice : Notice) (a t x y : ℤ) → a ≤ℤ t → Closes feed days notice day a x → Closes feed days notice day t y → x ≤ℤ y
  closing_rises RealTime a t x y le p q = omega (arith, ints)
  closing_rises (Ahead least opens) a t x y le p q = omega (arith, ints)
  closing_rises (Days last first service) a t x y le p q =
      let at_t = Closes_unique feed days (Days last first service) day t y (int_min t p.1) q (p.0, p.1, p.2, p.3, refl) in
      let at_a : x ≡ int_min a p.1 = p.4 in
      omega (arith, ints, clamps)

  -- a booking that opens before it closes does so for a later departure too
  pub opens_later : (notice : Notice) (a t x y : ℤ) → a ≤ℤ t → Closes feed days notice day a x → Closes feed days notice day t y
      → OpensBy feed days notice day a x → OpensBy feed days notice day t y
  opens_later notice a t x y le p q (inl always) = inl always
  opens_later RealTime a t x y le p q (inr h) = absurd h.1
  opens_later (Ahead least Always) a t x y le p q (inr h) = absurd h.1
  opens_later (Ahead least (Greatest minutes)) a t x y le p q (inr h) =
      let is : h.0 +ℤ pos (60 * minutes) ≡ a = h.1 in
      let before : h.0 ≤ℤ x = h.2 in
      inr (t -ℤ pos (60 * minutes), omega (arith, ints), omega (arith, ints))
  opens_later (Ahead least (Start prior)) a t x y le p q (inr h) =
      let before : h.0 ≤ℤ x = h.2 in
      inr (h.0, h.1, omega (arith, ints))
  opens_later (Days last None service) a t x y le p q (inr h) = absurd h.1
  opens_later (Days last (Some first) service) a t x y le p q (inr h) =
      let before : h.0 ≤ℤ x = h.2 in
      let rises = closing_rises (Days last (Some first) service) a t x y le p q in
      inr (h.0, h.1, omega (arith, ints))

  pub can_book_later : (rule : Option ℕ) (a t now : ℤ) → a ≤ℤ t → CanBook feed days rule day a now → CanBook feed days rule day t now
  can_book_later rule a t now le can =
      let moved = closing_moved can.notice a t can.closing can.closes in
      let rises = closing_rises can.notice a t can.closing moved.0 le can.closes moved.1 in
      let in_time = can.in_time in
      record {
        notice = can.notice;
        of_rule = can.of_rule;
        closing = moved.0;
        closes = moved.1;
        opens = opens_later can.notice a t can.closing moved.0 le can.closes moved.1 can.opens;
        in_time = omega (arith, ints);
      }

  -- the same of closings under a rule
  pub closes_at_moved : (rule : Option ℕ) (a t x : ℤ) → ClosesAt feed days rule day a x → (y : ℤ) × ClosesAt feed days rule day t y
  closes_at_moved rule a t x p = (let moved = closing_moved p.0 a t x p.2 in (moved.0, (p.0, p.1, moved.1)))

  pub closes_at_between : (rule : Option ℕ) (a t b x y z : ℤ) (s : ℕ) → t ≡ a +ℤ pos s → t ≤ℤ b
      → ClosesAt feed days rule day a x → ClosesAt feed days rule day t y → ClosesAt feed days rule day b z → y ≡ int_min (x +ℤ pos s) z
  closes_at_between rule a t b x y z s is le p q r =
      let second = subst (λ n. Closes feed days n day t y) (IsNoticeOf_unique feed rule q.0 p.0 q.1 p.1) q.2 in
      let third = subst (λ n. Closes feed days n day b z) (IsNoticeOf_unique feed rule r.0 p.0 r.1 p.1) r.2 in
      closing_between p.0 a t b x y z s is le p.2 second third

module _ (feed : Feed) (days : DayTable) (ride : Ride) where
  pub bookable_at : (departs arrives now : ℤ) → ride.departs ≤ℤ departs → IsBookable feed days ride now → IsBookable feed days (ride_at ride departs arrives) now
  bookable_at departs arrives now le bookable rule booked = can_book_later feed days ride.day rule ride.departs departs now le (bookable rule booked)

  -- a closing of the ride at one of three departures comes with those of the same booking at the other two
  record Three (s m : ℕ) (x y z : ℤ) : Type 0 where
    rule : Option ℕ
    booked : HasBooking feed ride rule
    first : ClosesAt feed days rule ride.day ride.departs x
    between : ClosesAt feed days rule ride.day (ride.departs +ℤ pos s) y
    last : ClosesAt feed days rule ride.day (ride.departs +ℤ pos m) z
    is : y ≡ int_min (x +ℤ pos s) z

  module _ (s m : ℕ) (le : s ≤ m) where
    three : (rule : Option ℕ) (x y z : ℤ) → HasBooking feed ride rule → ClosesAt feed days rule ride.day ride.departs x
        → ClosesAt feed days rule ride.day (ride.departs +ℤ pos s) y → ClosesAt feed days rule ride.day (ride.departs +ℤ pos m) z → Three s m x y z
    three rule x y z booked p q r = record {
      rule = rule;
      booked = booked;
      first = p;
      between = q;
      last = r;
      is = closes_at_between feed days ride.day rule ride.departs (ride.departs +ℤ pos s) (ride.departs +ℤ pos m) x y z s refl (omega (arith, ints)) p q r;
    }

    of_first : (x : ℤ) → HasClosing feed days ride x → (y z : ℤ) × Three s m x y z
    of_first x h =
        let y = closes_at_moved feed days ride.day h.0 ride.departs (ride.departs +ℤ pos s) x h.2 in
        let z = closes_at_moved feed days ride.day h.0 ride.departs (ride.departs +ℤ pos m) x h.2 in
        (y.0, z.0, three h.0 x y.0 z.0 h.1 h.2 y.1 z.1)

    of_between : (arrives y : ℤ) → HasClosing feed days (ride_at ride (ride.departs +ℤ pos s) arrives) y → (x z : ℤ) × Three s m x y z
    of_between arrives y h =
        let x = closes_at_moved feed days ride.day h.0 (ride.departs +ℤ pos s) ride.departs y h.2 in
        let z = closes_at_moved feed days ride.day h.0 (ride.departs +ℤ pos s) (ride.departs +ℤ pos m) y h.2 in
        (x.0, z.0, three h.0 x.0 y z.0 h.1 x.1 h.2 z.1)

    of_last : (arrives z : ℤ) → HasClosing feed days (ride_at ride (ride.departs +ℤ pos m) arrives) z → (x y : ℤ) × Three s m x y z
    of_last arrives z h =
        let x = closes_at_moved feed days ride.day h.0 (ride.departs +ℤ pos m) ride.departs z h.2 in
        let y = closes_at_moved feed days ride.day h.0 (ride.departs +ℤ pos m) (ride.departs +ℤ pos s) z h.2 in
        (x.0, y.0, three h.0 x.0 y.0 z h.1 x.1 y.1 h.2)

    module _ (arrives ends : ℤ) where
      -- the least closing between the two is attained
      attained : (x z : ℤ) → IsDeadline feed days ride (At x) → IsDeadline feed days (ride_at ride (ride.departs +ℤ pos m) ends) (At z)
          → HasClosing feed days (ride_at ride (ride.departs +ℤ pos s) arrives) (int_min (x +ℤ pos s) z)
      attained x z p r =
          by_lt_z (x +ℤ pos s) z
          (λ lt.
          let t = of_first x p.0 in
          let bound : z ≤ℤ t.1 = r.1 t.1 (t.2.rule, t.2.booked, t.2.last) in
          let is = t.2.is in
          let same : t.0 ≡ int_min (x +ℤ pos s) z = omega (arith, ints, clamps) in
          subst (HasClosing feed days (ride_at ride (ride.departs +ℤ pos s) arrives)) same (t.2.rule, t.2.booked, t.2.between))
          (λ ge.
          let t = of_last ends z r.0 in
          let bound : x ≤ℤ t.0 = p.1 t.0 (t.2.rule, t.2.booked, t.2.first) in
          let is = t.2.is in
          let same : t.1 ≡ int_min (x +ℤ pos s) z = omega (arith, ints, clamps) in
          subst (HasClosing feed days (ride_at ride (ride.departs +ℤ pos s) arrives)) same (t.2.rule, t.2.booked, t.2.between))

      least : (x z : ℤ) → IsDeadline feed days ride (At x) → IsDeadline feed days (ride_at ride (ride.departs +ℤ pos m) ends) (At z)
          → (y : ℤ) → HasClosing feed days (ride_at ride (ride.departs +ℤ pos s) arrives) y → int_min (x +ℤ pos s) z ≤ℤ y
      least x z p r y h =
          let t = of_between arrives y h in
          let low : x ≤ℤ t.0 = p.1 t.0 (t.2.rule, t.2.booked, t.2.first) in
          let high : z ≤ℤ t.1 = r.1 t.1 (t.2.rule, t.2.booked, t.2.last) in
          let is = t.2.is in
          omega (arith, ints, clamps)

      pub deadline_at : (first latest : Deadline) → IsDeadline feed days ride first → IsDeadline feed days (ride_at ride (ride.departs +ℤ pos m) ends) latest
          → IsDeadline feed days (ride_at ride (ride.departs +ℤ pos s) arrives) (lesser (later first s) latest)
      deadline_at Never Never p r = p
      deadline_at Never (At z) p r = absurd (p r.0.0 r.0.1)
      deadline_at (At x) Never p r = absurd (r p.0.0 p.0.1)
      deadline_at (At x) (At z) p r = (attained x z p r, least x z p r)

pub bookable_later : (feed : Feed) (days : DayTable) (ride : Ride) (departs arrives now : ℤ)
    → ride.departs ≤ℤ departs → IsBookable feed days ride now → IsBookable feed days (ride_at ride departs arrives) now
bookable_later feed days ride departs arrives now le bookable = bookable_at feed days ride departs arrives now le bookable

pub deadline_between : (feed : Feed) (days : DayTable) (ride : Ride) (first latest : Deadline) (seconds all_seconds : ℕ) (arrives arrives_last : ℤ)
    → seconds ≤ all_seconds → IsDeadline feed days ride first
    → IsDeadline feed days (ride_at ride (ride.departs +ℤ pos all_seconds) arrives_last) latest
    → IsDeadline feed days (ride_at ride (ride.departs +ℤ pos seconds) arrives) (lesser (later first seconds) latest)
deadline_between feed days ride first latest seconds all_seconds arrives arrives_last le p r =
    deadline_at feed days ride seconds all_seconds le arrives arrives_last first latest p r
