-- From which departure of a run on a booking can be made, where it can be made for the last one.
use Rattle.std.proofs.Common.{◌≡◌, ◌↔◌, inl, inr, ℕ, ◌*◌, ◌<◌, ◌≤◌, ℤ, pos, ◌+ℤ◌, ◌-ℤ◌, ◌≤ℤ◌, Option, Some, None, max, refl, sym, ◌∙◌, subst, arith}
use Rattle.std.proofs.lemmas.Int.{by_lt_z, clamps, ints}
use Rattle.std.proofs.lemmas.Option.{none-some}
use Rattle.flex_model.specs.declared.booking.Notice.{Notice}
use Rattle.flex_model.specs.declared.booking.Notice.TheVariants.{RealTime, Ahead, Days}
use Rattle.flex_model.specs.declared.booking.SameDay.TheVariants.{Greatest, Start}
use Rattle.flex_model.specs.declared.booking.SameDay.TheVariants as same_day
use Rattle.flex_model.specs.declared.feed.Feed.{Feed}
use Rattle.flex_model.specs.declared.moment.DayTable.{DayTable}
use Rattle.flex_model.specs.declared.ride.Ride.{Ride}
use Rattle.flex_model.specs.declared.ride.Run.{Run}
use Rattle.flex_model.specs.declared.trip.Way.{Way}
use Rattle.flex_model.specs.declared.trip.Way.TheVariants.{Book}
use Rattle.flex_model.specs.Booking.{CanBook, Closes, ClosesAt, OpensBy}
use Rattle.flex_model.proofs.Bookings.{IsNoticeOf_unique}
use Rattle.booking_rules.specs.declared.opens.Opening.{Opening}
use Rattle.booking_rules.specs.declared.opens.Opening.TheVariants.{Always, From, Never}
use Rattle.booking_rules.specs.Departures.{nth_departure}
use Rattle.booking_rules.specs.Ends.{CanBookEnd}
use Rattle.booking_rules.specs.Narrowing.{last_number, nth_ride}
use Rattle.booking_rules.specs.Openings.{IsOpening, OpensBefore}
use Rattle.booking_rules.proofs.LaterRides.{closes_at_moved, closing_between, closing_moved}
use Rattle.booking_rules.proofs.RideEnds.{same_rule}
use Rattle.booking_rules.proofs.RuleTimes.{opens_before}

-- what has opened by a moment has opened by a later one
pub opens_before_later : (opening : Opening) (m n : ℤ) → m ≤ℤ n → OpensBefore opening m → OpensBefore opening n
opens_before_later Always m n le h = tt
opens_before_later (From o) m n le h = omega (arith, ints)
opens_before_later Never m n le h = h

module _ (feed : Feed) (days : DayTable) (day : ℤ) where
  -- a booking opens no later for an earlier departure
  opens_earlier : (notice : Notice) (a t y m : ℤ) → a ≤ℤ t → y ≤ℤ m → OpensBy feed days notice day t y → OpensBy feed days notice day a m
  opens_earlier notice a t y m le late (inl always) = inl always
  opens_earlier RealTime a t y m le late (inr h) = absurd h.1
  opens_earlier (Ahead least same_day.Always) a t y m le late (inr h) = absurd h.1
  opens_earlier (Ahead least (Greatest minutes)) a t y m le late (inr h) =
      let is : h.0 +ℤ pos (60 * minutes) ≡ t = h.1 in
      let before : h.0 ≤ℤ y = h.2 in
      inr (a -ℤ pos (60 * minutes), omega (arith, ints), omega (arith, ints))
  opens_earlier (Ahead least (Start prior)) a t y m le late (inr h) =
      let before : h.0 ≤ℤ y = h.2 in
      inr (h.0, h.1, omega (arith, ints))
  opens_earlier (Days last None service) a t y m le late (inr h) = absurd h.1
  opens_earlier (Days last (Some first) service) a t y m le late (inr h) =
      let before : h.0 ≤ℤ y = h.2 in
      inr (h.0, h.1, omega (arith, ints))

  -- A booking that opens in time for the last departure does so for one before it from where it would open in time, if it closed
  -- as much later as the departure is.
  opens_between : (notice : Notice) (a t b x y z m : ℤ) (s : ℕ) → t ≡ a +ℤ pos s → t ≤ℤ b → m ≡ x +ℤ pos s
      → Closes feed days notice day a x → Closes feed days notice day t y → Closes feed days notice day b z
      → OpensBy feed days notice day a m → OpensBy feed days notice day b z → OpensBy feed days notice day t y
  opens_between notice a t b x y z m s is le at p q r (inl always) g = inl always
  opens_between notice a t b x y z m s is le at p q r (inr h) (inl always) = inl always
  opens_between RealTime a t b x y z m s is le at p q r (inr h) (inr g) = absurd h.1
  opens_between (Ahead least same_day.Always) a t b x y z m s is le at p q r (inr h) (inr g) = absurd h.1
  opens_between (Ahead least (Greatest minutes)) a t b x y z m s is le at p q r (inr h) (inr g) =
      let opens : g.0 +ℤ pos (60 * minutes) ≡ b = g.1 in
      let before : g.0 ≤ℤ z = g.2 in
      inr (t -ℤ pos (60 * minutes), omega (arith, ints), omega (arith, ints))
  opens_between (Ahead least (Start prior)) a t b x y z m s is le at p q r (inr h) (inr g) =
      let before : h.0 ≤ℤ m = h.2 in
      inr (h.0, h.1, omega (arith, ints))
  opens_between (Days last None service) a t b x y z m s is le at p q r (inr h) (inr g) = absurd h.1
  opens_between (Days last (Some first) service) a t b x y z m s is le at p q r (inr h) (inr g) =
      let least = closing_between feed days day (Days last (Some first) service) a t b x y z s is le p q r in
      let before : h.0 ≤ℤ m = h.2 in
      let before_last : g.0 ≤ℤ z = g.2 in
      by_lt_z m z
      (λ lt. inr (h.0, h.1, omega (arith, ints, clamps)))
      (λ ge. inr (g.0, g.1, omega (arith, ints, clamps)))

  module _ (rule : Option ℕ) (a t b now x m : ℤ) (s : ℕ) (opening : Opening) (is : t ≡ a +ℤ pos s) (le : t ≤ℤ b) (at : m ≡ x +ℤ pos s)
      (closes : ClosesAt feed days rule day a x) (opens : IsOpening feed days rule day a opening) where
    can_be_made : CanBook feed days rule day b now → (now ≤ℤ m) × OpensBefore opening m → CanBook feed days rule day t now
    can_be_made last h =
        let notice : closes.0 ≡ last.notice = IsNoticeOf_unique feed rule closes.0 last.notice closes.1 last.of_rule in
        let first = subst (λ n. Closes feed days n day a x) notice closes.2 in
        let between = closing_moved feed days day last.notice a t x first in
        let least = closing_between feed days day last.notice a t b x between.0 last.closing s is le first between.1 last.closes in
        let same : opens.0 ≡ last.notice = IsNoticeOf_unique feed rule opens.0 last.notice opens.1 last.of_rule in
        let by_then = subst (λ n. OpensBy feed days n day a m) same ((opens_before feed days day a opens.0 opening m opens.2).1 h.1) in
        let late : now ≤ℤ last.closing = last.in_time in
        let early : now ≤ℤ m = h.0 in
        record {
          notice = last.notice;
          of_rule = last.of_rule;
          closing = between.0;
          closes = between.1;
          opens = opens_between last.notice a t b x between.0 last.closing m s is le at first between.1 last.closes by_then last.opens;
          in_time = omega (arith, ints, clamps);
        }

    is_made : CanBook feed days rule day t now → (now ≤ℤ m) × OpensBefore opening m
    is_made can =
        let notice : closes.0 ≡ can.notice = IsNoticeOf_unique feed rule closes.0 can.notice closes.1 can.of_rule in
        let first = subst (λ n. Closes feed days n day a x) notice closes.2 in
        let same : can.notice ≡ opens.0 = IsNoticeOf_unique feed rule can.notice opens.0 can.of_rule opens.1 in
        let least = closing_between feed days day can.notice a t t x can.closing can.closing s is (omega (arith, ints)) first can.closes can.closes in
        let late : now ≤ℤ can.closing = can.in_time in
        let before : can.closing ≤ℤ m = omega (arith, ints, clamps) in (
          omega (arith, ints),
          (opens_before feed days day a opens.0 opening m opens.2).0
              (subst (λ n. OpensBy feed days n day a m) same (opens_earlier can.notice a t can.closing m (omega (arith, ints)) before can.opens)),
        )

module _ (feed : Feed) (days : DayTable) (ride : Ride) (run : Run) (way : Way) (now : ℤ) (rule : Option ℕ) (is : way ≡ Book rule) where
  -- where the booking closes for the last departure, it closes for the first one
  pub first_closes : (closing : Option ℤ) → closing ≡ None → ((c : ℤ) → ClosesAt feed days rule ride.day run.first c ↔ (closing ≡ Some c))
      → CanBookEnd feed days (nth_ride ride run (last_number run)) way now → ⊥
  first_closes closing none closes last =
      let can = last rule is in
      let first = closes_at_moved feed days ride.day rule (nth_departure run (last_number run)) run.first can.closing (can.notice, can.of_rule, can.closes) in
      none-some first.0 (sym none ∙ (closes first.0).0 first.1)

  module _ (x : ℤ) (opening : Opening) (closes : ClosesAt feed days rule ride.day run.first x) (opens : IsOpening feed days rule ride.day run.first opening) where
    -- what holds of a departure at which the booking can be made
    pub end_from : (k : ℕ) → CanBookEnd feed days (nth_ride ride run k) way now → (now ≤ℤ (x +ℤ pos (60 * k))) × OpensBefore opening (x +ℤ pos (60 * k))
    end_from k can = is_made feed days ride.day rule run.first (nth_departure run k) (nth_departure run k) now x (x +ℤ pos (60 * k)) (60 * k) opening refl (omega (arith, ints)) refl closes opens (can rule is)

    pub end_departures : (a b r : ℕ) → ((k : ℕ) → (a ≤ k) ↔ (now ≤ℤ (x +ℤ pos (60 * k)))) → ((k : ℕ) → (b ≤ k) ↔ OpensBefore opening (x +ℤ pos (60 * k)))
        → r ≡ max a b → CanBookEnd feed days (nth_ride ride run (last_number run)) way now
        → (k : ℕ) → k < run.count → (r ≤ k) ↔ CanBookEnd feed days (nth_ride ride run k) way now
    end_departures a b r in_time open_by most last k lt = (
      λ le other e.
          let both : (now ≤ℤ (x +ℤ pos (60 * k))) × OpensBefore opening (x +ℤ pos (60 * k)) = ((in_time k).0 (omega arith), (open_by k).0 (omega arith)) in
          let made = can_be_made feed days ride.day rule run.first (nth_departure run k) (nth_departure run (last_number run)) now x (x +ℤ pos (60 * k)) (60 * k) opening refl (omega (arith, ints)) refl closes opens (last rule is) both in
          subst (λ r. CanBook feed days r ride.day (nth_departure run k) now) (same_rule way rule other is e) made,
      λ can.
          let both = end_from k can in
          let after_now : a ≤ k = (in_time k).1 both.0 in
          let after_open : b ≤ k = (open_by k).1 both.1 in
          omega arith,
    )
