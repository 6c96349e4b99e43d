-- The bookings of a ride's two ends, and its deadline.
use Rattle.std.proofs.Common.{◌≡◌, ◌⊎◌, ◌↔◌, inl, inr, ℕ, ℤ, ◌≤ℤ◌, ◌<ℤ◌, Option, Some, None, slice_get, sym, ◌∙◌, ap, subst, arith}
use Rattle.std.proofs.lemmas.Int.{by_lt_z, clamps, ints}
use Rattle.std.proofs.lemmas.Option.{none-some}
use Rattle.std.specs.Int.{int_min}
use Rattle.flex_model.specs.declared.feed.Feed.{Feed}
use Rattle.flex_model.specs.declared.moment.DayTable.{DayTable}
use Rattle.flex_model.specs.declared.moment.Deadline.{Deadline}
use Rattle.flex_model.specs.declared.moment.Deadline.TheVariants.{At, Never}
use Rattle.flex_model.specs.declared.ride.Ride.{Ride}
use Rattle.flex_model.specs.declared.trip.Way.{Way}
use Rattle.flex_model.specs.declared.trip.Way.TheVariants.{Book}
use Rattle.flex_model.specs.Booking.{CanBook, ClosesAt, HasBooking, HasClosing, IsBookable, IsDeadline, OpensBy}
use Rattle.flex_model.specs.Deadline.{lesser}
use Rattle.flex_model.proofs.Bookings.{ClosesAt_unique, IsNoticeOf_unique}
use Rattle.flex_model.proofs.Found.{slice_get_unique}
use Rattle.booking_rules.specs.declared.opens.Opening.{Opening}
use Rattle.booking_rules.specs.Ends.{AreWays, CanBookEnd, IsEndDeadline}
use Rattle.booking_rules.specs.Openings.{IsOpening, OpensBefore}
use Rattle.booking_rules.proofs.RuleTimes.{opens_before}

-- an end is booked under one rule
pub same_rule : (way : Way) (a b : Option ℕ) → way ≡ Book a → way ≡ Book b → a ≡ b
same_rule way a b e f = let g : Book a ≡ Book b = sym e ∙ f in cc

module _ (feed : Feed) (days : DayTable) (ride : Ride) (way : Way) (now : ℤ) (rule : Option ℕ) (is : way ≡ Book rule) where
  -- an end without a closing can't be booked
  pub never_closes : (closing : Option ℤ) → closing ≡ None → ((c : ℤ) → ClosesAt feed days rule ride.day ride.departs c ↔ (closing ≡ Some c)) → CanBookEnd feed days ride way now → ⊥
  never_closes closing none closes can =
      let booking = can rule is in
      none-some booking.closing (sym none ∙ (closes booking.closing).0 (booking.notice, booking.of_rule, booking.closes))

  module _ (closing : ℤ) (closes : ClosesAt feed days rule ride.day ride.departs closing) where
    same_closing : (booking : CanBook feed days rule ride.day ride.departs now) → booking.closing ≡ closing
    same_closing booking = ClosesAt_unique feed days rule ride.day ride.departs booking.closing closing (booking.notice, booking.of_rule, booking.closes) closes

    -- one that closes before now can't be booked
    pub closes_early : closing <ℤ now → CanBookEnd feed days ride way now → ⊥
    closes_early early can =
        let booking = can rule is in
        let same = same_closing booking in
        let in_time = booking.in_time in
        omega (arith, ints)

    -- nor one that closes before it opens
    pub opens_late : (opening : Opening) → IsOpening feed days rule ride.day ride.departs opening → (OpensBefore opening closing → ⊥) → CanBookEnd feed days ride way now → ⊥
    opens_late opening opens late can =
        let booking = can rule is in
        let notice : booking.notice ≡ opens.0 = IsNoticeOf_unique feed rule booking.notice opens.0 booking.of_rule opens.1 in
        late ((opens_before feed days ride.day ride.departs opens.0 opening closing opens.2).0
        (subst (OpensBy feed days opens.0 ride.day ride.departs) (same_closing booking) (subst (λ n. OpensBy feed days n ride.day ride.departs booking.closing) notice booking.opens)))

    pub can_be_booked : (opening : Opening) → IsOpening feed days rule ride.day ride.departs opening → OpensBefore opening closing → now ≤ℤ closing
        → CanBookEnd feed days ride way now × IsEndDeadline feed days ride way (At closing)
    can_be_booked opening opens in_time late = (
      λ other e.
          let notice : opens.0 ≡ closes.0 = IsNoticeOf_unique feed rule opens.0 closes.0 opens.1 closes.1 in
          subst (λ r. CanBook feed days r ride.day ride.departs now) (same_rule way rule other is e) (record {
            notice = closes.0;
            of_rule = closes.1;
            closing = closing;
            closes = closes.2;
            opens = subst (λ n. OpensBy feed days n ride.day ride.departs closing) notice ((opens_before feed days ride.day ride.departs opens.0 opening closing opens.2).1 in_time);
            in_time = late;
          }),
      (rule, is, closes),
    )

module _ (feed : Feed) (days : DayTable) (ride : Ride) (pickup drop_off : Way) (are : AreWays feed ride pickup drop_off) where
  -- the ride's bookings are those of its two ends
  booking_of : (rule : Option ℕ) → HasBooking feed ride rule → (pickup ≡ Book rule) ⊎ (drop_off ≡ Book rule)
  booking_of rule b =
      let trip : b.0 ≡ are.0 = slice_get_unique feed.trips ride.trip b.0 are.0 b.2 are.3 in
      elim b.3 [
        | inl first ↦ inl (
            let row = slice_get_unique are.0.rows ride.from_row b.1 are.1 (subst (λ trip. slice_get trip.rows ride.from_row ≡ Some b.1) trip first.0) are.4 in
            sym are.6 ∙ sym (ap (λ row. row.pickup) row) ∙ first.1)
        | inr second ↦ inr (
            let row = slice_get_unique are.0.rows ride.to_row b.1 are.2 (subst (λ trip. slice_get trip.rows ride.to_row ≡ Some b.1) trip second.0) are.5 in
            sym are.7 ∙ sym (ap (λ row. row.drop_off) row) ∙ second.1)
      ]

  pickup_booked : (rule : Option ℕ) → pickup ≡ Book rule → HasBooking feed ride rule
  pickup_booked rule e = (are.0, are.1, are.3, inl (are.4, are.6 ∙ e))

  drop_off_booked : (rule : Option ℕ) → drop_off ≡ Book rule → HasBooking feed ride rule
  drop_off_booked rule e = (are.0, are.2, are.3, inr (are.5, are.7 ∙ e))

  pub can_book_both : (now : ℤ) → CanBookEnd feed days ride pickup now → CanBookEnd feed days ride drop_off now → IsBookable feed days ride now
  can_book_both now first second rule booked = elim (booking_of rule booked) [ inl e ↦ first rule e | inr e ↦ second rule e ]

  pub can_book_pickup : (now : ℤ) → IsBookable feed days ride now → CanBookEnd feed days ride pickup now
  can_book_pickup now bookable rule e = bookable rule (pickup_booked rule e)

  pub can_book_drop_off : (now : ℤ) → IsBookable feed days ride now → CanBookEnd feed days ride drop_off now
  can_book_drop_off now bookable rule e = bookable rule (drop_off_booked rule e)

  -- the closing of an end is its deadline
  end_closing : (way : Way) (rule : Option ℕ) (deadline : Deadline) (closing : ℤ) → IsEndDeadline feed days ride way deadline → way ≡ Book rule
      → ClosesAt feed days rule ride.day ride.departs closing → deadline ≡ At closing
  end_closing way rule Never closing is e closes = absurd (is rule e)
  end_closing way rule (At n) closing is e closes =
      ap At (ClosesAt_unique feed days rule ride.day ride.departs n closing (subst (λ r. ClosesAt feed days r ride.day ride.departs n) (same_rule way is.0 rule is.1 e) is.2) closes)

  a_closing : (a b : Deadline) (closing : ℤ) → IsEndDeadline feed days ride pickup a → IsEndDeadline feed days ride drop_off b → HasClosing feed days ride closing → (a ≡ At closing) ⊎ (b ≡ At closing)
  a_closing a b closing first second has = elim (booking_of has.0 has.1) [
    | inl e ↦ inl (end_closing pickup has.0 a closing first e has.2)
    | inr e ↦ inr (end_closing drop_off has.0 b closing second e has.2)
  ]

  pickup_closes : (m : ℤ) → IsEndDeadline feed days ride pickup (At m) → HasClosing feed days ride m
  pickup_closes m is = (is.0, pickup_booked is.0 is.1, is.2)

  drop_off_closes : (m : ℤ) → IsEndDeadline feed days ride drop_off (At m) → HasClosing feed days ride m
  drop_off_closes m is = (is.0, drop_off_booked is.0 is.1, is.2)

  -- the lesser of the ends' deadlines is the ride's
  pub lesser_of_both : (a b : Deadline) → IsEndDeadline feed days ride pickup a → IsEndDeadline feed days ride drop_off b → IsDeadline feed days ride (lesser a b)
  lesser_of_both Never Never first second = λ rule booked. elim (booking_of rule booked) [ inl e ↦ first rule e | inr e ↦ second rule e ]
  lesser_of_both Never (At n) first second = (
    drop_off_closes n second,
    λ closing has. elim (a_closing Never (At n) closing first second has) [
      | inl e ↦ absurd cc
      | inr e ↦ (let same : n ≡ closing = cc in omega (arith, ints))
    ],
  )
  lesser_of_both (At m) Never first second = (
    pickup_closes m first,
    λ closing has. elim (a_closing (At m) Never closing first second has) [
      | inl e ↦ (let same : m ≡ closing = cc in omega (arith, ints))
      | inr e ↦ absurd cc
    ],
  )
  lesser_of_both (At m) (At n) first second = (
    by_lt_z m n
        (λ lt. let same : m ≡ int_min m n = omega (arith, ints, clamps) in subst (HasClosing feed days ride) same (pickup_closes m first))
        (λ ge. let same : n ≡ int_min m n = omega (arith, ints, clamps) in subst (HasClosing feed days ride) same (drop_off_closes n second)),
    λ closing has. elim (a_closing (At m) (At n) closing first second has) [
      | inl e ↦ (let same : m ≡ closing = cc in omega (arith, ints, clamps))
      | inr e ↦ (let same : n ≡ closing = cc in omega (arith, ints, clamps))
    ],
  )
