-- Closings and openings under a notice and under a rule.
use Rattle.std.proofs.Common.{◌≡◌, ◌↔◌, inl, inr, ℕ, ℤ, ◌≤ℤ◌, Option, Some, None, refl, sym, ◌∙◌, ap, subst, arith, pos, ◌+ℤ◌, ◌*◌}
use Rattle.std.proofs.lemmas.Int.{ints}
use Rattle.std.proofs.lemmas.Option.{none-some, same_Some}
use Rattle.std.specs.Int.{int_min}
use Rattle.std.specs.Option.{option_map}
use Rattle.flex_model.specs.declared.booking.Notice.{Notice}
use Rattle.flex_model.specs.declared.booking.Notice.TheVariants.{RealTime, Ahead, Days}
use Rattle.flex_model.specs.declared.booking.Prior.{Prior}
use Rattle.flex_model.specs.declared.booking.SameDay.{SameDay}
use Rattle.flex_model.specs.declared.booking.SameDay.TheVariants.{Greatest, Start}
use Rattle.flex_model.specs.declared.booking.SameDay.TheVariants as same_day
use Rattle.flex_model.specs.declared.feed.Feed.{Feed}
use Rattle.flex_model.specs.declared.moment.DayTable.{DayTable}
use Rattle.flex_model.specs.Booking.{Closes, ClosesAt, IsAlwaysOpen, IsNoticeOf, OpensAt, OpensBy}
use Rattle.flex_model.specs.ServiceDay.{IsBack, IsMoment}
use Rattle.flex_model.proofs.Bookings.{IsNoticeOf_unique}
use Rattle.flex_model.proofs.DayLaws.{IsBack_unique, IsMoment_unique}
use Rattle.booking_rules.specs.declared.opens.Opening.{Opening}
use Rattle.booking_rules.specs.declared.opens.Opening.TheVariants.{Always, From, Never}
use Rattle.booking_rules.specs.Openings.{IsMomentBack, IsOpening, Opens, OpensBefore, opening_at}

-- the moment of the day that was counted back
pub back_moment : (feed : Feed) (days : DayTable) (service : Option ℕ) (day : ℤ) (prior : Prior) (back : Option ℤ) (earlier : ℤ) (moment : Option ℤ)
    → ((e : ℤ) → IsBack feed service day prior.days e ↔ (back ≡ Some e)) → back ≡ Some earlier → ((m : ℤ) → IsMoment days earlier prior.time m ↔ (moment ≡ Some m))
    → (m : ℤ) → IsMomentBack feed days service day prior m ↔ (moment ≡ Some m)
back_moment feed days service day prior back earlier moment backs is moments m = (
  λ p.
      let same : p.0 ≡ earlier = same_Some p.0 earlier (sym ((backs p.0).0 p.1) ∙ is) in
      (moments m).0 (subst (λ d. IsMoment days d prior.time m) same p.2),
  λ e. (earlier, (backs earlier).1 is, (moments m).1 e),
)

module _ (feed : Feed) (days : DayTable) (day departs : ℤ) where
  -- a booking closes at the time of an earlier day, or at the departure where that comes first
  pub days_close : (last : Prior) (first : Option Prior) (service : Option ℕ) (moment : Option ℤ) → ((m : ℤ) → IsMomentBack feed days service day last m ↔ (moment ≡ Some m))
      → (closing : ℤ) → Closes feed days (Days last first service) day departs closing ↔ (option_map (λ m. int_min departs m) moment ≡ Some closing)
  days_close last first service None moments closing = (λ p. absurd (none-some p.1 ((moments p.1).0 (p.0, p.2, p.3))), λ e. absurd (none-some closing e))
  days_close last first service (Some m) moments closing = (
    λ p.
        let same : m ≡ p.1 = same_Some m p.1 ((moments p.1).0 (p.0, p.2, p.3)) in
        ap Some (ap (λ x. int_min departs x) same ∙ sym p.4),
    λ e. (let b = (moments m).1 refl in (b.0, m, b.1, b.2, sym (same_Some (int_min departs m) closing e))),
  )

  -- a booking closes so many minutes before the departure
  pub minutes_close : (least : ℕ) (opens : SameDay) (at : ℤ) → at +ℤ pos (60 * least) ≡ departs → (closing : ℤ) → Closes feed days (Ahead least opens) day departs closing ↔ (Some at ≡ Some closing)
  minutes_close least opens at is closing = (
    λ p. (let e : closing +ℤ pos (60 * least) ≡ departs = p in let same : at ≡ closing = omega (arith, ints) in ap Some same),
    λ e. subst (λ c. c +ℤ pos (60 * least) ≡ departs) (same_Some at closing e) is,
  )

  pub closing_by : (rule : Option ℕ) (notice : Notice) (closing : Option ℤ) → IsNoticeOf feed rule notice → ((c : ℤ) → Closes feed days notice day departs c ↔ (closing ≡ Some c))
      → (c : ℤ) → ClosesAt feed days rule day departs c ↔ (closing ≡ Some c)
  closing_by rule notice closing of closes c = (
    λ p. (closes c).0 (subst (λ n. Closes feed days n day departs c) (IsNoticeOf_unique feed rule p.0 notice p.1 of) p.2),
    λ e. (notice, of, (closes c).1 e),
  )

  -- a booking opens at the time of an earlier day
  pub days_open : (last first : Prior) (service : Option ℕ) (moment : Option ℤ) → ((m : ℤ) → IsMomentBack feed days service day first m ↔ (moment ≡ Some m))
      → Opens feed days (Days last (Some first) service) day departs (opening_at moment)
  days_open last first service None moments = (λ a. a, λ opening p. none-some opening ((moments opening).0 p))
  days_open last first service (Some m) moments = (moments m).1 refl

  pub start_opens : (least : ℕ) (prior : Prior) (moment : Option ℤ) → ((m : ℤ) → IsMomentBack feed days None day prior m ↔ (moment ≡ Some m))
      → Opens feed days (Ahead least (Start prior)) day departs (opening_at moment)
  start_opens least prior None moments = (λ a. a, λ opening p. none-some opening ((moments opening).0 p))
  start_opens least prior (Some m) moments = (moments m).1 refl

  -- what is always open has no opening
  not_both : (notice : Notice) (opening : ℤ) → IsAlwaysOpen notice → OpensAt feed days notice day departs opening → ⊥
  not_both RealTime opening always at = at
  not_both (Ahead least same_day.Always) opening always at = at
  not_both (Ahead least (Greatest minutes)) opening always at = always
  not_both (Ahead least (Start prior)) opening always at = always
  not_both (Days last None service) opening always at = at
  not_both (Days last (Some first) service) opening always at = always

  OpensAt_unique : (notice : Notice) (a b : ℤ) → OpensAt feed days notice day departs a → OpensAt feed days notice day departs b → a ≡ b
  OpensAt_unique RealTime a b p q = absurd p
  OpensAt_unique (Ahead least same_day.Always) a b p q = absurd p
  OpensAt_unique (Ahead least (Greatest minutes)) a b p q = omega (arith, ints)
  OpensAt_unique (Ahead least (Start prior)) a b p q =
      let same = IsBack_unique feed None day prior.days p.0 q.0 p.1 q.1 in
      IsMoment_unique days q.0 prior.time a b (subst (λ d. IsMoment days d prior.time a) same p.2) q.2
  OpensAt_unique (Days last None service) a b p q = absurd p
  OpensAt_unique (Days last (Some first) service) a b p q =
      let same = IsBack_unique feed service day first.days p.0 q.0 p.1 q.1 in
      IsMoment_unique days q.0 first.time a b (subst (λ d. IsMoment days d first.time a) same p.2) q.2

  -- a booking under a notice opens in one way
  Opens_unique : (notice : Notice) (a b : Opening) → Opens feed days notice day departs a → Opens feed days notice day departs b → a ≡ b
  Opens_unique notice Always Always p q = refl
  Opens_unique notice Always (From m) p q = absurd (not_both notice m p q)
  Opens_unique notice Always Never p q = absurd (q.0 p)
  Opens_unique notice (From m) Always p q = absurd (not_both notice m q p)
  Opens_unique notice (From m) (From n) p q = ap From (OpensAt_unique notice m n p q)
  Opens_unique notice (From m) Never p q = absurd (q.1 m p)
  Opens_unique notice Never Always p q = absurd (p.0 q)
  Opens_unique notice Never (From n) p q = absurd (p.1 n q)
  Opens_unique notice Never Never p q = refl

  pub opening_by : (rule : Option ℕ) (notice : Notice) (opening : Opening) → IsNoticeOf feed rule notice → Opens feed days notice day departs opening
      → (o : Opening) → IsOpening feed days rule day departs o ↔ (opening ≡ o)
  opening_by rule notice opening of opens o = (
    λ p. Opens_unique notice opening o opens (subst (λ n. Opens feed days n day departs o) (IsNoticeOf_unique feed rule p.0 notice p.1 of) p.2),
    λ e. (notice, of, subst (Opens feed days notice day departs) e opens),
  )

  -- the booking has opened by the moment just where its opening isn't after it
  pub opens_before : (notice : Notice) (opening : Opening) (moment : ℤ) → Opens feed days notice day departs opening → OpensBy feed days notice day departs moment ↔ OpensBefore opening moment
  opens_before notice Always moment opens = (λ h. tt, λ u. inl opens)
  opens_before notice (From m) moment opens = (
    λ h. elim h [
      | inl always ↦ absurd (not_both notice m always opens)
      | inr at ↦ subst (λ z. z ≤ℤ moment) (OpensAt_unique notice at.0 m at.1 opens) at.2
    ],
    λ le. inr (m, opens, le),
  )
  opens_before notice Never moment opens = (λ h. elim h [ inl always ↦ opens.0 always | inr at ↦ opens.1 at.0 at.1 ], λ no_. absurd no_)
