-- The timing of rides by the seconds of their day, where its begin and their direct time were looked up.
use Rattle.std.proofs.Common.{◌≡◌, ◌↔◌, ℕ, ◌+◌, ◌*◌, ◌<◌, ◌≤◌, ℤ, pos, ◌+ℤ◌, ◌≤ℤ◌, Option, Some, None, refl, sym, ◌∙◌, subst, arith}
use Rattle.std.proofs.lemmas.Int.{ints}
use Rattle.std.proofs.lemmas.Option.{none-some, same_Some}
use Rattle.flex_model.specs.declared.moment.DayTable.{DayTable}
use Rattle.flex_model.specs.declared.ride.Ride.{Ride}
use Rattle.flex_model.specs.declared.ride.Run.{Run}
use Rattle.flex_model.specs.declared.times.Times.{Times}
use Rattle.flex_model.specs.declared.trip.Timing.{Timing}
use Rattle.flex_model.specs.declared.trip.Timing.TheVariants as timing
use Rattle.flex_model.specs.Ride.{HasTimes}
use Rattle.flex_model.specs.Run.{IsArrival, IsInRun}
use Rattle.flex_model.specs.ServiceDay.{BeginsAt}
use Rattle.flex_model.specs.Times.{HasSeconds}
use Rattle.flex_model.proofs.DayLaws.{BeginsAt_unique}
use Rattle.flex_trips.specs.declared.departures.Departures.{Departures}
use Rattle.flex_trips.specs.Windows.{HasTiming, IsAmong, IsDeparture, arrival_of}

-- a ride of so many seconds, on a day that begins then, leaves at a second of the day at which it may
abbrev pub IsRideOfDay : ℤ → ℕ → Timing → Timing → ℤ → ℤ → Type 0
IsRideOfDay base seconds boarding alighting departs arrives =
    (second : ℕ) × IsDeparture seconds boarding alighting second × (departs ≡ base +ℤ pos second)
    × IsArrival (arrival_of base seconds alighting) departs arrives

-- the run of the departures has just these rides
pub in_run : (base : ℤ) (seconds : ℕ) (boarding alighting : Timing) (departs arrives : ℤ) (departures : Departures) → ((second : ℕ) → IsAmong (Some departures) second ↔ IsDeparture seconds boarding alighting second)
    → (run : Run) → run.first ≡ base +ℤ pos departures.first → run.count ≡ departures.count → run.arrives ≡ arrival_of base seconds alighting
    → IsInRun run departs arrives ↔ IsRideOfDay base seconds boarding alighting departs arrives
in_run base seconds boarding alighting departs arrives departures among run first count arrival = (
  λ h.
      let few : h.0 < run.count = h.1 in
      let leaves : departs ≡ run.first +ℤ pos (60 * h.0) = h.2 in
      (departures.first + 60 * h.0, (among (departures.first + 60 * h.0)).0 (h.0, omega (arith, few, count), refl), omega (arith, ints, leaves, first), subst (λ a. IsArrival a departs arrives) arrival h.3),
  λ h.
      let k = (among h.0).1 h.1 in
      let few : k.0 < departures.count = k.1 in
      let is : h.0 ≡ departures.first + 60 * k.0 = k.2 in
      let leaves : departs ≡ base +ℤ pos h.0 = h.2 in
      (k.0, omega (arith, few, count), omega (arith, ints, leaves, first, is), subst (λ a. IsArrival a departs arrives) (sym arrival) h.3),
)

module _ (times : Times) (days : DayTable) (ride : Ride) where
  -- on a day whose begin isn't found there is no ride
  pub no_begin : (boarding alighting : Timing) (day : Option ℤ) → ((b : ℤ) → BeginsAt days ride.day b ↔ (day ≡ Some b)) → day ≡ None → HasTiming times days ride boarding alighting → ⊥
  no_begin (timing.Times a d) alighting day begins none h = let at = h.0.1 in none-some at.0 (sym none ∙ (begins at.0).0 at.1)
  no_begin (timing.Window s e) alighting day begins none h = let at = h.0.3 in none-some at.0 (sym none ∙ (begins at.0).0 at.1)

  -- `found` is what was looked up of the direct time
  module _ (found : Option ℕ) (takes : (s : ℕ) → HasSeconds times.direct ride.board ride.alight s ↔ (found ≡ Some s)) where
    -- without one there is no ride from or to a window
    pub no_direct : (boarding alighting : Timing) → (HasTimes boarding × HasTimes alighting → ⊥) → found ≡ None → HasTiming times days ride boarding alighting → ⊥
    no_direct (timing.Times a d) (timing.Times a' d') window none h = window (tt, tt)
    no_direct (timing.Times a d) (timing.Window s' e') window none h = let its = h.1.0 in none-some its.0 (sym none ∙ (takes its.0).0 its.1)
    no_direct (timing.Window s e) (timing.Times a' d') window none h = let its = h.1.0 in none-some its.0 (sym none ∙ (takes its.0).0 its.1)
    no_direct (timing.Window s e) (timing.Window s' e') window none h = let its = h.1.0 in none-some its.0 (sym none ∙ (takes its.0).0 its.1)

    module _ (base : ℤ) (at_base : BeginsAt days ride.day base) (seconds : ℕ) (is_seconds : found ≡ Some seconds) where
      same_base : (b : ℤ) → BeginsAt days ride.day b → b ≡ base
      same_base b at = BeginsAt_unique days ride.day b base at at_base

      same_seconds : (s : ℕ) → HasSeconds times.direct ride.board ride.alight s → s ≡ seconds
      same_seconds s has = same_Some s seconds (sym ((takes s).0 has) ∙ is_seconds)

      has_seconds : HasSeconds times.direct ride.board ride.alight seconds
      has_seconds = (takes seconds).1 is_seconds

      -- the timing is right just where the ride leaves at a second of the day at which it may
      pub timed : (boarding alighting : Timing) → (HasTimes boarding × HasTimes alighting → ⊥) → HasTiming times days ride boarding alighting ↔ IsRideOfDay base seconds boarding alighting ride.departs ride.arrives
      timed (timing.Times a d) (timing.Times a' d') window = absurd (window (tt, tt))
      timed (timing.Times a d) (timing.Window s' e') window = (
        λ h.
            let b = same_base h.0.1.0 h.0.1.1 in
            let scheduled : h.0.0 ≡ h.0.1.0 +ℤ pos d = h.0.1.2 in
            let leaves : ride.departs ≡ h.0.0 +ℤ pos 0 = h.0.2 in
            let t = same_seconds h.1.0.0 h.1.0.1 in
            let lands : ride.arrives ≡ ride.departs +ℤ pos h.1.0.0 = h.1.0.2 in
            let b1 = same_base h.1.1.2.0 h.1.1.2.1 in
            let b2 = same_base h.1.1.3.0 h.1.1.3.1 in
            let m1 : h.1.1.0 ≡ h.1.1.2.0 +ℤ pos s' = h.1.1.2.2 in
            let m2 : h.1.1.1 ≡ h.1.1.3.0 +ℤ pos e' = h.1.1.3.2 in
            let low : h.1.1.0 ≤ℤ ride.arrives = h.1.1.4 in
            let high : ride.arrives ≤ℤ h.1.1.1 = h.1.1.5 in
            (d, (refl, omega (arith, ints, b, scheduled, leaves, t, lands, b1, m1, low), omega (arith, ints, b, scheduled, leaves, t, lands, b2, m2, high)), omega (arith, ints, b, scheduled, leaves), omega (arith, ints, t, lands)),
        λ h.
            let is : h.0 ≡ d = h.1.0 in
            let low : s' ≤ h.0 + seconds = h.1.1 in
            let high : h.0 + seconds ≤ e' = h.1.2 in
            let leaves : ride.departs ≡ base +ℤ pos h.0 = h.2 in
            let lands : ride.arrives ≡ ride.departs +ℤ pos seconds = h.3 in
            ((base +ℤ pos d, (base, at_base, refl), omega (arith, ints, is, leaves)), ((seconds, has_seconds, lands), (base +ℤ pos s', base +ℤ pos e', (base, at_base, refl), (base, at_base, refl), omega (arith, ints, low, leaves, lands), omega (arith, ints, high, leaves, lands)))),
      )
      timed (timing.Window s e) (timing.Times a' d') window = (
        λ h.
            let b = same_base h.0.3.0 h.0.3.1 in
            let leaves : ride.departs ≡ h.0.3.0 +ℤ pos (60 * h.0.0) = h.0.3.2 in
            let t = same_seconds h.1.0.0 h.1.0.1 in
            let fits : (ride.departs +ℤ pos h.1.0.0) ≤ℤ ride.arrives = h.1.0.2 in
            let b1 = same_base h.1.1.1.0 h.1.1.1.1 in
            let scheduled : h.1.1.0 ≡ h.1.1.1.0 +ℤ pos a' = h.1.1.1.2 in
            let lands : ride.arrives ≡ h.1.1.0 +ℤ pos 0 = h.1.1.2 in
            (60 * h.0.0, (((h.0.0, refl), h.0.1, h.0.2), omega arith, omega (arith, ints, b, leaves, t, fits, b1, scheduled, lands)), omega (arith, ints, b, leaves), omega (arith, ints, b1, scheduled, lands)),
        λ h.
            let is : h.0 ≡ 60 * h.1.0.0.0 = h.1.0.0.1 in
            let from : s ≤ h.0 = h.1.0.1 in
            let to : h.0 ≤ e = h.1.0.2 in
            let high : h.0 + seconds ≤ a' = h.1.2 in
            let leaves : ride.departs ≡ base +ℤ pos h.0 = h.2 in
            let lands : ride.arrives ≡ base +ℤ pos a' = h.3 in
            ((h.1.0.0.0, omega (arith, is, from), omega (arith, is, to), (base, at_base, omega (arith, ints, is, leaves))), ((seconds, has_seconds, omega (arith, ints, high, leaves, lands)), (base +ℤ pos a', (base, at_base, refl), omega (arith, ints, lands)))),
      )
      timed (timing.Window s e) (timing.Window s' e') window = (
        λ h.
            let b = same_base h.0.3.0 h.0.3.1 in
            let leaves : ride.departs ≡ h.0.3.0 +ℤ pos (60 * h.0.0) = h.0.3.2 in
            let t = same_seconds h.1.0.0 h.1.0.1 in
            let lands : ride.arrives ≡ ride.departs +ℤ pos h.1.0.0 = h.1.0.2 in
            let b1 = same_base h.1.1.2.0 h.1.1.2.1 in
            let b2 = same_base h.1.1.3.0 h.1.1.3.1 in
            let m1 : h.1.1.0 ≡ h.1.1.2.0 +ℤ pos s' = h.1.1.2.2 in
            let m2 : h.1.1.1 ≡ h.1.1.3.0 +ℤ pos e' = h.1.1.3.2 in
            let low : h.1.1.0 ≤ℤ ride.arrives = h.1.1.4 in
            let high : ride.arrives ≤ℤ h.1.1.1 = h.1.1.5 in
            (60 * h.0.0, (((h.0.0, refl), h.0.1, h.0.2), omega (arith, ints, b, leaves, t, lands, b1, m1, low), omega (arith, ints, b, leaves, t, lands, b2, m2, high)), omega (arith, ints, b, leaves), omega (arith, ints, t, lands)),
        λ h.
            let is : h.0 ≡ 60 * h.1.0.0.0 = h.1.0.0.1 in
            let from : s ≤ h.0 = h.1.0.1 in
            let to : h.0 ≤ e = h.1.0.2 in
            let low : s' ≤ h.0 + seconds = h.1.1 in
            let high : h.0 + seconds ≤ e' = h.1.2 in
            let leaves : ride.departs ≡ base +ℤ pos h.0 = h.2 in
            let lands : ride.arrives ≡ ride.departs +ℤ pos seconds = h.3 in
            ((h.1.0.0.0, omega (arith, is, from), omega (arith, is, to), (base, at_base, omega (arith, ints, is, leaves))), ((seconds, has_seconds, lands), (base +ℤ pos s', base +ℤ pos e', (base, at_base, refl), (base, at_base, refl), omega (arith, ints, low, leaves, lands), omega (arith, ints, high, leaves, lands)))),
      )
