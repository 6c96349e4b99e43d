-- Offers of rides from or to windows, travel day by travel day.
use Rattle.std.proofs.Common.{◌≡◌, inl, inr, ◌↔◌, ℕ, ◌+◌, ◌*◌, ◌≤◌, ℤ, pos, ◌+ℤ◌, ◌≤ℤ◌, ◌<ℤ◌, Some, List, slice_get, ap, subst, arith}
use Rattle.std.proofs.lemmas.Int.{by_lt_z, ints}
use Rattle.flex_model.specs.declared.moment.DayTable.{DayTable}
use Rattle.flex_model.specs.declared.moment.Deadline.{Deadline}
use Rattle.flex_model.specs.declared.ride.Ride.{Ride}
use Rattle.flex_model.specs.declared.trip.Row.{Row}
use Rattle.flex_model.specs.declared.trip.Timing.{Timing}
use Rattle.flex_model.specs.declared.trip.Timing.TheVariants as timing
use Rattle.flex_model.specs.declared.trip.Trip.{Trip}
use Rattle.flex_model.specs.Ride.{Leaves, RunsOn, shift}
use Rattle.flex_model.specs.ServiceDay.{BeginsAt, IsTravelDay}
use Rattle.flex_model.specs.SoundFeed.{IsSoundFeed}
use Rattle.flex_model.proofs.Certificates.{ride_forwards}
use Rattle.flex_model.proofs.DayLaws.{BeginsAt_unique}
use Rattle.flex_model.proofs.Found.{slice_get_unique}
use Rattle.service_days.specs.Running.{IsRunning}
use Rattle.ride_index.specs.declared.offered_run.OfferedRun.{OfferedRun}
use Rattle.ride_index.specs.declared.wanted.Wanted.{Wanted}
use Rattle.ride_index.specs.Legs.{BoardsAt, BoardsOn, IsWindowRide, RunsThen, first_second, last_second}
use Rattle.ride_index.specs.OfferedRuns.{GainsOffersOf}
use Rattle.ride_index.proofs.OfferLists.{gains_both, gains_same}
use Rattle.ride_index.proofs.WindowOffers.{no_start}

-- the trip with a number, where it runs
pub runs_then : (wanted : Wanted) (t : ℕ) (day : ℤ) (trip : Trip) → slice_get wanted.feed.now.trips t ≡ Some trip → IsRunning wanted.feed.now wanted.days.now trip day → RunsThen wanted t day
runs_then wanted t day trip at running = λ its of.
    subst (λ x. IsRunning wanted.feed.now wanted.days.now x day) (slice_get_unique wanted.feed.now.trips t trip its at of) running

module _ (wanted : Wanted) (t r : ℕ) where
  -- the ride boards at the record on the day
  abbrev pub IsOn : ℤ → Ride → Deadline → Type 0
  IsOn day ride deadline = IsWindowRide wanted ride deadline × BoardsOn t r day ride

  -- where the trip doesn't run, no ride is wanted
  pub none_not_running : (day : ℤ) (trip : Trip) → slice_get wanted.feed.now.trips t ≡ Some trip → (IsRunning wanted.feed.now wanted.days.now trip day → ⊥)
      → (ride : Ride) (deadline : Deadline) → IsOn day ride deadline → ⊥
  none_not_running day trip at never ride deadline h =
      let p = h.0.0.permitted in
      let on = h.1.1 in
      let same : p.trip ≡ trip = slice_get_unique wanted.feed.now.trips t p.trip trip (subst (λ k. slice_get wanted.feed.now.trips k ≡ Some p.trip) h.1.0.0 p.of_trip) at in
      never (record {
        on_travel_day = subst (IsTravelDay wanted.days.now) on p.on_travel_day;
        runs = subst (λ d. RunsOn wanted.feed.now trip d) on (subst (λ x. RunsOn wanted.feed.now x ride.day) same p.runs);
      })

  module _ (first : ℤ) (travel : (day : ℤ) → IsTravelDay wanted.days.now day ↔ ((first ≤ℤ day) × (day ≤ℤ (first +ℤ pos 21)))) where
    abbrev pub IsEarlyDay : ℕ → Ride → Deadline → Type 0
    IsEarlyDay n ride deadline = (IsWindowRide wanted ride deadline × BoardsAt t r ride) × (ride.day <ℤ (first +ℤ pos n))

    pub no_day : (ride : Ride) (deadline : Deadline) → IsEarlyDay 0 ride deadline → ⊥
    no_day ride deadline h =
        let on = (travel ride.day).0 h.0.0.0.permitted.on_travel_day in
        let low = on.0 in
        let lt = h.1 in
        omega (arith, ints, low, lt)

    pub next_day : (n : ℕ) (day : ℤ) (before found after : List OfferedRun) → day ≡ first +ℤ pos n → GainsOffersOf (IsEarlyDay n) before found
        → GainsOffersOf (IsOn day) found after → GainsOffersOf (IsEarlyDay (n + 1)) before after
    next_day n day before found after is so_far new =
        gains_both (IsEarlyDay n) (IsOn day) (IsEarlyDay (n + 1)) before found after so_far new
        (λ x d. (
          λ h. elim h [
            | inl p ↦ (let lt = p.1 in (p.0, omega (arith, ints, lt)))
            | inr here ↦ (let on = here.1.1 in ((here.0, here.1.0), omega (arith, ints, on, is)))
          ],
          λ p. by_lt_z x.day (first +ℤ pos n) (λ lt. inl (p.0, lt)) (λ ge.
              let lt = p.1 in
              let on : x.day ≡ day = omega (arith, ints, ge, lt, is) in
              inr (p.0.0, (p.0.1, on))),
        ))

    pub all_days : (n : ℕ) (before after : List OfferedRun) → 22 ≤ n → GainsOffersOf (IsEarlyDay n) before after
        → GainsOffersOf (λ ride deadline. IsWindowRide wanted ride deadline × BoardsAt t r ride) before after
    all_days n before after size so_far =
        gains_same (IsEarlyDay n) (λ ride deadline. IsWindowRide wanted ride deadline × BoardsAt t r ride) before after
        (λ x d. (
          λ p. p.0,
          λ s.
              let on = (travel x.day).0 s.0.0.permitted.on_travel_day in
              let high = on.1 in
              (s, omega (arith, ints, high, size)),
        ))
        so_far

-- ---- the days on which one may leave in time

leaves_second : (days : DayTable) (ride : Ride) (day base by : ℤ) (t : Timing) → by ≡ pos 0 → ride.day ≡ day → BeginsAt days day base → Leaves days ride by t
    → (second : ℕ) × (first_second t ≤ second) × (second ≤ last_second t) × (ride.departs ≡ base +ℤ pos second)
leaves_second days ride day base by (timing.Times arrives departs) none on begins h =
    let same : h.1.0 ≡ base = BeginsAt_unique days day h.1.0 base (subst (λ d. BeginsAt days d h.1.0) on h.1.1) begins in
    let scheduled : h.0 ≡ h.1.0 +ℤ pos departs = h.1.2 in
    let then : ride.departs ≡ h.0 +ℤ by = h.2 in
    (departs, omega arith, omega arith, omega (arith, ints, same, scheduled, then, none))
leaves_second days ride day base by (timing.Window start end) none on begins h =
    let same : h.3.0 ≡ base = BeginsAt_unique days day h.3.0 base (subst (λ d. BeginsAt days d h.3.0) on h.3.1) begins in
    let then : ride.departs ≡ h.3.0 +ℤ pos (60 * h.0) = h.3.2 in
    (60 * h.0, h.1, h.2, omega (arith, ints, same, then))

pub none_leaving : (wanted : Wanted) (t r : ℕ) (day base : ℤ) (trip : Trip) (row : Row) → IsSoundFeed wanted.feed.now
    → slice_get wanted.feed.now.trips t ≡ Some trip → slice_get trip.rows r ≡ Some row → BeginsAt wanted.days.now day base
    → ((wanted.earliest ≤ℤ (base +ℤ pos (last_second row.timing))) × ((base +ℤ pos (first_second row.timing)) ≤ℤ wanted.limit) → ⊥)
    → (ride : Ride) (deadline : Deadline) → IsOn wanted t r day ride deadline → ⊥
none_leaving wanted t r day base trip row sound at at_row begins never ride deadline h =
    let feed = wanted.feed.now in
    let p = h.0.0.permitted in
    let start = no_start feed wanted.times.now wanted.days.now ride p h.0.1 in
    let same : p.trip ≡ trip = slice_get_unique feed.trips t p.trip trip (subst (λ k. slice_get feed.trips k ≡ Some p.trip) h.1.0.0 p.of_trip) at in
    let b : p.boarding ≡ row = slice_get_unique trip.rows r p.boarding row (subst (λ k. slice_get trip.rows k ≡ Some p.boarding) h.1.0.1 (subst (λ x. slice_get x.rows ride.from_row ≡ Some p.boarding) same p.at_boarding)) at_row in
    let l = leaves_second wanted.days.now ride day base (shift p.trip ride.start) row.timing (ap (shift p.trip) start) h.1.1 begins (subst (λ x. Leaves wanted.days.now ride (shift p.trip ride.start) x.timing) b p.leaves) in
    let low = l.1 in
    let high = l.2 in
    let then = l.3 in
    let forwards = ride_forwards feed wanted.times.now wanted.days.now ride sound p in
    let early = h.0.0.leaves in
    let late = h.0.0.arrives in
    never (omega (arith, ints, high, then, early), omega (arith, ints, low, then, forwards, late))
