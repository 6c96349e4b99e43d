-- The rides of a departure at the starts of its trip, start by start.
use Rattle.std.proofs.Common.{◌≡◌, ◌↔◌, inl, inr, ℕ, ◌+◌, ◌<◌, ◌≤◌, ℤ, pos, ◌+ℤ◌, ◌≤ℤ◌, Some, List, slice_get, refl, sym, ap, subst, arith}
use Rattle.std.proofs.lemmas.Bool.{cases_order}
use Rattle.std.proofs.lemmas.Int.{ints}
use Rattle.flex_model.specs.declared.feed.Feed.{Feed}
use Rattle.flex_model.specs.declared.moment.DayTable.{DayTable}
use Rattle.flex_model.specs.declared.ride.Ride.{Ride}
use Rattle.flex_model.specs.declared.times.Times.{Times}
use Rattle.flex_model.specs.declared.trip.Trip.{Trip}
use Rattle.flex_model.specs.Ride.{IsStart, RunsOn, StartsRightly, shift}
use Rattle.flex_model.specs.ServiceDay.{BeginsAt, IsTravelDay}
use Rattle.flex_model.specs.SoundFeed.{IsSoundFeed, IsSoundRepeat, IsSoundTrip}
use Rattle.flex_model.proofs.Certificates.{ride_forwards}
use Rattle.flex_model.proofs.Found.{All-at, index_of, slice_get_unique}
use Rattle.freq_trips.specs.Starts.{IsLeastFrom}
use Rattle.fixed_trips.specs.Timed.{MayRun}
use Rattle.ride_index.specs.Departures.{IsTimedDeparture}
use Rattle.ride_index.specs.TimedRides.{IsRideAtStart, IsRideBetween, IsRideWith}
use Rattle.ride_index.specs.declared.departure.Departure.{Departure}
use Rattle.ride_index.proofs.RideLists.{Gained, gained_both, gained_none, gained_same}
use Rattle.ride_index.proofs.StartedRides.{to_alighting}

module _ (feed : Feed) (days : DayTable) (departure : Departure) (day : ℤ) (from until : ℕ) (limit : ℤ) where
  -- the ride is at one of the starts before this one
  abbrev pub IsEarlyStart : ℕ → Times → Ride → Type 0
  IsEarlyStart least times ride = (w : IsRideBetween feed times days departure day from until limit ride) × (w.start < least)

  pub no_starts : (times : Times) (xs : List Ride) → Gained (IsEarlyStart from times) xs xs
  no_starts times xs = gained_none (IsEarlyStart from times) xs (λ x p. let low = p.0.low in let lt = p.1 in absurd (omega (arith, low, lt)))

  module _ (trip : Trip) (at : slice_get feed.trips departure.trip ≡ Some trip) where
    -- a ride's start is one of the trip's
    start_of : (times : Times) (start : ℕ) (ride : Ride) → IsRideWith feed times days departure day (Some start) limit ride → IsStart trip start
    start_of times start ride w =
        let p = w.permitted in
        let t : p.trip ≡ trip = slice_get_unique feed.trips departure.trip p.trip trip (subst (λ k. slice_get feed.trips k ≡ Some p.trip) w.of_trip p.of_trip) at in
        let so : StartsRightly trip (Some start) = subst (StartsRightly trip) w.starts_so (subst (λ x. StartsRightly x ride.start) t p.starts) in
        so.1

    -- the rides at the next start
    pub next_start : (least start : ℕ) (times : Times) (before found after : List Ride) → IsLeastFrom (IsStart trip) least (Some start) → from ≤ least → start < until
        → Gained (IsEarlyStart least times) before found → Gained (IsRideWith feed times days departure day (Some start) limit) found after
        → Gained (IsEarlyStart (start + 1) times) before after
    next_start least start times before found after next low high so_far new =
        gained_both (IsEarlyStart least times) (IsRideWith feed times days departure day (Some start) limit) (IsEarlyStart (start + 1) times) before found after so_far new
        (λ x. (
          λ h. elim h [
            | inl early ↦ (let lt = early.1 in let le = next.1 in (early.0, omega (arith, lt, le)))
            | inr w ↦ (let le = next.1 in (record { start = start; low = omega (arith, low, le); high = high; ride_with = w }, omega arith))
          ],
          λ h. elim (cases_order h.0.start start) [
            | inl e ↦ inr (subst (λ s. IsRideWith feed times days departure day (Some s) limit x) e h.0.ride_with)
            | inr (inl less) ↦ elim (cases_order h.0.start least) [
              | inl e ↦ absurd (let le = next.2 h.0.start (start_of times h.0.start x h.0.ride_with) (omega (arith, e)) in omega (arith, le, less))
              | inr (inl early) ↦ inl (h.0, early)
              | inr (inr late) ↦ absurd (let le = next.2 h.0.start (start_of times h.0.start x h.0.ride_with) (omega (arith, late)) in omega (arith, le, less))
            ]
            | inr (inr more) ↦ absurd (let lt = h.1 in omega (arith, lt, more))
          ],
        ))

    -- where no further start is before the end, all rides are there
    pub all_starts : (least : ℕ) (times : Times) (before after : List Ride) → ((start : ℕ) → IsStart trip start → least ≤ start → start < until → ⊥)
        → Gained (IsEarlyStart least times) before after → Gained (IsRideBetween feed times days departure day from until limit) before after
    all_starts least times before after none so_far =
        gained_same (IsEarlyStart least times) (IsRideBetween feed times days departure day from until limit) before after
        (λ x. (
          λ h. h.0,
          λ w. (
            w,
            elim (cases_order w.start least) [
              | inl e ↦ absurd (none w.start (start_of times w.start x w.ride_with) (omega (arith, e)) w.high)
              | inr (inl early) ↦ early
              | inr (inr late) ↦ absurd (none w.start (start_of times w.start x w.ride_with) (omega (arith, late)) w.high)
            ],
          ),
        ))
        so_far

-- starts of a trip are times of the day
start_is_low : (feed : Feed) (t : ℕ) (trip : Trip) (start : ℕ) → IsSoundFeed feed → slice_get feed.trips t ≡ Some trip → IsStart trip start → start < 604800
start_is_low feed t trip start sound at is =
    let s : IsSoundTrip feed trip = All-at (IsSoundTrip feed) feed.trips t trip sound.each_trip at in
    let found = index_of trip.repeats is.0 is.2 in
    let r : IsSoundRepeat is.0 = All-at IsSoundRepeat trip.repeats found.0 is.0 s.repeats found.1 in
    let lt = is.4 in
    let end = r.end in
    omega (arith, lt, end)

module _ (feed : Feed) (days : DayTable) (trip : Trip) (departure : Departure) (day base origin earliest limit : ℤ) (from until : ℕ)
    (sound : IsSoundFeed feed) (is : IsTimedDeparture feed trip departure) (begins : BeginsAt days day base)
    (counts : origin ≡ (base +ℤ shift trip (Some 0)) +ℤ pos departure.departs)
    (first : (time : ℕ) → time < 604800 → (from ≤ time) ↔ (earliest ≤ℤ (origin +ℤ pos time)))
    (last : (time : ℕ) → time < 604800 → (time < until) ↔ ((origin +ℤ pos time) ≤ℤ limit)) where
  -- when a ride at a start leaves
  leaves_then : (times : Times) (start : ℕ) (ride : Ride) → IsRideWith feed times days departure day (Some start) limit ride → (start < 604800) × (ride.departs ≡ origin +ℤ pos start)
  leaves_then times start ride w =
      let p = w.permitted in
      let t : p.trip ≡ trip = slice_get_unique feed.trips departure.trip p.trip trip (subst (λ k. slice_get feed.trips k ≡ Some p.trip) w.of_trip p.of_trip) is.of_trip in
      let so : StartsRightly trip (Some start) = subst (StartsRightly trip) w.starts_so (subst (λ x. StartsRightly x ride.start) t p.starts) in
      let run : MayRun feed days trip day (Some start) = record {
        on_travel_day = subst (λ d. IsTravelDay days d) w.on_day p.on_travel_day;
        runs = subst (λ d. RunsOn feed trip d) w.on_day (subst (λ x. RunsOn feed x ride.day) t p.runs);
        starts = so;
      } in
      let a = to_alighting feed days trip departure day base (base +ℤ shift trip (Some start)) limit (Some start) sound is begins refl run times ride w in
      let then : ride.departs ≡ (base +ℤ shift trip (Some start)) +ℤ pos departure.departs = ap (λ r. r.departs) a.alights.is in
      (start_is_low feed departure.trip trip start sound is.of_trip so.1, omega (arith, ints, then, counts))

  pub rides_at_starts : (times : Times) (before after : List Ride) → Gained (IsRideBetween feed times days departure day from until limit) before after
      → Gained (IsRideAtStart feed times days departure day earliest limit) before after
  rides_at_starts times before after =
      gained_same (IsRideBetween feed times days departure day from until limit) (IsRideAtStart feed times days departure day earliest limit) before after
      (λ x. (
        λ b.
            let then = leaves_then times b.start x b.ride_with in
            record { start = b.start; ride_with = b.ride_with; leaves = subst (λ m. earliest ≤ℤ m) (sym then.1) ((first b.start then.0).0 b.low) },
        λ s.
            let then = leaves_then times s.start x s.ride_with in
            let forwards = ride_forwards feed times days x sound s.ride_with.permitted in
            let by = s.ride_with.arrives in
            let at = then.1 in
            record {
              start = s.start;
              low = (first s.start then.0).1 (subst (λ m. earliest ≤ℤ m) then.1 s.leaves);
              high = (last s.start then.0).1 (omega (arith, ints, forwards, by, at));
              ride_with = s.ride_with;
            },
      ))
