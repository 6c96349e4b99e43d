-- The rides from a stop, by its departures of each travel day.
use Rattle.std.proofs.Common.{◌≡◌, ◌↔◌, ◌⊎◌, inl, inr, ℕ, ◌+◌, ◌<◌, ◌≤◌, ℤ, pos, ◌+ℤ◌, ◌≤ℤ◌, ◌<ℤ◌, Option, None, Some, List, [], Contains, length, slice_get, refl, sym, ◌∙◌, ap, subst, arith}
use Rattle.std.proofs.lemmas.Bool.{cases_order}
use Rattle.std.proofs.lemmas.Int.{by_lt_z, ints}
use Rattle.std.proofs.lemmas.Option.{slice_get_within}
use Rattle.flex_model.specs.declared.feed.Feed.{Feed}
use Rattle.flex_model.specs.declared.moment.DayTable.{DayTable}
use Rattle.flex_model.specs.declared.place.Place.{Place}
use Rattle.flex_model.specs.declared.place.Place.TheVariants as place
use Rattle.flex_model.specs.declared.ride.Ride.{Ride}
use Rattle.flex_model.specs.declared.times.Times.{Times}
use Rattle.flex_model.specs.declared.trip.Row.{Row}
use Rattle.flex_model.specs.declared.trip.Spot.TheVariants as spot
use Rattle.flex_model.specs.declared.trip.Timing.TheVariants as timing
use Rattle.flex_model.specs.declared.trip.Trip.{Trip}
use Rattle.flex_model.specs.Place.{Serves}
use Rattle.flex_model.specs.Ride.{HasTimes, IsShiftedMoment, Leaves, StartsRightly, shift}
use Rattle.flex_model.specs.ServiceDay.{BeginsAt, IsTravelDay}
use Rattle.flex_model.specs.SoundFeed.{IsSoundFeed, IsSoundRow, IsSoundTiming, IsSoundTrip}
use Rattle.flex_model.proofs.Certificates.{ride_forwards}
use Rattle.flex_model.proofs.Found.{All-at, Contains-at, index_of, none_contained, slice_get_unique}
use Rattle.fixed_trips.specs.Timed.{HasTimedRow}
use Rattle.fixed_trips.proofs.Legs.{IsShiftedMoment_unique, names_stop}
use Rattle.ride_index.specs.Departures.{HasDepartures, IsAmong, IsTimedDeparture, IsWithin, RunsSo}
use Rattle.ride_index.specs.TimedRides.{IsRideAtStart, IsRideWith, IsTimedRide}
use Rattle.ride_index.specs.declared.departure.Departure.{Departure}
use Rattle.ride_index.specs.declared.departure.DepartureKind.TheVariants.{AtStarts, Once}
use Rattle.ride_index.specs.Boarded.{GainsBut}
use Rattle.ride_index.proofs.NeededRides.{but_both, but_gained, but_none, but_same}
use Rattle.ride_index.proofs.RideLists.{Gained, gained_both, gained_none, gained_same}
use Rattle.ride_index.proofs.StartedRides.{timed_of_once, timed_of_started, times_of}

-- a time of a record of a sound feed is below 168 hours
time_is_low : (feed : Feed) (t r arrives departs : ℕ) (trip : Trip) (row : Row) → IsSoundFeed feed → slice_get feed.trips t ≡ Some trip → slice_get trip.rows r ≡ Some row
    → row.timing ≡ timing.Times arrives departs → departs < 604800
time_is_low feed t r arrives departs trip row sound of_trip at_row is =
    let sound_trip : IsSoundTrip feed trip = All-at (IsSoundTrip feed) feed.trips t trip sound.each_trip of_trip in
    let sound_row : IsSoundRow feed row = All-at (IsSoundRow feed) trip.rows r row sound_trip.rows at_row in
    let s = subst (IsSoundTiming row.spot) is sound_row.timing in
    s.2

-- the departure with which a ride leaves a stop
pub record LeavesWith (feed : Feed) (days : DayTable) (ride : Ride) (stop : ℕ) (departure : Departure) (trip : Trip) : Type 0 where
  pub of : IsTimedDeparture feed trip departure
  pub at_stop : departure.named ≡ stop
  pub of_trip : ride.trip ≡ departure.trip
  pub boards : ride.from_row ≡ departure.row
  pub low : departure.departs < 604800
  pub leaves : IsShiftedMoment days ride.day (shift trip ride.start) departure.departs ride.departs
  pub starts : StartsRightly trip ride.start

number : Place → ℕ
number (place.Stop s) = s
number (place.Point p) = p

module _ (feed : Feed) (times : Times) (days : DayTable) (sound : IsSoundFeed feed) where
  pub leaves_with : (stop : ℕ) (earliest limit : ℤ) (ride : Ride) → IsTimedRide feed times days stop earliest limit ride
      → (departure : Departure) × (trip : Trip) × LeavesWith feed days ride stop departure trip
  leaves_with stop earliest limit ride s =
      let p = s.permitted in
      let h = s.boards in
      let one : h.0 ≡ p.trip = slice_get_unique feed.trips ride.trip h.0 p.trip h.2 p.of_trip in
      let same : h.1 ≡ p.boarding = slice_get_unique p.trip.rows ride.from_row h.1 p.boarding (subst (λ x. slice_get x.rows ride.from_row ≡ Some h.1) one h.3) p.at_boarding in
      let timed = subst (λ r. HasTimes r.timing) same h.4 in
      let then = times_of p.boarding.timing timed in
      let named = names_stop feed ride.trip ride.from_row p.trip p.boarding sound (record { of_trip = p.of_trip; at_row = p.at_boarding; timed = timed }) in
      let board : ride.board ≡ place.Stop named.0 = subst (λ x. Serves feed times x ride.board) named.1 p.boards in
      let at : place.Stop named.0 ≡ place.Stop stop = sym board ∙ s.at_stop in
      let at_stop : named.0 ≡ stop = cc in (
        record { named = stop; departs = then.1; trip = ride.trip; row = ride.from_row },
        p.trip,
        record {
          of = record { of_trip = p.of_trip; row = p.boarding; at_row = p.at_boarding; at_stop = named.1 ∙ ap spot.Stop at_stop; timed = (then.0, then.2); picks_up = p.picks_up };
          at_stop = refl;
          of_trip = refl;
          boards = refl;
          low = time_is_low feed ride.trip ride.from_row then.0 then.1 p.trip p.boarding sound p.of_trip p.at_boarding then.2;
          leaves = subst (Leaves days ride (shift p.trip ride.start)) then.2 p.leaves;
          starts = p.starts;
        },
      )

  -- the same for a ride of a departure
  pub of_departure : (departure : Departure) (trip : Trip) (day : ℤ) (start : Option ℕ) (limit : ℤ) (ride : Ride) → IsTimedDeparture feed trip departure
      → IsRideWith feed times days departure day start limit ride → LeavesWith feed days ride departure.named departure trip × (ride.board ≡ place.Stop departure.named) × HasTimedRow feed ride.trip ride.from_row
  of_departure departure trip day start limit ride is g =
      let p = g.permitted in
      let b = is in
      let t : slice_get feed.trips departure.trip ≡ Some p.trip = subst (λ k. slice_get feed.trips k ≡ Some p.trip) g.of_trip p.of_trip in
      let one : p.trip ≡ trip = slice_get_unique feed.trips departure.trip p.trip trip t is.of_trip in
      let r : slice_get trip.rows departure.row ≡ Some p.boarding = subst (λ k. slice_get trip.rows k ≡ Some p.boarding) g.boards (subst (λ x. slice_get x.rows ride.from_row ≡ Some p.boarding) one p.at_boarding) in
      let same : p.boarding ≡ is.row = slice_get_unique trip.rows departure.row p.boarding is.row r is.at_row in
      let at_stop : p.boarding.spot ≡ spot.Stop departure.named = ap (λ x. x.spot) same ∙ b.at_stop in
      let timed : p.boarding.timing ≡ timing.Times b.timed.0 departure.departs = ap (λ x. x.timing) same ∙ b.timed.1 in
      let has : HasTimes p.boarding.timing = subst HasTimes (sym timed) tt in (
        record {
          of = is;
          at_stop = refl;
          of_trip = g.of_trip;
          boards = g.boards;
          low = time_is_low feed departure.trip departure.row b.timed.0 departure.departs trip is.row sound is.of_trip is.at_row b.timed.1;
          leaves = subst (λ x. IsShiftedMoment days ride.day (shift x ride.start) departure.departs ride.departs) one (subst (Leaves days ride (shift p.trip ride.start)) timed p.leaves);
          starts = subst (λ x. StartsRightly x ride.start) one p.starts;
        },
        subst (λ s. Serves feed times s ride.board) at_stop p.boards,
        (p.trip, p.boarding, p.of_trip, p.at_boarding, has),
      )

among_once : (feed : Feed) (trip : Trip) (departure : Departure) → IsTimedDeparture feed trip departure → IsAmong Once trip.rows departure.trip departure
among_once feed trip departure d = record { of_trip = refl; row = d.row; at_row = d.at_row; boarded = record { at_spot = d.at_stop; timed = d.timed; picks_up = d.picks_up } }

among_started : (feed : Feed) (trip : Trip) (departure : Departure) → IsTimedDeparture feed trip departure → IsAmong AtStarts trip.rows departure.trip departure
among_started feed trip departure d = record { of_trip = refl; row = d.row; at_row = d.at_row; boarded = record { at_spot = d.at_stop; timed = d.timed; picks_up = d.picks_up } }

-- ---- item by item

module _ (P : Departure → Ride → Type 0) (xs : List Departure) where
  -- the ride has the property for one of the first departures of the list
  pub record IsOfFirst (n : ℕ) (ride : Ride) : Type 0 where
    pub at : ℕ
    pub departure : Departure
    pub low : at < n
    pub is : slice_get xs at ≡ Some departure
    pub given : P departure ride

  pub none_first : (found : List Ride) → Gained (IsOfFirst 0) found found
  none_first found = gained_none (IsOfFirst 0) found (λ x p. (let lt = p.low in omega (arith, lt)))

  -- one departure more
  first_more : (n : ℕ) (departure : Departure) (x : Ride) → slice_get xs n ≡ Some departure → (IsOfFirst n x ⊎ P departure x) ↔ IsOfFirst (n + 1) x
  first_more n departure x is = (
    λ h. elim h [
      | inl early ↦ (let lt = early.low in record { at = early.at; departure = early.departure; low = omega (arith, lt); is = early.is; given = early.given })
      | inr here ↦ record { at = n; departure = departure; low = omega arith; is = is; given = here }
    ],
    λ h. elim (cases_order h.at n) [
      | inl e ↦ inr (subst (λ d. P d x) (slice_get_unique xs n h.departure departure (subst (λ k. slice_get xs k ≡ Some h.departure) e h.is) is) h.given)
      | inr (inl less) ↦ inl (record { at = h.at; departure = h.departure; low = less; is = h.is; given = h.given })
      | inr (inr more) ↦ absurd (let lt = h.low in omega (arith, lt, more))
    ],
  )

  pub next_first : (n : ℕ) (departure : Departure) (before found after : List Ride) → slice_get xs n ≡ Some departure → Gained (IsOfFirst n) before found
      → Gained (P departure) found after → Gained (IsOfFirst (n + 1)) before after
  next_first n departure before found after is so_far new =
      gained_both (IsOfFirst n) (P departure) (IsOfFirst (n + 1)) before found after so_far new (λ x. first_more n departure x is)

  pub but_next_first : (R : Ride → Type 0) (n : ℕ) (departure : Departure) (before found after : List Ride) → slice_get xs n ≡ Some departure → GainsBut (IsOfFirst n) R before found
      → GainsBut (P departure) R found after → GainsBut (IsOfFirst (n + 1)) R before after
  but_next_first R n departure before found after is so_far new =
      but_both (IsOfFirst n) (P departure) (IsOfFirst (n + 1)) R before found after so_far new (λ x. first_more n departure x is)

  -- the property of all of them
  first_all : (Q : Ride → Type 0) (n : ℕ) (x : Ride) → length xs ≤ n → ((d : Departure) (ride : Ride) → Contains xs d → P d ride → Q ride)
      → ((ride : Ride) → Q ride → (d : Departure) × Contains xs d × P d ride) → IsOfFirst n x ↔ Q x
  first_all Q n x size each whole = (
    λ h. each h.departure x (Contains-at xs h.at h.departure h.is) h.given,
    λ q.
        let d = whole x q in
        let at = index_of xs d.0 d.1 in
        let within = slice_get_within xs at.0 d.0 at.1 in
        record { at = at.0; departure = d.0; low = omega (arith, within, size); is = at.1; given = d.2 },
  )

  pub all_first : (Q : Ride → Type 0) (n : ℕ) (before after : List Ride) → length xs ≤ n → ((d : Departure) (ride : Ride) → Contains xs d → P d ride → Q ride)
      → ((ride : Ride) → Q ride → (d : Departure) × Contains xs d × P d ride) → Gained (IsOfFirst n) before after → Gained Q before after
  all_first Q n before after size each whole so_far = gained_same (IsOfFirst n) Q before after (λ x. first_all Q n x size each whole) so_far

  pub but_all_first : (Q R : Ride → Type 0) (n : ℕ) (before after : List Ride) → length xs ≤ n → ((d : Departure) (ride : Ride) → Contains xs d → P d ride → Q ride)
      → ((ride : Ride) → Q ride → (d : Departure) × Contains xs d × P d ride) → GainsBut (IsOfFirst n) R before after → GainsBut Q R before after
  but_all_first Q R n before after size each whole so_far = but_same (IsOfFirst n) Q R before after (λ x. first_all Q n x size each whole) so_far

-- ---- the rides of one day

module _ (feed : Feed) (times : Times) (days : DayTable) (stop : ℕ) (day earliest limit : ℤ) (sound : IsSoundFeed feed) where
  abbrev pub IsOnce : Ride → Type 0
  IsOnce ride = IsTimedRide feed times days stop earliest limit ride × (ride.day ≡ day) × (ride.start ≡ None)

  abbrev pub IsStarted : Ride → Type 0
  IsStarted ride = IsTimedRide feed times days stop earliest limit ride × (ride.day ≡ day) × ((start : ℕ) × (ride.start ≡ Some start))

  module _ (base : ℤ) (from until : ℕ) (departures xs : List Departure) (index : HasDepartures feed Once departures) (begins : BeginsAt days day base)
      (first : (time : ℕ) → time < 604800 → (from ≤ time) ↔ (earliest ≤ℤ (base +ℤ pos time)))
      (last : (time : ℕ) → time < 604800 → (time < until) ↔ ((base +ℤ pos time) ≤ℤ limit))
      (listed : (d : Departure) → Contains xs d ↔ (Contains departures d × IsWithin stop from until d)) where
    -- when a ride without a start leaves
    leaves_then : (ride : Ride) (s : ℕ) (d : Departure) (trip : Trip) → ride.day ≡ day → ride.start ≡ None → LeavesWith feed days ride s d trip → ride.departs ≡ base +ℤ pos d.departs
    leaves_then ride s d trip on once l =
        let at : IsShiftedMoment days day (pos 0) d.departs ride.departs = subst (λ x. IsShiftedMoment days x (pos 0) d.departs ride.departs) on (subst (λ s. IsShiftedMoment days ride.day (shift trip s) d.departs ride.departs) once l.leaves) in
        IsShiftedMoment_unique days day (pos 0) d.departs ride.departs (base +ℤ pos d.departs) at (base +ℤ pos d.departs, (base, begins, refl), omega (arith, ints))

    pub each_once : (d : Departure) (ride : Ride) → Contains xs d → IsRideWith feed times days d day None limit ride → IsOnce ride
    each_once d ride c g =
        let has = (listed d).0 c in
        let its = (index d).0 has.0 in
        let is : IsTimedDeparture feed its.trip d = timed_of_once feed d its in
        let l = of_departure feed times days sound d its.trip day None limit ride is g in
        let then = leaves_then ride d.named d its.trip g.on_day g.starts_so l.0 in (
          record {
            permitted = g.permitted;
            at_stop = l.1 ∙ ap place.Stop has.1.at_named;
            boards = l.2;
            alights = g.alights;
            leaves = subst (λ m. earliest ≤ℤ m) (sym then) ((first d.departs l.0.low).0 has.1.from_then);
            arrives = g.arrives;
          },
          g.on_day,
          g.starts_so,
        )

    pub whole_once : (ride : Ride) → IsOnce ride → (d : Departure) × Contains xs d × IsRideWith feed times days d day None limit ride
    whole_once ride q =
        let s = q.0 in
        let w = leaves_with feed times days sound stop earliest limit ride s in
        let d = w.0 in
        let l = w.2 in
        let then = leaves_then ride stop d w.1 q.1 q.2 l in
        let forwards = ride_forwards feed times days ride sound s.permitted in
        let by = s.arrives in
        let runs_so : RunsSo Once w.1 = subst (StartsRightly w.1) q.2 l.starts in (
          d,
          (listed d).1 (
            (index d).1 (record { trip = w.1; of_trip = l.of.of_trip; runs_so = runs_so; among = among_once feed w.1 d l.of }),
            record {
              at_named = l.at_stop;
              from_then = (first d.departs l.low).1 (subst (λ m. earliest ≤ℤ m) then s.leaves);
              until_then = (last d.departs l.low).1 (omega (arith, ints, forwards, by, then));
            },
          ),
          record { permitted = s.permitted; of_trip = l.of_trip; on_day = q.1; starts_so = q.2; boards = l.boards; alights = s.alights; arrives = s.arrives },
        )

  -- where no time is left, no ride is
  pub none_once : (base : ℤ) (from until : ℕ) (departures : List Departure) → HasDepartures feed Once departures → BeginsAt days day base
      → ((time : ℕ) → time < 604800 → (from ≤ time) ↔ (earliest ≤ℤ (base +ℤ pos time)))
      → ((time : ℕ) → time < 604800 → (time < until) ↔ ((base +ℤ pos time) ≤ℤ limit)) → until ≤ from → (ride : Ride) → IsOnce ride → ⊥
  none_once base from until departures index begins first last empty ride q =
      let found = whole_once base from until departures [] index begins first last
      (λ d. (
        λ c. absurd (none_contained d c),
        λ h. (let low = h.1.from_then in let high = h.1.until_then in absurd (omega (arith, empty, low, high))),
      ))
      ride q in
      none_contained found.0 found.1

  module _ (departures xs : List Departure) (index : HasDepartures feed AtStarts departures) (end : ℕ) (late : end ≡ 604800)
      (listed : (d : Departure) → Contains xs d ↔ (Contains departures d × IsWithin stop 0 end d)) where
    pub each_started : (d : Departure) (ride : Ride) → Contains xs d → IsRideAtStart feed times days d day earliest limit ride → IsStarted ride
    each_started d ride c g =
        let has = (listed d).0 c in
        let its = (index d).0 has.0 in
        let is : IsTimedDeparture feed its.trip d = timed_of_started feed d its in
        let r = g.ride_with in
        let l = of_departure feed times days sound d its.trip day (Some g.start) limit ride is r in (
          record { permitted = r.permitted; at_stop = l.1 ∙ ap place.Stop has.1.at_named; boards = l.2; alights = r.alights; leaves = g.leaves; arrives = r.arrives },
          r.on_day,
          (g.start, r.starts_so),
        )

    pub whole_started : (ride : Ride) → IsStarted ride → (d : Departure) × Contains xs d × IsRideAtStart feed times days d day earliest limit ride
    whole_started ride q =
        let s = q.0 in
        let w = leaves_with feed times days sound stop earliest limit ride s in
        let d = w.0 in
        let l = w.2 in
        let starts : StartsRightly w.1 (Some q.2.0) = subst (StartsRightly w.1) q.2.1 l.starts in
        let low = l.low in (
          d,
          (listed d).1 (
            (index d).1 (record { trip = w.1; of_trip = l.of.of_trip; runs_so = (starts.0, starts.2); among = among_started feed w.1 d l.of }),
            record { at_named = l.at_stop; from_then = omega arith; until_then = omega (arith, low, late) },
          ),
          record {
            start = q.2.0;
            ride_with = record { permitted = s.permitted; of_trip = l.of_trip; on_day = q.1; starts_so = q.2.1; boards = l.boards; alights = s.alights; arrives = s.arrives };
            leaves = s.leaves;
          },
        )

  -- a ride has a start or none
  by_start : (ride : Ride) (o : Option ℕ) → ride.start ≡ o → IsTimedRide feed times days stop earliest limit ride → ride.day ≡ day → IsOnce ride ⊎ IsStarted ride
  by_start ride None e s on = inl (s, on, e)
  by_start ride (Some start) e s on = inr (s, on, (start, e))

  pub both_kinds : (R : Ride → Type 0) (before found after : List Ride) → GainsBut IsOnce R before found → Gained IsStarted found after
      → GainsBut (λ ride. IsTimedRide feed times days stop earliest limit ride × (ride.day ≡ day)) R before after
  both_kinds R before found after once started =
      but_both IsOnce IsStarted (λ ride. IsTimedRide feed times days stop earliest limit ride × (ride.day ≡ day)) R before found after once (but_gained IsStarted R found after started)
      (λ x. (λ h. elim h [ inl a ↦ (a.0, a.1) | inr b ↦ (b.0, b.1) ], λ h. by_start x x.start refl h.0 h.1))

  -- a day that doesn't begin has no ride
  pub none_without_begin : ((base : ℤ) → BeginsAt days day base → ⊥) → (ride : Ride) → IsTimedRide feed times days stop earliest limit ride × (ride.day ≡ day) → ⊥
  none_without_begin none ride h =
      let w = leaves_with feed times days sound stop earliest limit ride h.0 in
      let at = w.2.leaves.1 in
      none at.0 (subst (λ d. BeginsAt days d at.0) h.1 at.1)

-- ---- day by day

module _ (feed : Feed) (days : DayTable) (stop : ℕ) (earliest limit first : ℤ)
    (travel : (day : ℤ) → IsTravelDay days day ↔ ((first ≤ℤ day) × (day ≤ℤ (first +ℤ pos 21)))) where
  -- the ride is on one of the first travel days
  abbrev pub IsEarlyDay : ℕ → Times → Ride → Type 0
  IsEarlyDay n times ride = IsTimedRide feed times days stop earliest limit ride × (ride.day <ℤ (first +ℤ pos n))

  pub no_days : (R : Ride → Type 0) (times : Times) (found : List Ride) → GainsBut (IsEarlyDay 0 times) R found found
  no_days R times found = but_none (IsEarlyDay 0 times) R found (λ x p.
      let on = (travel x.day).0 p.0.permitted.on_travel_day in
      let low = on.0 in
      let lt = p.1 in
      absurd (omega (arith, ints, low, lt)))

  pub next_day : (R : Ride → Type 0) (n : ℕ) (day : ℤ) (times : Times) (before found after : List Ride) → day ≡ first +ℤ pos n → GainsBut (IsEarlyDay n times) R before found
      → GainsBut (λ ride. IsTimedRide feed times days stop earliest limit ride × (ride.day ≡ day)) R found after → GainsBut (IsEarlyDay (n + 1) times) R before after
  next_day R n day times before found after is so_far new =
      but_both (IsEarlyDay n times) (λ ride. IsTimedRide feed times days stop earliest limit ride × (ride.day ≡ day)) (IsEarlyDay (n + 1) times) R before found after so_far new
      (λ x. (
        λ h. elim h [
          | inl p ↦ (let lt = p.1 in (p.0, omega (arith, ints, lt)))
          | inr here ↦ (let e = here.1 in (here.0, omega (arith, ints, e, is)))
        ],
        λ p. by_lt_z x.day (first +ℤ pos n) (λ lt. inl (p.0, lt)) (λ ge. (let lt = p.1 in inr (p.0, omega (arith, ints, ge, lt, is)))),
      ))

  pub all_days : (R : Ride → Type 0) (n : ℕ) (times : Times) (before after : List Ride) → 22 ≤ n → GainsBut (IsEarlyDay n times) R before after
      → GainsBut (IsTimedRide feed times days stop earliest limit) R before after
  all_days R n times before after size so_far =
      but_same (IsEarlyDay n times) (IsTimedRide feed times days stop earliest limit) R before after
      (λ x. (
        λ p. p.0,
        λ s.
            let on = (travel x.day).0 s.permitted.on_travel_day in
            let high = on.1 in
            (s, omega (arith, ints, high, size)),
      ))
      so_far

-- what the code says of its first travel day, of the same number
pub travels_from : (days : DayTable) (first same : ℤ) → first ≡ same → ((day : ℤ) → IsTravelDay days day ↔ ((first ≤ℤ day) × (day ≤ℤ (first +ℤ pos 21))))
    → (day : ℤ) → IsTravelDay days day ↔ ((same ≤ℤ day) × (day ≤ℤ (same +ℤ pos 21)))
travels_from days first same e says = subst (λ f. (day : ℤ) → IsTravelDay days day ↔ ((f ≤ℤ day) × (day ≤ℤ (f +ℤ pos 21)))) e says
