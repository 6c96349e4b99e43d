-- The first ride, as more rides are looked at.
use Rattle.std.proofs.Common.{◌≡◌, ◌↔◌, ◌⊎◌, inl, inr, ℕ, ◌+◌, ◌<◌, ℤ, pos, negsuc, w32, to_z, of_z, ◌+ℤ◌, ◌≤ℤ◌, ◌<ℤ◌, false, List, [], ◌∷◌, ◌++◌, Option, Some, None, IfSome, get_or, length, slice_get, take, refl, sym, ◌∙◌, ap, subst, arith}
use Rattle.std.specs.Borrow.{Bor}
use Rattle.std.specs.Prelude.{is_some, nat_lt}
use Rattle.std.proofs.lemmas.Bool.{false≢true, ltb-true}
use Rattle.std.proofs.lemmas.Int.{by_lt_z, ints, to_z-of_z}
use Rattle.std.proofs.lemmas.List.Elements.{Contains-append_cases, Contains-append_left, Contains-append_right}
use Rattle.std.proofs.lemmas.Option.{none-some, same_Some, slice_get_read}
use Rattle.flex_model.specs.declared.feed.Feed.{Feed}
use Rattle.flex_model.specs.declared.moment.DayTable.{DayTable}
use Rattle.flex_model.specs.declared.place.Place.{Place}
use Rattle.flex_model.specs.declared.ride.Arrives.TheVariants.{At}
use Rattle.flex_model.specs.declared.ride.Ride.{Ride}
use Rattle.flex_model.specs.declared.ride.Run.{Run}
use Rattle.flex_model.specs.declared.times.Times.{Times}
use Rattle.flex_model.specs.declared.trip.Row.{Row}
use Rattle.flex_model.specs.declared.trip.Trip.{Trip}
use Rattle.flex_model.specs.Place.{Serves}
use Rattle.flex_model.specs.Ride.{StartsRightly}
use Rattle.flex_model.specs.Run.{IsRunOf, Leg, ride_of}
use Rattle.flex_model.specs.ServiceDay.{IsTravelDay}
use Rattle.flex_model.specs.SoundQuery.{IsSoundDayTable}
use Rattle.flex_model.proofs.Found.{Contains-first, only_contained, slice_get_unique}
use Rattle.fixed_trips.proofs.RunRides.{leg_of, no_ride, single_is_only, single_is_permitted}
use Rattle.fixed_trips.specs.PatternParts.{IsEarlier, IsRideOfOne, IsRideOfTrip, IsTripRide}
use Rattle.fixed_trips.specs.Patterns.{ComesNoLater, HasPattern, IsFirst}
use Rattle.fixed_trips.specs.Timed.{IsSingle}
use Rattle.fixed_trips.specs.declared.pattern_trips.PatternTrip.{PatternTrip}

no_later-trans : (a b c : Ride) → ComesNoLater a b → ComesNoLater b c → ComesNoLater a c
no_later-trans a b c p q = record {
  arrival = (let x = p.arrival in let y = q.arrival in omega (arith, ints, x, y));
  trip = λ e.
      let x = p.arrival in
      let y = q.arrival in
      let f : a.arrives ≡ b.arrives = omega (arith, ints, x, y, e) in
      let g : b.arrives ≡ c.arrives = omega (arith, ints, x, y, e) in
      let s = p.trip f in
      let t = q.trip g in
      omega (arith, s, t);
  day = λ e same.
      let x = p.arrival in
      let y = q.arrival in
      let f : a.arrives ≡ b.arrives = omega (arith, ints, x, y, e) in
      let g : b.arrives ≡ c.arrives = omega (arith, ints, x, y, e) in
      let s = p.trip f in
      let t = q.trip g in
      let u = p.day f (omega (arith, s, t, same)) in
      let v = q.day g (omega (arith, s, t, same)) in
      omega (arith, ints, u, v);
}

-- the first of rides with one property or with another one
pub first_of_both : (P Q R : Ride → Type 0) (a b c : Option Ride) → IsFirst P a → IsFirst Q b → IsEarlier a b c → ((ride : Ride) → (P ride ⊎ Q ride) ↔ R ride) → IsFirst R c
first_of_both P Q R a b c first second chosen both = by a b c first second chosen
  where
    has : (S : Ride → Type 0) (o : Option Ride) (ride : Ride) → IsFirst S o → o ≡ Some ride → S ride × ((other : Ride) → S other → ComesNoLater ride other)
    has S None ride h e = absurd (none-some ride e)
    has S (Some x) ride h e = subst (λ y. S y × ((other : Ride) → S other → ComesNoLater y other)) (same_Some x ride e) h

    -- each ride with the property comes no earlier than what was chosen
    after : (S : Ride → Type 0) (o : Option Ride) (ride other : Ride) → IsFirst S o → ((x : Ride) → o ≡ Some x → ComesNoLater ride x) → S other → ComesNoLater ride other
    after S None ride other h least s = absurd (h other s)
    after S (Some x) ride other h least s = no_later-trans ride x other (least x refl) (h.1 other s)

    by : (a b c : Option Ride) → IsFirst P a → IsFirst Q b → IsEarlier a b c → IsFirst R c
    by a b None f s e = λ ride r. elim ((both ride).1 r) [
      | inl p ↦ subst (IsFirst P) (e.none refl).0 f ride p
      | inr q ↦ subst (IsFirst Q) (e.none refl).1 s ride q
    ]
    by a b (Some ride) f s e = (
      (both ride).0 (elim (e.one ride refl) [
        | inl is ↦ inl (has P a ride f is).0
        | inr is ↦ inr (has Q b ride s is).0
      ]),
      λ other r. elim ((both other).1 r) [
        | inl p ↦ after P a ride other f (λ x is. e.first ride x refl (inl is)) p
        | inr q ↦ after Q b ride other s (λ x is. e.first ride x refl (inr is)) q
      ],
    )

-- the first of the rides with the one property, where these are those with the other
pub first_same : (P Q : Ride → Type 0) (o : Option Ride) → ((ride : Ride) → P ride ↔ Q ride) → IsFirst P o → IsFirst Q o
first_same P Q None same h = λ ride q. h ride ((same ride).1 q)
first_same P Q (Some ride) same h = ((same ride).0 h.0, λ other q. h.1 other ((same other).1 q))

-- where at most one ride has the property
pub first_of_one : (P : Ride → Type 0) (o : Option Ride) → ((ride : Ride) → (o ≡ Some ride) ↔ P ride) → IsFirst P o
first_of_one P None all = λ ride p. none-some ride ((all ride).1 p)
first_of_one P (Some ride) all = (
  (all ride).0 refl,
  λ other p. subst (ComesNoLater ride) (same_Some ride other ((all other).1 p)) (record { arrival = omega (arith, ints); trip = λ e. omega arith; day = λ e f. omega (arith, ints) }),
)

-- ---- the ride of a trip on a day

abbrev make : ℕ → ℤ → Option ℕ → ℕ → ℕ → Place → Place → Leg
make trip day start from_row to_row board alight = record { trip = trip; day = day; start = start; from_row = from_row; to_row = to_row; board = board; alight = alight }

starts_without : (trip : Trip) (start : Option ℕ) → trip.frequent ≡ false → StartsRightly trip start → start ≡ None
starts_without trip None e h = refl
starts_without trip (Some start) e h = absurd (false≢true (sym e ∙ h.0))

-- the record that the code reads
pub got : (rows : List Row) (r : Option (Bor Row)) (b : Bor Row) (i : ℕ) → is_some r ≡ nat_lt i (length rows) → IfSome r (λ x. x.now ≡ get_or rows i x.now) → r ≡ Some b
    → slice_get rows i ≡ Some b.now
got rows r b i within same is =
    slice_get_read rows (length rows) i b.now refl (ltb-true i (length rows) (sym within ∙ ap is_some is)) (subst (λ o. IfSome o (λ x. x.now ≡ get_or rows i x.now)) is same)

-- the stop that a row names
abbrev pub Names : Feed → Times → Row → Place → Type 0
Names feed times row named = (place : Place) → (Some named ≡ Some place) ↔ Serves feed times row.spot place

module _ (feed : Feed) (times : Times) (days : DayTable) (number : ℕ) (day : ℤ) (from_row to_row : ℕ) (trip : Trip) (boarding alighting : Row) (board alight : Place)
    (at : slice_get feed.trips number ≡ Some trip) (has : HasPattern trip) (at_from : slice_get trip.rows from_row ≡ Some boarding) (at_to : slice_get trip.rows to_row ≡ Some alighting)
    (boards : Names feed times boarding board) (alights : Names feed times alighting alight) where
  abbrev leg : Leg
  leg = record { trip = number; day = day; start = None; from_row = from_row; to_row = to_row; board = board; alight = alight }

  of_leg : (ride : Ride) → IsTripRide feed times days number day from_row to_row ride → leg_of ride ≡ leg
  of_leg ride r =
      let p = r.permitted in
      let t : p.trip ≡ trip = slice_get_unique feed.trips number p.trip trip (subst (λ n. slice_get feed.trips n ≡ Some p.trip) r.of_trip p.of_trip) at in
      let b : p.boarding ≡ boarding =
      slice_get_unique trip.rows from_row p.boarding boarding (subst (λ n. slice_get trip.rows n ≡ Some p.boarding) r.from (subst (λ x. slice_get x.rows ride.from_row ≡ Some p.boarding) t p.at_boarding)) at_from in
      let a : p.alighting ≡ alighting =
      slice_get_unique trip.rows to_row p.alighting alighting (subst (λ n. slice_get trip.rows n ≡ Some p.alighting) r.to (subst (λ x. slice_get x.rows ride.to_row ≡ Some p.alighting) t p.at_alighting)) at_to in
      let start : ride.start ≡ None = starts_without trip ride.start has.once (subst (λ x. StartsRightly x ride.start) t p.starts) in
      let place : ride.board ≡ board = sym (same_Some board ride.board ((boards ride.board).1 (subst (λ row. Serves feed times row.spot ride.board) b p.boards))) in
      let other : ride.alight ≡ alight = sym (same_Some alight ride.alight ((alights ride.alight).1 (subst (λ row. Serves feed times row.spot ride.alight) a p.alights))) in
      ap (λ x. make x ride.day ride.start ride.from_row ride.to_row ride.board ride.alight) r.of_trip
      ∙ ap (λ x. make number x ride.start ride.from_row ride.to_row ride.board ride.alight) r.on_day
      ∙ ap (λ x. make number day x ride.from_row ride.to_row ride.board ride.alight) start
      ∙ ap (λ x. make number day None x ride.to_row ride.board ride.alight) r.from
      ∙ ap (λ x. make number day None from_row x ride.board ride.alight) r.to
      ∙ ap (λ x. make number day None from_row to_row x ride.alight) place
      ∙ ap (λ x. make number day None from_row to_row board x) other

  pub without_run : IsRunOf feed times days leg None → (ride : Ride) → IsTripRide feed times days number day from_row to_row ride → ⊥
  without_run is_run ride r = no_ride feed times days ride (subst (λ l. IsRunOf feed times days l None) (sym (of_leg ride r)) is_run) r.permitted

  pub with_run : (run : Run) (last : ℤ) → IsRunOf feed times days leg (Some run) → IsSingle run → run.arrives ≡ At last
      → (ride : Ride) → (Some (ride_of leg run.first last) ≡ Some ride) ↔ IsTripRide feed times days number day from_row to_row ride
  with_run run last is_run single arrives ride = (
    λ e. subst (IsTripRide feed times days number day from_row to_row) (same_Some (ride_of leg run.first last) ride e) (record {
      of_trip = refl;
      on_day = refl;
      from = refl;
      to = refl;
      permitted = single_is_permitted feed times days leg run last is_run single arrives;
    }),
    λ r.
        let l : leg_of ride ≡ leg = of_leg ride r in
        ap Some (sym (single_is_only feed times days ride run last (subst (λ x. IsRunOf feed times days x (Some run)) (sym l) is_run) single arrives r.permitted ∙ ap (λ x. ride_of x run.first last) l)),
  )

-- the same ride of the code's numbers
pub made : (trip from_row to_row : ℕ) (board alight : Place) (day day' departs departs' arrives arrives' : ℤ) → day ≡ day' → departs ≡ departs' → arrives ≡ arrives'
    → ride_of (make trip day None from_row to_row board alight) departs arrives ≡ ride_of (make trip day' None from_row to_row board alight) departs' arrives'
made trip from_row to_row board alight day day' departs departs' arrives arrives' e f g =
    ap (λ d. ride_of (make trip d None from_row to_row board alight) departs arrives) e
    ∙ ap (λ d. ride_of (make trip day' None from_row to_row board alight) d arrives) f
    ∙ ap (λ d. ride_of (make trip day' None from_row to_row board alight) departs' d) g

-- ---- travel day by travel day

-- what the code says of the first travel day
abbrev pub TravelsFrom : DayTable → ℤ → Type 0
TravelsFrom days first = (day : ℤ) → IsTravelDay days day ↔ ((first ≤ℤ day) × (day ≤ℤ (first +ℤ pos 21)))

pub first_is_low : (days : DayTable) (first : ℤ) → IsSoundDayTable days → TravelsFrom days first → (pos 0 ≤ℤ first) × (first ≤ℤ pos 200000)
first_is_low days first sound travel =
    let t = (travel first).1 (omega (arith, ints), omega (arith, ints)) in
    let k : ℕ = t.0 in
    let few : k < length days.base = t.1 in
    let size = sound.count in
    let is : first ≡ days.first +ℤ pos k = t.3 in
    let low = sound.low in
    let high = sound.high in
    (omega (arith, ints, is, low), omega (arith, ints, is, few, size, high))

-- the code's number of a day near the travel days
pub day_fits : (z : ℤ) → pos 0 ≤ℤ z → z ≤ℤ pos 300000 → to_z w32 (of_z w32 z) ≡ z
day_fits (pos n) low high = to_z-of_z w32 (pos n) (record { sfits = omega (arith, ints) })
day_fits (negsuc n) low high = absurd (omega (arith, ints, low))

module _ (feed : Feed) (times : Times) (days : DayTable) (trip from_row to_row : ℕ) (earliest : ℤ) where
  -- on a day before this one
  abbrev pub IsEarlyRide : ℤ → Ride → Type 0
  IsEarlyRide day ride = IsRideOfTrip feed times days trip from_row to_row earliest ride × (ride.day <ℤ day)

  pub no_day : (first : ℤ) → TravelsFrom days first → IsFirst (IsEarlyRide first) None
  no_day first travel = λ ride h.
      let on = (travel ride.day).0 h.0.0.permitted.on_travel_day in
      let low = on.0 in
      let lt = h.1 in
      omega (arith, ints, low, lt)

  pub next_day : (day next : ℤ) (found ride kept after : Option Ride) → next ≡ day +ℤ pos 1 → IsFirst (IsEarlyRide day) found
      → ((x : Ride) → (ride ≡ Some x) ↔ IsTripRide feed times days trip day from_row to_row x) → ((x : Ride) → (kept ≡ Some x) ↔ ((ride ≡ Some x) × (earliest ≤ℤ x.departs)))
      → IsEarlier found kept after → IsFirst (IsEarlyRide next) after
  next_day day next found ride kept after is so_far one cut chosen =
      first_of_both (IsEarlyRide day) (λ x. IsTripRide feed times days trip day from_row to_row x × (earliest ≤ℤ x.departs)) (IsEarlyRide next) found kept after so_far
      (first_of_one (λ x. IsTripRide feed times days trip day from_row to_row x × (earliest ≤ℤ x.departs)) kept (λ x. (
        λ e. (let h = (cut x).0 e in ((one x).0 h.0, h.1)),
        λ h. (cut x).1 ((one x).1 h.0, h.1),
      )))
      chosen
      (λ x. (
        λ h. elim h [
          | inl early ↦ (let lt = early.1 in (early.0, omega (arith, ints, lt, is)))
          | inr here ↦ (
              let r = here.0 in
              let on : x.day ≡ day = r.on_day in
              ((record { of_trip = r.of_trip; on_day = refl; from = r.from; to = r.to; permitted = r.permitted }, here.1), omega (arith, ints, on, is)))
        ],
        λ h. by_lt_z x.day day (λ lt. inl (h.0, lt)) (λ ge.
            let r = h.0.0 in
            let lt = h.1 in
            inr (record { of_trip = r.of_trip; on_day = omega (arith, ints, ge, lt, is); from = r.from; to = r.to; permitted = r.permitted }, h.0.1)),
      ))

  pub all_days : (first day : ℤ) (found : Option Ride) → TravelsFrom days first → (first +ℤ pos 22) ≤ℤ day → IsFirst (IsEarlyRide day) found
      → IsFirst (IsRideOfTrip feed times days trip from_row to_row earliest) found
  all_days first day found travel end so_far =
      first_same (IsEarlyRide day) (IsRideOfTrip feed times days trip from_row to_row earliest) found
      (λ ride. (
        λ h. h.0,
        λ h.
            let on = (travel ride.day).0 h.0.permitted.on_travel_day in
            let high = on.1 in
            (h, omega (arith, ints, high, end)),
      ))
      so_far

-- ---- trip by trip

pub next_of_trips : (feed : Feed) (times : Times) (days : DayTable) (trips : List PatternTrip) (n : ℕ) (trip : PatternTrip) (from_row to_row : ℕ) (earliest : ℤ) (found ride after : Option Ride)
    → take (n + 1) trips ≡ take n trips ++ trip ∷ [] → IsFirst (IsRideOfOne feed times days (take n trips) from_row to_row earliest) found
    → IsFirst (IsRideOfTrip feed times days trip.trip from_row to_row earliest) ride → IsEarlier found ride after
    → IsFirst (IsRideOfOne feed times days (take (n + 1) trips) from_row to_row earliest) after
next_of_trips feed times days trips n trip from_row to_row earliest found ride after more so_far one chosen =
    subst (λ ms. IsFirst (IsRideOfOne feed times days ms from_row to_row earliest) after) (sym more)
    (first_of_both (IsRideOfOne feed times days (take n trips) from_row to_row earliest) (IsRideOfTrip feed times days trip.trip from_row to_row earliest)
    (IsRideOfOne feed times days (take n trips ++ trip ∷ []) from_row to_row earliest) found ride after so_far one chosen
    (λ x. (
      λ h. elim h [
        | inl early ↦ (early.0, Contains-append_left (take n trips) (trip ∷ []) early.0 early.1, early.2)
        | inr here ↦ (trip, Contains-append_right (take n trips) (trip ∷ []) trip (Contains-first trip []), here)
      ],
      λ h. elim (Contains-append_cases (take n trips) (trip ∷ []) h.0 h.1) [
        | inl old ↦ inl (h.0, old, h.2)
        | inr new ↦ inr (subst (λ m. IsRideOfTrip feed times days m.trip from_row to_row earliest x) (only_contained trip h.0 new) h.2)
      ],
    )))
