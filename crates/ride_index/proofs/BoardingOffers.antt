-- Offers of rides from or to windows, record by record and departure by departure.
use Rattle.std.proofs.Common.{◌≡◌, ◌↔◌, inl, inr, ℕ, ◌+◌, ◌<◌, ◌≤◌, ℤ, None, Some, List, [], ◌∷◌, ◌++◌, All, Contains, get_or, length, slice_get, take, refl, sym, ◌∙◌, ap, subst, arith}
use Rattle.std.proofs.lemmas.Bool.{cases_order}
use Rattle.std.proofs.lemmas.List.{take_more}
use Rattle.std.proofs.lemmas.List.Elements.{Contains-append_left, Contains-push, Contains-push_cases}
use Rattle.std.proofs.lemmas.Option.{slice_get_within}
use Rattle.flex_model.specs.declared.moment.Deadline.{Deadline}
use Rattle.flex_model.specs.declared.ride.Ride.{Ride}
use Rattle.flex_model.specs.declared.trip.Row.{Row}
use Rattle.flex_model.specs.declared.trip.Trip.{Trip}
use Rattle.flex_model.specs.declared.trip.Way.TheVariants.{No}
use Rattle.flex_model.specs.Ride.{HasTimes}
use Rattle.flex_model.proofs.Found.{slice_get_unique}
use Rattle.flex_trips.specs.Windows.{HasWindowRow}
use Rattle.ride_index.specs.Departures.{IsWithin}
use Rattle.ride_index.specs.declared.departure.Departure.{Departure}
use Rattle.ride_index.specs.declared.offered_run.OfferedRun.{OfferedRun}
use Rattle.ride_index.specs.declared.wanted.Wanted.{Wanted}
use Rattle.ride_index.specs.Legs.{BoardsAt, BoardsOn, BoardsWith, BoardsWithAny, HasRecord, IsRowsLeg, IsRowsRide, IsWindowRide, RunsThen, leg_from}
use Rattle.ride_index.specs.OfferedRuns.{GainsOffersOf}
use Rattle.ride_index.proofs.OfferLists.{gains_both, gains_same}
use Rattle.ride_index.proofs.WindowOffers.{no_start, window_of}

module _ (wanted : Wanted) (departure : Departure) (day : ℤ) (boarding alighting : Row) (to_row : ℕ)
    (at_boarding : HasRecord wanted.feed.now departure.trip departure.row boarding) (at_alighting : HasRecord wanted.feed.now departure.trip to_row alighting) where
  -- the ride goes between the two records
  abbrev pub IsBetween : Ride → Deadline → Type 0
  IsBetween ride deadline = IsWindowRide wanted ride deadline × BoardsOn departure.trip departure.row day ride × (ride.to_row ≡ to_row)

  trip_is : (ride : Ride) (deadline : Deadline) (h : IsBetween ride deadline) → h.0.0.permitted.trip ≡ at_boarding.0
  trip_is ride deadline h =
      let p = h.0.0.permitted in
      slice_get_unique wanted.feed.now.trips departure.trip p.trip at_boarding.0 (subst (λ k. slice_get wanted.feed.now.trips k ≡ Some p.trip) h.1.0.0 p.of_trip) at_boarding.1

  one_trip : at_alighting.0 ≡ at_boarding.0
  one_trip = slice_get_unique wanted.feed.now.trips departure.trip at_alighting.0 at_boarding.0 at_alighting.1 at_boarding.1

  alighting_then : slice_get at_boarding.0.rows to_row ≡ Some alighting
  alighting_then = subst (λ t. slice_get t.rows to_row ≡ Some alighting) one_trip at_alighting.2

  boarding_is : (ride : Ride) (deadline : Deadline) (h : IsBetween ride deadline) → h.0.0.permitted.boarding ≡ boarding
  boarding_is ride deadline h =
      let p = h.0.0.permitted in
      slice_get_unique at_boarding.0.rows departure.row p.boarding boarding
      (subst (λ k. slice_get at_boarding.0.rows k ≡ Some p.boarding) h.1.0.1 (subst (λ t. slice_get t.rows ride.from_row ≡ Some p.boarding) (trip_is ride deadline h) p.at_boarding)) at_boarding.2

  alighting_is : (ride : Ride) (deadline : Deadline) (h : IsBetween ride deadline) → h.0.0.permitted.alighting ≡ alighting
  alighting_is ride deadline h =
      let p = h.0.0.permitted in
      slice_get_unique at_boarding.0.rows to_row p.alighting alighting
      (subst (λ k. slice_get at_boarding.0.rows k ≡ Some p.alighting) h.2 (subst (λ t. slice_get t.rows ride.to_row ≡ Some p.alighting) (trip_is ride deadline h) p.at_alighting)) alighting_then

  pub none_left : alighting.drop_off ≡ No → (ride : Ride) (deadline : Deadline) → IsBetween ride deadline → ⊥
  none_left e ride deadline h = h.0.0.permitted.drops_off (ap (λ r. r.drop_off) (alighting_is ride deadline h) ∙ e)

  pub none_timed : HasTimes boarding.timing × HasTimes alighting.timing → (ride : Ride) (deadline : Deadline) → IsBetween ride deadline → ⊥
  none_timed both ride deadline h =
      let p = h.0.0.permitted in
      window_of wanted.feed.now wanted.times.now wanted.days.now ride p h.0.1
      (subst (λ r. HasTimes r.timing) (sym (boarding_is ride deadline h)) both.0, subst (λ r. HasTimes r.timing) (sym (alighting_is ride deadline h)) both.1)

  module _ (runs : RunsThen wanted departure.trip day) (window : HasTimes boarding.timing × HasTimes alighting.timing → ⊥) where
    rows : HasWindowRow wanted.feed.now departure.trip departure.row to_row
    rows = record {
      trip = at_boarding.0;
      of_trip = at_boarding.1;
      boarding = boarding;
      at_boarding = at_boarding.2;
      alighting = alighting;
      at_alighting = alighting_then;
      window = window;
    }

    pub rows_leg : IsRowsLeg wanted (leg_from wanted departure day to_row)
    rows_leg = record { no_start = refl; boards = refl; rows = rows; runs = runs }

    to_between : (ride : Ride) (deadline : Deadline) → IsRowsRide wanted (leg_from wanted departure day to_row) ride deadline → IsBetween ride deadline
    to_between ride deadline h =
        let trip : ride.trip ≡ departure.trip = ap (λ r. r.trip) h.1 in
        let from : ride.from_row ≡ departure.row = ap (λ r. r.from_row) h.1 in
        let to : ride.to_row ≡ to_row = ap (λ r. r.to_row) h.1 in
        let on : ride.day ≡ day = ap (λ r. r.day) h.1 in
        let w : HasWindowRow wanted.feed.now ride.trip ride.from_row ride.to_row =
        subst (λ k. HasWindowRow wanted.feed.now k ride.from_row ride.to_row) (sym trip)
        (subst (λ k. HasWindowRow wanted.feed.now departure.trip k ride.to_row) (sym from) (subst (HasWindowRow wanted.feed.now departure.trip departure.row) (sym to) rows)) in
        ((h.0, w), ((trip, from), on), to)

    of_between : (ride : Ride) (deadline : Deadline) → IsBetween ride deadline → IsRowsRide wanted (leg_from wanted departure day to_row) ride deadline
    of_between ride deadline h =
        let start : ride.start ≡ None = no_start wanted.feed.now wanted.times.now wanted.days.now ride h.0.0.permitted h.0.1 in
        let trip : ride.trip ≡ departure.trip = h.1.0.0 in
        let from : ride.from_row ≡ departure.row = h.1.0.1 in
        let on : ride.day ≡ day = h.1.1 in
        let to : ride.to_row ≡ to_row = h.2 in
        let board : ride.board ≡ wanted.place = h.0.0.boards in (
          h.0.0,
          λ i. record {
            trip = trip i;
            day = on i;
            start = start i;
            from_row = from i;
            to_row = to i;
            board = board i;
            alight = ride.alight;
            departs = ride.departs;
            arrives = ride.arrives;
          },
        )

    pub gains_between : (leg : Ride) (before after : List OfferedRun) → leg ≡ leg_from wanted departure day to_row → GainsOffersOf (IsRowsRide wanted leg) before after → GainsOffersOf IsBetween before after
    gains_between leg before after e g =
        gains_same (IsRowsRide wanted (leg_from wanted departure day to_row)) IsBetween before after (λ x d. (to_between x d, of_between x d))
        (subst (λ l. GainsOffersOf (IsRowsRide wanted l) before after) e g)

-- ---- record by record

module _ (wanted : Wanted) (t r : ℕ) (day : ℤ) where
  abbrev pub IsToEarly : ℕ → Ride → Deadline → Type 0
  IsToEarly n ride deadline = (IsWindowRide wanted ride deadline × BoardsOn t r day ride) × (ride.to_row < n)

  pub next_row : (n : ℕ) (before found after : List OfferedRun) → GainsOffersOf (IsToEarly n) before found
      → GainsOffersOf (λ ride deadline. IsWindowRide wanted ride deadline × BoardsOn t r day ride × (ride.to_row ≡ n)) found after → GainsOffersOf (IsToEarly (n + 1)) before after
  next_row n before found after so_far new =
      gains_both (IsToEarly n) (λ ride deadline. IsWindowRide wanted ride deadline × BoardsOn t r day ride × (ride.to_row ≡ n)) (IsToEarly (n + 1)) before found after so_far new
      (λ x d. (
        λ h. elim h [
          | inl p ↦ (let lt = p.1 in (p.0, omega (arith, lt)))
          | inr here ↦ (let e = here.2 in ((here.0, here.1), omega (arith, e)))
        ],
        λ h. elim (cases_order x.to_row n) [
          | inl e ↦ inr (h.0.0, h.0.1, e)
          | inr (inl less) ↦ inl (h.0, less)
          | inr (inr more) ↦ absurd (let lt = h.1 in omega (arith, lt, more))
        ],
      ))

  -- before the first later record there is none
  pub none_earlier : (n : ℕ) → n ≤ r + 1 → (ride : Ride) (deadline : Deadline) → IsToEarly n ride deadline → ⊥
  none_earlier n low ride deadline h =
      let order : ride.from_row < ride.to_row = h.0.0.0.permitted.in_order in
      let from = h.0.1.0.1 in
      let lt = h.1 in
      omega (arith, order, from, lt, low)

  pub all_rows : (trip : Trip) (n : ℕ) (before after : List OfferedRun) → slice_get wanted.feed.now.trips t ≡ Some trip → length trip.rows ≤ n → GainsOffersOf (IsToEarly n) before after
      → GainsOffersOf (λ ride deadline. IsWindowRide wanted ride deadline × BoardsOn t r day ride) before after
  all_rows trip n before after at size so_far =
      gains_same (IsToEarly n) (λ ride deadline. IsWindowRide wanted ride deadline × BoardsOn t r day ride) before after
      (λ x d. (
        λ h. h.0,
        λ h.
            let p = h.0.0.permitted in
            let same : p.trip ≡ trip = slice_get_unique wanted.feed.now.trips t p.trip trip (subst (λ k. slice_get wanted.feed.now.trips k ≡ Some p.trip) h.1.0.0 p.of_trip) at in
            let within = slice_get_within trip.rows x.to_row p.alighting (subst (λ y. slice_get y.rows x.to_row ≡ Some p.alighting) same p.at_alighting) in
            (h, omega (arith, within, size)),
      ))
      so_far

-- ---- departure by departure

module _ (wanted : Wanted) (departures : List Departure) where
  abbrev pub IsWithFirst : ℕ → Ride → Deadline → Type 0
  IsWithFirst n ride deadline = IsWindowRide wanted ride deadline × BoardsWithAny (take n departures) ride

  pub next_departure : (n : ℕ) (default : Departure) (before found after : List OfferedRun) → n < length departures → GainsOffersOf (IsWithFirst n) before found
      → GainsOffersOf (λ ride deadline. IsWindowRide wanted ride deadline × BoardsAt (get_or departures n default).trip (get_or departures n default).row ride) found after
      → GainsOffersOf (IsWithFirst (n + 1)) before after
  next_departure n default before found after lt so_far new =
      let one = get_or departures n default in
      let more : take (n + 1) departures ≡ take n departures ++ one ∷ [] = take_more departures n default lt in
      gains_both (IsWithFirst n) (λ ride deadline. IsWindowRide wanted ride deadline × BoardsAt one.trip one.row ride) (IsWithFirst (n + 1)) before found after so_far new
      (λ x d. (
        λ h. elim h [
          | inl old ↦ (old.0, (old.1.0, subst (λ xs. Contains xs old.1.0) (sym more) (Contains-append_left (take n departures) (one ∷ []) old.1.0 old.1.1), old.1.2))
          | inr here ↦ (here.0, (one, subst (λ xs. Contains xs one) (sym more) (Contains-push (take n departures) one), here.1))
        ],
        λ h. elim (Contains-push_cases (take n departures) one h.1.0 (subst (λ xs. Contains xs h.1.0) more h.1.1)) [
          | inl old ↦ inl (h.0, (h.1.0, old, h.1.2))
          | inr same ↦ inr (h.0, subst (λ z. BoardsAt z.trip z.row x) (sym same) h.1.2)
        ],
      ))

-- those of the list that name this
pub gains_at : (wanted : Wanted) (departures slice : List Departure) (named end : ℕ) (before after : List OfferedRun) → end ≡ 604800
    → All (λ d. d.departs < 604800) departures → ((d : Departure) → Contains slice d ↔ (Contains departures d × IsWithin named 0 end d))
    → GainsOffersOf (λ ride deadline. IsWindowRide wanted ride deadline × BoardsWithAny slice ride) before after
    → GainsOffersOf (λ ride deadline. IsWindowRide wanted ride deadline × BoardsWith departures named ride) before after
gains_at wanted departures slice named end before after late times listed g =
    gains_same (λ ride deadline. IsWindowRide wanted ride deadline × BoardsWithAny slice ride) (λ ride deadline. IsWindowRide wanted ride deadline × BoardsWith departures named ride) before after
    (λ x d. (
      λ h.
          let its = (listed h.1.0).0 h.1.1 in
          (h.0, record { departure = h.1.0; listed = its.0; at_named = its.1.at_named; boards = h.1.2 }),
      λ h.
          let b = h.1 in
          let one = b.departure in
          let c = b.listed in
          let low : one.departs < 604800 = subst (λ z. z.departs < 604800) c.2 (times c.0 one c.1) in
          (h.0, (one, (listed one).1 (c, record { at_named = b.at_named; from_then = omega arith; until_then = omega (arith, low, late) }), b.boards)),
    ))
    g
