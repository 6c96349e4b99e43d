-- Lists of departures as they grow, record by record and trip by trip.
use Rattle.std.proofs.Common.{◌≡◌, ◌↔◌, inl, inr, ℕ, ◌+◌, ◌<◌, ◌≤◌, List, Some, Contains, length, slice_get, sym, subst, arith}
use Rattle.std.proofs.lemmas.Bool.{cases_order}
use Rattle.std.proofs.lemmas.Option.{slice_get_within}
use Rattle.flex_model.specs.declared.feed.Feed.{Feed}
use Rattle.flex_model.specs.declared.trip.Row.{Row}
use Rattle.flex_model.specs.declared.trip.Trip.{Trip}
use Rattle.flex_model.proofs.Found.{slice_get_unique}
use Rattle.ride_index.specs.Departures.{HasDepartures, IsAmong, IsBoardedAt, IsDeparture, RunsSo}
use Rattle.ride_index.specs.NumberLists.{HasSameDepartures}
use Rattle.ride_index.proofs.RideLists.{Gained}
use Rattle.ride_index.specs.declared.departure.Departure.{Departure}
use Rattle.ride_index.specs.declared.departure.DepartureKind.{DepartureKind}

-- the departure is at this record of the trip
abbrev pub IsAt : DepartureKind → ℕ → ℕ → Row → Departure → Type 0
IsAt kind trip at row departure = (departure.trip ≡ trip) × (departure.row ≡ at) × IsBoardedAt kind row departure.named departure.departs

-- the departure is among the first records
abbrev pub IsEarly : DepartureKind → List Row → ℕ → ℕ → Departure → Type 0
IsEarly kind rows trip at departure = IsAmong kind rows trip departure × (departure.row < at)

pub next_row : (kind : DepartureKind) (rows : List Row) (trip at : ℕ) (row : Row) (before found after : List Departure) → slice_get rows at ≡ Some row
    → Gained (IsEarly kind rows trip at) before found → Gained (IsAt kind trip at row) found after → Gained (IsEarly kind rows trip (at + 1)) before after
next_row kind rows trip at row before found after is so_far new x = (
  λ c. elim ((new x).0 c) [
    | inl old ↦ elim ((so_far x).0 old) [
      | inl first ↦ inl first
      | inr early ↦ (let lt = early.1 in inr (early.0, omega (arith, lt)))
    ]
    | inr here ↦ inr (
      record { of_trip = here.0; row = row; at_row = subst (λ k. slice_get rows k ≡ Some row) (sym here.1) is; boarded = here.2 },
      (let e = here.1 in omega (arith, e)),
    )
  ],
  λ h. elim h [
    | inl first ↦ (new x).1 (inl ((so_far x).1 (inl first)))
    | inr early ↦ elim (cases_order x.row at) [
      | inl e ↦ (new x).1 (inr (
        early.0.of_trip,
        e,
        subst (λ r. IsBoardedAt kind r x.named x.departs) (slice_get_unique rows at early.0.row row (subst (λ k. slice_get rows k ≡ Some early.0.row) e early.0.at_row) is) early.0.boarded,
      ))
      | inr (inl less) ↦ (new x).1 (inl ((so_far x).1 (inr (early.0, less))))
      | inr (inr more) ↦ absurd (let lt = early.1 in omega (arith, lt, more))
    ]
  ],
)

pub all_rows : (kind : DepartureKind) (rows : List Row) (trip at : ℕ) (before after : List Departure) → length rows ≤ at
    → Gained (IsEarly kind rows trip at) before after → Gained (IsAmong kind rows trip) before after
all_rows kind rows trip at before after size so_far x = (
  λ c. elim ((so_far x).0 c) [ inl first ↦ inl first | inr early ↦ inr early.0 ],
  λ h. elim h [
    | inl first ↦ (so_far x).1 (inl first)
    | inr among ↦ (let within = slice_get_within rows x.row among.row among.at_row in (so_far x).1 (inr (among, omega (arith, within, size))))
  ],
)

-- the departure is of the trip, which runs so
abbrev pub IsOfTrip : DepartureKind → Trip → ℕ → Departure → Type 0
IsOfTrip kind trip number departure = RunsSo kind trip × IsAmong kind trip.rows number departure

pub of_trip : (kind : DepartureKind) (trip : Trip) (number : ℕ) (before after : List Departure) → RunsSo kind trip
    → Gained (IsAmong kind trip.rows number) before after → Gained (IsOfTrip kind trip number) before after
of_trip kind trip number before after so new x = (
  λ c. elim ((new x).0 c) [ inl old ↦ inl old | inr among ↦ inr (so, among) ],
  λ h. elim h [ inl old ↦ (new x).1 (inl old) | inr p ↦ (new x).1 (inr p.1) ],
)

-- the list has the departures of the first trips
abbrev pub HasEarly : Feed → DepartureKind → ℕ → List Departure → Type 0
HasEarly feed kind number xs = (x : Departure) → Contains xs x ↔ (IsDeparture feed kind x × (x.trip < number))

pub next_trip : (feed : Feed) (kind : DepartureKind) (number : ℕ) (trip : Trip) (found after : List Departure) → slice_get feed.trips number ≡ Some trip
    → HasEarly feed kind number found → Gained (IsOfTrip kind trip number) found after → HasEarly feed kind (number + 1) after
next_trip feed kind number trip found after is so_far new x = (
  λ c. elim ((new x).0 c) [
    | inl old ↦ (let early = (so_far x).0 old in let lt = early.1 in (early.0, omega (arith, lt)))
    | inr here ↦ (
        let e : x.trip ≡ number = here.1.of_trip in (
          record {
            trip = trip;
            of_trip = subst (λ k. slice_get feed.trips k ≡ Some trip) (sym e) is;
            runs_so = here.0;
            among = subst (λ k. IsAmong kind trip.rows k x) (sym e) here.1;
          },
          omega (arith, e),
        ))
  ],
  λ h. elim (cases_order x.trip number) [
    | inl e ↦ (
        let same : h.0.trip ≡ trip = slice_get_unique feed.trips number h.0.trip trip (subst (λ k. slice_get feed.trips k ≡ Some h.0.trip) e h.0.of_trip) is in
        (new x).1 (inr (subst (RunsSo kind) same h.0.runs_so, subst (λ t. IsAmong kind t.rows number x) same (subst (λ k. IsAmong kind h.0.trip.rows k x) e h.0.among))))
    | inr (inl less) ↦ (new x).1 (inl ((so_far x).1 (h.0, less)))
    | inr (inr more) ↦ absurd (let lt = h.1 in omega (arith, lt, more))
  ],
)

pub all_trips : (feed : Feed) (kind : DepartureKind) (number : ℕ) (xs : List Departure) → length feed.trips ≤ number → HasEarly feed kind number xs → HasDepartures feed kind xs
all_trips feed kind number xs size so_far x = (
  λ c. ((so_far x).0 c).0,
  λ d. (let within = slice_get_within feed.trips x.trip d.trip d.of_trip in (so_far x).1 (d, omega (arith, within, size))),
)

-- the same departures in another order
pub same_departures : (feed : Feed) (kind : DepartureKind) (xs ys : List Departure) → HasSameDepartures xs ys → HasDepartures feed kind xs → HasDepartures feed kind ys
same_departures feed kind xs ys same has x = (λ c. (has x).0 ((same x).0 c), λ d. (same x).1 ((has x).1 d))
