-- Offers of rides from or to windows, place by place.
use Rattle.std.proofs.Common.{◌≡◌, ◌↔◌, ◌⊎◌, inl, inr, ℕ, ◌+◌, ◌<◌, ◌≤◌, ℤ, None, Option, Some, List, Contains, length, slice_get, refl, sym, ◌∙◌, ap, subst, arith}
use Rattle.std.proofs.lemmas.Bool.{cases_order}
use Rattle.std.proofs.lemmas.Option.{slice_get_within}
use Rattle.flex_model.specs.declared.feed.Feed.{Feed}
use Rattle.flex_model.specs.declared.moment.DayTable.{DayTable}
use Rattle.flex_model.specs.declared.moment.Deadline.{Deadline}
use Rattle.flex_model.specs.declared.place.Place.{Place}
use Rattle.flex_model.specs.declared.ride.Ride.{Ride}
use Rattle.flex_model.specs.declared.times.Span.{Span}
use Rattle.flex_model.specs.declared.times.Times.{Times}
use Rattle.flex_model.specs.declared.trip.Row.{Row}
use Rattle.flex_model.specs.declared.trip.Timing.{Timing}
use Rattle.flex_model.specs.declared.trip.Timing.TheVariants as timing
use Rattle.flex_model.specs.declared.trip.Trip.{Trip}
use Rattle.flex_model.specs.Place.{IsStop}
use Rattle.flex_model.specs.Ride.{Arrives, HasTimes, IsPermittedRide, StartsRightly}
use Rattle.flex_model.specs.Times.{HasSeconds}
use Rattle.flex_model.proofs.Found.{All-at, index_of, slice_get_unique}
use Rattle.flex_trips.specs.Windows.{HasWindowRow}
use Rattle.ride_index.specs.declared.offered_run.OfferedRun.{OfferedRun}
use Rattle.ride_index.specs.declared.wanted.Wanted.{Wanted}
use Rattle.ride_index.specs.Legs.{IsLegOf, IsLegRide, IsOfLeg, IsRowsLeg, IsRowsRide, to_place}
use Rattle.ride_index.specs.OfferedRuns.{GainsOffersOf}
use Rattle.ride_index.proofs.OfferLists.{gains_both, gains_same}

module _ (wanted : Wanted) (leg : Ride) (spans : List Span) where
  -- the ride alights where one of the first spans ends
  pub record IsToFirst (n : ℕ) (ride : Ride) (deadline : Deadline) : Type 0 where
    pub of_rows : IsRowsRide wanted leg ride deadline
    pub at : ℕ
    pub span : Span
    pub low : at < n
    pub is : slice_get spans at ≡ Some span
    pub alights : ride.alight ≡ span.to

  pub next_span : (n : ℕ) (span : Span) (before found after : List OfferedRun) → slice_get spans n ≡ Some span → GainsOffersOf (IsToFirst n) before found
      → GainsOffersOf (IsLegRide wanted (to_place leg span.to)) found after → GainsOffersOf (IsToFirst (n + 1)) before after
  next_span n span before found after is so_far new =
      gains_both (IsToFirst n) (IsLegRide wanted (to_place leg span.to)) (IsToFirst (n + 1)) before found after so_far new
      (λ x d. (
        λ h. elim h [
          | inl p ↦ (let lt = p.low in record { of_rows = p.of_rows; at = p.at; span = p.span; low = omega (arith, lt); is = p.is; alights = p.alights })
          | inr here ↦ (
              let to : x.alight ≡ span.to = ap (λ r. r.alight) here.1 in
              record {
                of_rows = (here.0, subst (λ q. IsOfLeg (to_place leg q) x) (sym to) here.1);
                at = n;
                span = span;
                low = omega arith;
                is = is;
                alights = to;
              })
        ],
        λ h. elim (cases_order h.at n) [
          | inl e ↦ (
              let same : h.span ≡ span = slice_get_unique spans n h.span span (subst (λ k. slice_get spans k ≡ Some h.span) e h.is) is in
              let to : x.alight ≡ span.to = h.alights ∙ ap (λ s. s.to) same in
              inr (h.of_rows.0, subst (λ q. IsOfLeg (to_place leg q) x) to h.of_rows.1))
          | inr (inl less) ↦ inl (record { of_rows = h.of_rows; at = h.at; span = h.span; low = less; is = h.is; alights = h.alights })
          | inr (inr more) ↦ absurd (let lt = h.low in omega (arith, lt, more))
        ],
      ))

-- a ride from or to a window takes a direct time
direct_of : (times : Times) (days : DayTable) (ride : Ride) (by : ℤ) (a b : Timing) → (HasTimes a × HasTimes b → ⊥) → Arrives times days ride by a b → (seconds : ℕ) × HasSeconds times.direct ride.board ride.alight seconds
direct_of times days ride by (timing.Times x y) (timing.Times z w) window h = absurd (window (tt, tt))
direct_of times days ride by (timing.Window x y) (timing.Times z w) window h = (h.0.0, h.0.1)
direct_of times days ride by (timing.Times x y) (timing.Window z w) window h = (h.0.0, h.0.1)
direct_of times days ride by (timing.Window x y) (timing.Window z w) window h = (h.0.0, h.0.1)

-- the timings of the records of a ride
pub window_of : (feed : Feed) (times : Times) (days : DayTable) (ride : Ride) (p : IsPermittedRide feed times days ride) → HasWindowRow feed ride.trip ride.from_row ride.to_row
    → HasTimes p.boarding.timing × HasTimes p.alighting.timing → ⊥
window_of feed times days ride p w =
    let t : w.trip ≡ p.trip = slice_get_unique feed.trips ride.trip w.trip p.trip w.of_trip p.of_trip in
    let b : w.boarding ≡ p.boarding = slice_get_unique p.trip.rows ride.from_row w.boarding p.boarding (subst (λ x. slice_get x.rows ride.from_row ≡ Some w.boarding) t w.at_boarding) p.at_boarding in
    let a : w.alighting ≡ p.alighting = slice_get_unique p.trip.rows ride.to_row w.alighting p.alighting (subst (λ x. slice_get x.rows ride.to_row ≡ Some w.alighting) t w.at_alighting) p.at_alighting in
    subst (λ r. HasTimes r.timing × HasTimes p.alighting.timing → ⊥) b (subst (λ r. HasTimes w.boarding.timing × HasTimes r.timing → ⊥) a w.window)

-- and it has no start
no_start_by : (trip : Trip) (i j : ℕ) (a b : Row) (start : Option ℕ) → slice_get trip.rows i ≡ Some a → slice_get trip.rows j ≡ Some b → (HasTimes a.timing × HasTimes b.timing → ⊥) → StartsRightly trip start → start ≡ None
no_start_by trip i j a b None at_a at_b window s = refl
no_start_by trip i j a b (Some start) at_a at_b window s =
    absurd (window (All-at (λ row. HasTimes row.timing) trip.rows i a s.2 at_a, All-at (λ row. HasTimes row.timing) trip.rows j b s.2 at_b))

pub no_start : (feed : Feed) (times : Times) (days : DayTable) (ride : Ride) → IsPermittedRide feed times days ride → HasWindowRow feed ride.trip ride.from_row ride.to_row → ride.start ≡ None
no_start feed times days ride p w =
    no_start_by p.trip ride.from_row ride.to_row p.boarding p.alighting ride.start p.at_boarding p.at_alighting (window_of feed times days ride p w) p.starts

-- the rides to all places
pub all_spans : (wanted : Wanted) (leg : Ride) (spans : List Span) (n : ℕ) (before after : List OfferedRun) → length spans ≤ n → IsRowsLeg wanted leg
    → ((span : Span) → Contains spans span ↔ (Contains wanted.times.now.direct span × (span.from ≡ wanted.place)))
    → GainsOffersOf (IsToFirst wanted leg spans n) before after → GainsOffersOf (IsRowsRide wanted leg) before after
all_spans wanted leg spans n before after size of listed so_far =
    gains_same (IsToFirst wanted leg spans n) (IsRowsRide wanted leg) before after
    (λ x d. (
      λ h. h.of_rows,
      λ s.
          let p = s.0.permitted in
          let trip : x.trip ≡ leg.trip = ap (λ r. r.trip) s.1 in
          let from : x.from_row ≡ leg.from_row = ap (λ r. r.from_row) s.1 in
          let to : x.to_row ≡ leg.to_row = ap (λ r. r.to_row) s.1 in
          let w : HasWindowRow wanted.feed.now x.trip x.from_row x.to_row =
          subst (λ k. HasWindowRow wanted.feed.now k x.from_row x.to_row) (sym trip) (subst (λ k. HasWindowRow wanted.feed.now leg.trip k x.to_row) (sym from) (subst (HasWindowRow wanted.feed.now leg.trip leg.from_row) (sym to) of.rows)) in
          let direct = direct_of wanted.times.now wanted.days.now x _ p.boarding.timing p.alighting.timing (window_of wanted.feed.now wanted.times.now wanted.days.now x p w) p.arrives in
          let found = index_of spans _ ((listed _).1 (direct.1, s.0.boards)) in
          let within = slice_get_within spans found.0 _ found.1 in
          record { of_rows = s; at = found.0; span = _; low = omega (arith, within, size); is = found.1; alights = refl },
    ))
    so_far

-- a place at which nobody wants to alight has no ride
pub none_unwanted : (wanted : Wanted) (leg : Ride) → (IsStop leg.alight ⊎ (leg.alight ≡ wanted.destination) → ⊥) → (ride : Ride) (deadline : Deadline) → IsLegRide wanted leg ride deadline → ⊥
none_unwanted wanted leg never ride deadline h =
    never (subst (λ q. IsStop q ⊎ (q ≡ wanted.destination)) (ap (λ r. r.alight) h.1) h.0.alights)

-- the leg that the code makes for a place
pub leg_to_place : (leg : Ride) (alight : Place) (day departs arrives : ℤ) → day ≡ leg.day → departs ≡ leg.departs → arrives ≡ leg.arrives
    → record {
      trip = leg.trip;
      day = day;
      start = leg.start;
      from_row = leg.from_row;
      to_row = leg.to_row;
      board = leg.board;
      alight = alight;
      departs = departs;
      arrives = arrives;
    } ≡ to_place leg alight
leg_to_place leg alight day departs arrives p q r = λ i. record {
  trip = leg.trip;
  day = p i;
  start = leg.start;
  from_row = leg.from_row;
  to_row = leg.to_row;
  board = leg.board;
  alight = alight;
  departs = q i;
  arrives = r i;
}

-- a leg to a place, where one may want to alight there
pub leg_of_rows : (wanted : Wanted) (leg : Ride) → IsRowsLeg wanted leg → (IsStop leg.alight ⊎ (leg.alight ≡ wanted.destination)) → IsLegOf wanted leg
leg_of_rows wanted leg of alights = record { no_start = of.no_start; boards = of.boards; alights = alights }

-- the spans that the code looks up
pub listed_spans : (wanted : Wanted) (all spans : List Span) → all ≡ wanted.times.now.direct
    → ((span : Span) → Contains spans span ↔ (Contains all span × (span.from ≡ wanted.place)))
    → (span : Span) → Contains spans span ↔ (Contains wanted.times.now.direct span × (span.from ≡ wanted.place))
listed_spans wanted all spans e listed span = subst (λ xs. Contains spans span ↔ (Contains xs span × (span.from ≡ wanted.place))) e (listed span)
