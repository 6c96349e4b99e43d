-- Where a ride that was boarded can alight, record by record.
use Rattle.std.proofs.Common.{◌≡◌, ◌≢◌, ◌↔◌, inl, inr, ℕ, ◌+◌, ◌<◌, ◌≤◌, ℤ, pos, ◌+ℤ◌, ◌≤ℤ◌, ◌<ℤ◌, List, Option, Some, length, slice_get, sym, ◌∙◌, ap, subst, arith}
use Rattle.std.proofs.lemmas.Bool.{cases_order}
use Rattle.std.proofs.lemmas.Int.{by_lt_z, ints}
use Rattle.std.proofs.lemmas.Option.{same_Some, slice_get_within}
use Rattle.flex_model.specs.declared.place.Place.TheVariants as place
use Rattle.flex_model.specs.declared.ride.Ride.{Ride}
use Rattle.flex_model.specs.declared.trip.Row.{Row}
use Rattle.flex_model.specs.declared.trip.Spot.TheVariants as spot
use Rattle.flex_model.specs.declared.trip.Timing.TheVariants as timing
use Rattle.flex_model.specs.declared.trip.Way.TheVariants.{No}
use Rattle.flex_model.specs.SoundFeed.{DoesNotFall, IsSoundTiming}
use Rattle.flex_model.proofs.Found.{All-at, AllPairs-at, slice_get_unique}
use Rattle.ride_index.specs.TimedRides.{AlightsAt, AreSoundRows, IsAlighting, IsReachedAt, left_at}
use Rattle.ride_index.proofs.RideLists.{Gained, gained_both, gained_same}

same_arrival : (row : Row) (s a s' a' : ℕ) → IsReachedAt row s a → IsReachedAt row s' a' → a ≡ a'
same_arrival row s a s' a' p q = let e : timing.Times a p.timed.0 ≡ timing.Times a' q.timed.0 = sym p.timed.1 ∙ q.timed.1 in cc

same_stop : (row : Row) (s a s' a' : ℕ) → IsReachedAt row s a → IsReachedAt row s' a' → s ≡ s'
same_stop row s a s' a' p q = let e : spot.Stop s ≡ spot.Stop s' = sym p.at_stop ∙ q.at_stop in cc

-- the record is reached after the limit
abbrev pub IsLate : Row → ℤ → ℤ → Type 0
IsLate row zero limit = (stop arrives : ℕ) × IsReachedAt row stop arrives × (limit <ℤ (zero +ℤ pos arrives))

pub in_time_not_late : (row : Row) (stop arrives : ℕ) (zero limit : ℤ) → IsReachedAt row stop arrives → (zero +ℤ pos arrives) ≤ℤ limit → IsLate row zero limit → ⊥
in_time_not_late row stop arrives zero limit at low late =
    let same = same_arrival row stop arrives late.0 late.1 at late.2 in
    let past = late.3 in
    omega (arith, ints)

-- the ride that the code makes of the one that was boarded
pub made_is : (boarded : Ride) (day departs arrives then : ℤ) (to_row stop : ℕ) → day ≡ boarded.day → departs ≡ boarded.departs → arrives ≡ then
    → record {
      trip = boarded.trip;
      day = day;
      start = boarded.start;
      from_row = boarded.from_row;
      to_row = to_row;
      board = boarded.board;
      alight = place.Stop stop;
      departs = departs;
      arrives = arrives;
    } ≡ left_at boarded to_row stop then
made_is boarded day departs arrives then to_row stop d l a = λ i. record {
  trip = boarded.trip;
  day = d i;
  start = boarded.start;
  from_row = boarded.from_row;
  to_row = to_row;
  board = boarded.board;
  alight = place.Stop stop;
  departs = l i;
  arrives = a i;
}

-- the one ride to a record
pub one_ride : (row : Row) (boarded made : Ride) (zero : ℤ) (to_row stop arrives : ℕ) → IsReachedAt row stop arrives → row.drop_off ≢ No
    → made ≡ left_at boarded to_row stop (zero +ℤ pos arrives) → (ride : Ride) → (Some made ≡ Some ride) ↔ AlightsAt row boarded zero to_row ride
one_ride row boarded made zero to_row stop arrives at drops_off is ride = (
  λ e. record { stop = stop; arrives = arrives; reached = at; drops_off = drops_off; is = sym (same_Some made ride e) ∙ is },
  λ h. ap Some (is ∙ ap (λ s. left_at boarded to_row s (zero +ℤ pos arrives)) (same_stop row stop arrives h.stop h.arrives at h.reached)
      ∙ ap (λ a. left_at boarded to_row h.stop (zero +ℤ pos a)) (same_arrival row stop arrives h.stop h.arrives at h.reached) ∙ sym h.is),
)

module _ (rows : List Row) (boarded : Ride) (zero limit : ℤ) where
  -- the ride alights at one of the first records
  abbrev pub IsEarly : ℕ → Ride → Type 0
  IsEarly n ride = IsAlighting rows boarded zero limit ride × (ride.to_row < n)

  -- the ride to the next record, which isn't late
  pub next_row : (n : ℕ) (row : Row) (made : Option Ride) (before found after : List Ride) → slice_get rows n ≡ Some row → boarded.from_row < n
      → (IsLate row zero limit → ⊥) → ((ride : Ride) → (made ≡ Some ride) ↔ AlightsAt row boarded zero n ride)
      → Gained (IsEarly n) before found → Gained (λ ride. made ≡ Some ride) found after → Gained (IsEarly (n + 1)) before after
  next_row n row made before found after at past in_time makes so_far new =
      gained_both (IsEarly n) (λ ride. made ≡ Some ride) (IsEarly (n + 1)) before found after so_far new
      (λ x. (
        λ h. elim h [
          | inl early ↦ (let lt = early.1 in (early.0, omega (arith, lt)))
          | inr e ↦ (
              let a = (makes x).0 e in
              let to : x.to_row ≡ n = ap (λ r. r.to_row) a.is in
              let then : x.arrives ≡ zero +ℤ pos a.arrives = ap (λ r. r.arrives) a.is in (
                record {
                  row = row;
                  at_row = subst (λ k. slice_get rows k ≡ Some row) (sym to) at;
                  later = omega (arith, to, past);
                  alights = subst (λ k. AlightsAt row boarded zero k x) (sym to) a;
                  in_time = by_lt_z limit x.arrives (λ late. absurd (in_time (a.stop, a.arrives, a.reached, subst (λ m. limit <ℤ m) then late))) (λ le. le);
                },
                omega (arith, to),
              ))
        ],
        λ h. elim (cases_order x.to_row n) [
          | inl e ↦ (
              let same : h.0.row ≡ row = slice_get_unique rows n h.0.row row (subst (λ k. slice_get rows k ≡ Some h.0.row) e h.0.at_row) at in
              inr ((makes x).1 (subst (λ k. AlightsAt row boarded zero k x) e (subst (λ r. AlightsAt r boarded zero x.to_row x) same h.0.alights))))
          | inr (inl less) ↦ inl (h.0, less)
          | inr (inr more) ↦ absurd (let lt = h.1 in omega (arith, lt, more))
        ],
      ))

  pub all_rows : (n : ℕ) (before after : List Ride) → length rows ≤ n → Gained (IsEarly n) before after → Gained (IsAlighting rows boarded zero limit) before after
  all_rows n before after size so_far =
      gained_same (IsEarly n) (IsAlighting rows boarded zero limit) before after
      (λ x. (λ h. h.0, λ a. let within = slice_get_within rows x.to_row a.row a.at_row in (a, omega (arith, within, size)))) so_far

  -- what is reached at a later record is reached no earlier
  no_earlier : (i j s a s' a' : ℕ) (x y : Row) → AreSoundRows rows → i < j → slice_get rows i ≡ Some x → slice_get rows j ≡ Some y → IsReachedAt x s a → IsReachedAt y s' a' → a ≤ a'
  no_earlier i j s a s' a' x y sound lt at_x at_y p q =
      let t = All-at (λ row. IsSoundTiming row.spot row.timing) rows i x sound.each at_x in
      let own = subst (IsSoundTiming x.spot) p.timed.1 t in
      let f = AllPairs-at (λ v w. DoesNotFall v.timing w.timing) rows i j x y sound.times lt at_x at_y in
      let g = subst (λ b. DoesNotFall b y.timing) p.timed.1 f in
      let h = subst (DoesNotFall (timing.Times a p.timed.0)) q.timed.1 g in
      let first : a ≤ p.timed.0 = own.1 in
      let second : p.timed.0 ≤ a' = h in
      omega (arith, first, second)

  -- none alights in time after a record that is late
  pub none_after : (n : ℕ) (row : Row) (before after : List Ride) → AreSoundRows rows → slice_get rows n ≡ Some row → IsLate row zero limit
      → Gained (IsEarly n) before after → Gained (IsAlighting rows boarded zero limit) before after
  none_after n row before after sound at late so_far =
      gained_same (IsEarly n) (IsAlighting rows boarded zero limit) before after
      (λ x. (
        λ h. h.0,
        λ a. (
          a,
          elim (cases_order x.to_row n) [
            | inr (inl less) ↦ less
            | inl e ↦ absurd (
                let same : a.row ≡ row = slice_get_unique rows n a.row row (subst (λ k. slice_get rows k ≡ Some a.row) e a.at_row) at in
                let r : IsReachedAt row a.alights.stop a.alights.arrives = subst (λ w. IsReachedAt w a.alights.stop a.alights.arrives) same a.alights.reached in
                let then : x.arrives ≡ zero +ℤ pos a.alights.arrives = ap (λ r. r.arrives) a.alights.is in
                in_time_not_late row a.alights.stop a.alights.arrives zero limit r (subst (λ m. m ≤ℤ limit) then a.in_time) late)
            | inr (inr more) ↦ absurd (
                let le : late.1 ≤ a.alights.arrives = no_earlier n x.to_row late.0 late.1 a.alights.stop a.alights.arrives row a.row sound more at a.at_row late.2 a.alights.reached in
                let then : x.arrives ≡ zero +ℤ pos a.alights.arrives = ap (λ r. r.arrives) a.alights.is in
                let past = late.3 in
                let by = a.in_time in
                omega (arith, ints, le, then, past, by))
          ],
        ),
      ))
      so_far
