-- Rides that an earlier boarding makes needless, and lists that gained the others.
use Rattle.std.proofs.Common.{◌≡◌, ◌≢◌, ◌↔◌, ◌⊎◌, inl, inr, ℕ, ◌+◌, ◌<◌, ◌≤◌, ℤ, pos, ◌+ℤ◌, ◌≤ℤ◌, Option, None, Some, List, length, slice_get, refl, sym, ◌∙◌, ap, subst, arith}
use Rattle.std.proofs.lemmas.Bool.{cases_order}
use Rattle.std.proofs.lemmas.Option.{slice_get_within}
use Rattle.flex_model.specs.declared.feed.Feed.{Feed}
use Rattle.flex_model.specs.declared.moment.DayTable.{DayTable}
use Rattle.flex_model.specs.declared.ride.Ride.{Ride}
use Rattle.flex_model.specs.declared.times.Times.{Times}
use Rattle.flex_model.specs.declared.trip.Row.{Row}
use Rattle.flex_model.specs.declared.trip.Trip.{Trip}
use Rattle.flex_model.specs.declared.trip.Way.{Way}
use Rattle.flex_model.specs.declared.trip.Way.TheVariants.{Book, Free, No}
use Rattle.flex_model.specs.Ride.{shift}
use Rattle.flex_model.specs.ServiceDay.{BeginsAt}
use Rattle.flex_model.specs.SoundFeed.{IsSoundFeed}
use Rattle.flex_model.proofs.Found.{Contains-at, slice_get_unique}
use Rattle.fixed_trips.specs.Timed.{MayRun}
use Rattle.ride_index.specs.Boarded.{AreFreeAfter, CanBoard, GainsBut, IsAsGood, IsBoardedAt, IsNeedless, IsNoted}
use Rattle.ride_index.specs.Departures.{IsTimedDeparture}
use Rattle.ride_index.specs.TimedRides.{IsAlighting, IsRideWith, boarded_with, left_at}
use Rattle.ride_index.specs.declared.boarded.BoardingPoint.{BoardingPoint}
use Rattle.ride_index.specs.declared.boarded.Carried.{Carried}
use Rattle.ride_index.specs.declared.boarded.Note.{Note}
use Rattle.ride_index.specs.declared.departure.Departure.{Departure}
use Rattle.ride_index.proofs.RideLists.{Gained}
use Rattle.ride_index.proofs.StartedRides.{of_alighting, to_alighting}

-- ---- lists

pub but_none : (P R : Ride → Type 0) (xs : List Ride) → ((x : Ride) → P x → R x) → GainsBut P R xs xs
but_none P R xs none = record { kept = λ x c. c; each = λ x c. inl c; whole = λ x p. inr (none x p) }

pub but_gained : (P R : Ride → Type 0) (before after : List Ride) → Gained P before after → GainsBut P R before after
but_gained P R before after new = record {
  kept = λ x c. (new x).1 (inl c);
  each = λ x c. (new x).0 c;
  whole = λ x p. inl ((new x).1 (inr p));
}

pub but_same : (P Q R : Ride → Type 0) (before after : List Ride) → ((x : Ride) → P x ↔ Q x) → GainsBut P R before after → GainsBut Q R before after
but_same P Q R before after same new = record {
  kept = new.kept;
  each = λ x c. elim (new.each x c) [ inl old ↦ inl old | inr p ↦ inr ((same x).0 p) ];
  whole = λ x q. new.whole x ((same x).1 q);
}

pub but_both : (P Q S R : Ride → Type 0) (before found after : List Ride) → GainsBut P R before found → GainsBut Q R found after
    → ((x : Ride) → (P x ⊎ Q x) ↔ S x) → GainsBut S R before after
but_both P Q S R before found after first second both = record {
  kept = λ x c. second.kept x (first.kept x c);
  each = λ x c. elim (second.each x c) [
    | inl old ↦ elim (first.each x old) [ inl older ↦ inl older | inr p ↦ inr ((both x).0 (inl p)) ]
    | inr q ↦ inr ((both x).0 (inr q))
  ];
  whole = λ x s. elim ((both x).1 s) [
    | inl p ↦ elim (first.whole x p) [ inl c ↦ inl (second.kept x c) | inr r ↦ inr r ]
    | inr q ↦ second.whole x q
  ];
}

-- ---- rides

free_not_no : Free ≢ No
free_not_no e = cc

free_not_booked : (w : Way) (rule : Option ℕ) → w ≡ Free → w ≡ Book rule → ⊥
free_not_booked w rule e f = (let g : Free ≡ Book rule = sym e ∙ f in cc)

module _ (feed : Feed) (days : DayTable) (trip : Trip) (departure : Departure) (day base zero limit : ℤ) (points : List BoardingPoint) (carried : Carried)
    (sound : IsSoundFeed feed) (is : IsTimedDeparture feed trip departure) (begins : BeginsAt days day base) (counts : zero ≡ base +ℤ shift trip None)
    (may_run : MayRun feed days trip day None) (number : ℕ) (notes : List Note) (before : IsNoted (points, notes) number trip.rows departure.row zero carried) where
  abbrev pub earlier_departure : Departure
  earlier_departure = record { named = before.boarded_at.boards.stop; departs = before.boarded_at.boards.departs; trip = departure.trip; row = before.note.row }

  is_earlier : IsTimedDeparture feed trip earlier_departure
  is_earlier = record {
    of_trip = is.of_trip;
    row = before.boarded_at.row;
    at_row = before.boarded_at.at_row;
    at_stop = before.boarded_at.boards.at_stop;
    timed = before.boarded_at.boards.timed;
    picks_up = λ e. free_not_no (sym before.boarded_at.boards.free ∙ e);
  }

  pub needless : (times : Times) (ride : Ride) → IsRideWith feed times days departure day None limit ride → IsNeedless feed times days points carried ride
  needless times ride w =
      let d = earlier_departure in
      let a : IsAlighting trip.rows (boarded_with departure day None (zero +ℤ pos departure.departs)) zero limit ride =
      to_alighting feed days trip departure day base zero limit None sound is begins counts may_run times ride w in
      let early = before.boarded_at.early in
      let later = a.later in
      let then : ride.arrives ≡ zero +ℤ pos a.alights.arrives = ap (λ r. r.arrives) a.alights.is in
      let other : Ride = left_at (boarded_with d day None (zero +ℤ pos d.departs)) ride.to_row a.alights.stop (zero +ℤ pos a.alights.arrives) in
      let b : IsAlighting trip.rows (boarded_with d day None (zero +ℤ pos d.departs)) zero limit other = record {
        row = a.row;
        at_row = a.at_row;
        later = omega (arith, early, later);
        alights = record { stop = a.alights.stop; arrives = a.alights.arrives; reached = a.alights.reached; drops_off = a.alights.drops_off; is = refl };
        in_time = subst (λ m. m ≤ℤ limit) then a.in_time;
      } in
      let v = of_alighting feed days trip d day base zero limit None sound is_earlier begins counts may_run times other b in
      record {
        point = before.point;
        among = Contains-at points before.note.point before.point before.is_point;
        as_good = before.boarded_at.as_good;
        other = other;
        permitted = v.permitted;
        boards = sym before.boarded_at.boards.at_place;
        leaves = before.boarded_at.boards.leaves;
        alights = sym (ap (λ r. r.alight) a.alights.is);
        arrives = sym then;
        free = λ rule booking.
            let t : booking.0 ≡ trip = slice_get_unique feed.trips departure.trip booking.0 trip booking.2 is.of_trip in
            elim booking.3 [
              | inl boards ↦ (
                  let r : booking.1 ≡ before.boarded_at.row =
                  slice_get_unique trip.rows before.note.row booking.1 before.boarded_at.row (subst (λ x. slice_get x.rows before.note.row ≡ Some booking.1) t boards.0) before.boarded_at.at_row in
                  free_not_booked before.boarded_at.row.pickup rule before.boarded_at.boards.free (subst (λ x. x.pickup ≡ Book rule) r boards.1))
              | inr alights ↦ before.boarded_at.free ride.to_row booking.1 rule later (subst (λ x. slice_get x.rows ride.to_row ≡ Some booking.1) t alights.0) alights.1
            ];
      }

-- ---- drop-offs without booking

-- no drop-off of a record between the two has to be booked
abbrev pub AreFreeTo : List Row → ℕ → ℕ → Type 0
AreFreeTo rows r n = (at : ℕ) (row : Row) (rule : Option ℕ) → r < at → at < n → slice_get rows at ≡ Some row → row.drop_off ≡ Book rule → ⊥

pub none_free : (rows : List Row) (r : ℕ) → AreFreeTo rows r (r + 1)
none_free rows r at row rule past before is booked = omega (arith, past, before)

pub free_more : (rows : List Row) (r n : ℕ) (row : Row) → slice_get rows n ≡ Some row → ((rule : Option ℕ) → row.drop_off ≡ Book rule → ⊥) → AreFreeTo rows r n → AreFreeTo rows r (n + 1)
free_more rows r n row is free so_far at other rule past before found booked = elim (cases_order at n) [
  | inl e ↦ (
      let same : other ≡ row = slice_get_unique rows n other row (subst (λ k. slice_get rows k ≡ Some other) e found) is in
      free rule (subst (λ x. x.drop_off ≡ Book rule) same booked))
  | inr (inl less) ↦ so_far at other rule past less found booked
  | inr (inr more) ↦ absurd (omega (arith, before, more))
]

pub all_free : (rows : List Row) (r n : ℕ) → length rows ≤ n → AreFreeTo rows r n → AreFreeAfter rows r
all_free rows r n size so_far at row rule past found booked =
    let within = slice_get_within rows at row found in
    so_far at row rule past (omega (arith, within, size)) found booked

-- what the code tests
pub boarded_at : (rows : List Row) (at r : ℕ) (row : Row) (from zero : ℤ) (point : BoardingPoint) (carried : Carried) → from ≡ zero → at ≤ r → IsAsGood point.carried carried
    → slice_get rows at ≡ Some row → CanBoard row from point → AreFreeAfter rows r → IsBoardedAt rows at r zero point carried
boarded_at rows at r row from zero point carried same early as_good at_row boards free = record {
  early = early;
  as_good = as_good;
  row = row;
  at_row = at_row;
  boards = subst (λ z. CanBoard row z point) same boards;
  free = free;
}
