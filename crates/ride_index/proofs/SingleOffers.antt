-- Offers of single rides.
use Rattle.std.proofs.Common.{◌≡◌, inl, inr, ℕ, ◌+◌, ◌*◌, ◌<◌, pos, ◌+ℤ◌, List, [], ◌∷◌, ◌++◌, Contains, get_or, length, take, refl, sym, ◌∙◌, ap, subst, arith}
use Rattle.std.proofs.lemmas.Int.{clamps, ints}
use Rattle.std.proofs.lemmas.List.{take_more}
use Rattle.std.proofs.lemmas.List.Elements.{Contains-append_left, Contains-push, Contains-push_cases}
use Rattle.flex_model.specs.declared.moment.Deadline.{Deadline}
use Rattle.flex_model.specs.declared.moment.Deadline.TheVariants.{At, Never}
use Rattle.flex_model.specs.declared.ride.Ride.{Ride}
use Rattle.flex_model.specs.Booking.{IsDeadline}
use Rattle.flex_model.specs.Deadline.{IsNoLater, lesser}
use Rattle.flex_model.proofs.Bookings.{IsDeadline_unique}
use Rattle.flex_model.proofs.Found.{Contains-first, only_contained}
use Rattle.flex_model.proofs.Orders.{IsNoLater_refl}
use Rattle.booking_rules.specs.Departures.{later}
use Rattle.ride_index.specs.declared.offered_run.OfferedRun.{OfferedRun}
use Rattle.ride_index.specs.declared.wanted.Wanted.{Wanted}
use Rattle.ride_index.specs.OfferedRuns.{AreOffersOf, GainsOffersOf, IsWantedRide, nth_deadline, nth_ride}
use Rattle.ride_index.proofs.OfferLists.{gains_both}

later_by_none : (d : Deadline) → later d 0 ≡ d
later_by_none Never = refl
later_by_none (At m) = ap At (omega (arith, ints))

lesser_of_same : (d : Deadline) → lesser d d ≡ d
lesser_of_same Never = refl
lesser_of_same (At m) = ap At (omega (arith, ints, clamps))

-- the first ride of a run, and its deadline
pub first_ride : (run : OfferedRun) → nth_ride run 0 ≡ run.ride
first_ride run =
    let departs : run.ride.departs +ℤ pos (60 * 0) ≡ run.ride.departs = omega (arith, ints) in
    let arrives : run.ride.arrives +ℤ pos (60 * 0) ≡ run.ride.arrives = omega (arith, ints) in
    λ i. record run.ride { departs = departs i; arrives = arrives i }

-- the one run of a single ride
abbrev pub single : Ride → Deadline → OfferedRun
single ride deadline = record { ride = ride; count = 1; closes = deadline; latest = deadline }

single_deadline : (ride : Ride) (deadline : Deadline) → nth_deadline (single ride deadline) 0 ≡ deadline
single_deadline ride deadline = ap (λ d. lesser d deadline) (later_by_none deadline) ∙ lesser_of_same deadline

pub single_offer : (wanted : Wanted) (ride : Ride) (deadline : Deadline) → IsWantedRide wanted ride deadline
    → AreOffersOf (λ x d. IsWantedRide wanted x d × (x ≡ ride)) (single ride deadline ∷ [])
single_offer wanted ride deadline w = record {
  each = λ run k c lt.
      let is : run ≡ single ride deadline = only_contained (single ride deadline) run c in
      let few : k < 1 = subst (λ r. k < r.count) is lt in
      let zeroth : 0 ≡ k = omega arith in
      subst (λ r. IsWantedRide wanted (nth_ride r k) (nth_deadline r k) × (nth_ride r k ≡ ride)) (sym is)
      (subst (λ n. IsWantedRide wanted (nth_ride (single ride deadline) n) (nth_deadline (single ride deadline) n) × (nth_ride (single ride deadline) n ≡ ride)) zeroth
      (subst (λ d. IsWantedRide wanted (nth_ride (single ride deadline) 0) d × (nth_ride (single ride deadline) 0 ≡ ride)) (sym (single_deadline ride deadline))
      (subst (λ x. IsWantedRide wanted x deadline × (x ≡ ride)) (sym (first_ride (single ride deadline))) (w, refl))));
  whole = λ x d h.
      let same : d ≡ deadline = IsDeadline_unique wanted.feed.now wanted.days.now ride d deadline (subst (λ y. IsDeadline wanted.feed.now wanted.days.now y d) h.1 h.0.booked) w.booked in
      record {
        run = single ride deadline;
        among = Contains-first (single ride deadline) [];
        at = 0;
        low = omega arith;
        alights = ap (λ r. r.alight) (sym h.1);
        booked = subst (IsNoLater d) (sym (single_deadline ride deadline)) (subst (IsNoLater d) same (IsNoLater_refl d));
        arrives = (let e : ride.arrives ≡ x.arrives = ap (λ r. r.arrives) (sym h.1) in omega (arith, ints));
      };
}

-- ride by ride
module _ (wanted : Wanted) (rides : List Ride) where
  abbrev pub AmongFirst : ℕ → Ride → Deadline → Type 0
  AmongFirst n x d = IsWantedRide wanted x d × Contains (take n rides) x

  pub next_ride : (n : ℕ) (default : Ride) (before found after : List OfferedRun) → n < length rides → GainsOffersOf (AmongFirst n) before found
      → GainsOffersOf (λ x d. IsWantedRide wanted x d × (x ≡ get_or rides n default)) found after → GainsOffersOf (AmongFirst (n + 1)) before after
  next_ride n default before found after lt so_far new =
      let ride = get_or rides n default in
      let more : take (n + 1) rides ≡ take n rides ++ ride ∷ [] = take_more rides n default lt in
      gains_both (AmongFirst n) (λ x d. IsWantedRide wanted x d × (x ≡ ride)) (AmongFirst (n + 1)) before found after so_far new
      (λ x d. (
        λ h. elim h [
          | inl old ↦ (old.0, subst (λ xs. Contains xs x) (sym more) (Contains-append_left (take n rides) (ride ∷ []) x old.1))
          | inr one ↦ (one.0, subst (λ xs. Contains xs x) (sym more) (subst (Contains (take n rides ++ ride ∷ [])) (sym one.1) (Contains-push (take n rides) ride)))
        ],
        λ h. elim (Contains-push_cases (take n rides) ride x (subst (λ xs. Contains xs x) more h.1)) [
          | inl old ↦ inl (h.0, old)
          | inr same ↦ inr (h.0, sym same)
        ],
      ))
