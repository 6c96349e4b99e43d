-- The least deadline of rides, found one after the other.
use Rattle.std.proofs.Common.{◌≡◌, ◌⊎◌, ℕ, ◌+◌, ◌<◌, List, Some, length, slice_get, get_or, refl, sym, ◌∙◌, subst, inl, inr, arith}
use Rattle.std.proofs.lemmas.Bool.{cases_lt}
use Rattle.std.proofs.lemmas.Option.{slice_get-get_or, slice_get_within}
use Rattle.flex_model.specs.declared.feed.Feed.{Feed}
use Rattle.flex_model.specs.declared.moment.DayTable.{DayTable}
use Rattle.flex_model.specs.declared.moment.Deadline.{Deadline}
use Rattle.flex_model.specs.declared.moment.Deadline.TheVariants.{Never}
use Rattle.flex_model.specs.declared.ride.Ride.{Ride}
use Rattle.flex_model.specs.Booking.{IsDeadline}
use Rattle.flex_model.specs.Deadline.{IsNoLater, lesser}
use Rattle.flex_model.specs.Journey.{IsLeastDeadline}
use Rattle.flex_model.proofs.Bookings.{IsDeadline_unique}
use Rattle.flex_model.proofs.Found.{Contains-at, index_of, slice_get_unique}
use Rattle.journey_judge.proofs.JourneyTests.{no_ride}
use Rattle.flex_model.proofs.Orders.{IsNoLater_antisym, IsNoLater_trans, lesser_is, lesser_left, lesser_right}

module _ (feed : Feed) (days : DayTable) (rides : List Ride) where
  -- a ride before index k has this deadline
  pub record IsReachedBefore (k : ℕ) (deadline : Deadline) : Type 0 where
    pub index : ℕ
    pub early : index < k
    pub ride : Ride
    pub is_ride : slice_get rides index ≡ Some ride
    pub booked : IsDeadline feed days ride deadline

  -- the least deadline of the rides before index k, and never where there is none
  pub record IsLeastBefore (k : ℕ) (deadline : Deadline) : Type 0 where
    pub reached : (deadline ≡ Never) ⊎ IsReachedBefore k deadline
    pub least : (j : ℕ) (ride : Ride) (its : Deadline) → j < k → slice_get rides j ≡ Some ride → IsDeadline feed days ride its → IsNoLater deadline its
    pub all : (j : ℕ) (ride : Ride) → j < k → slice_get rides j ≡ Some ride → (its : Deadline) × IsDeadline feed days ride its

  pub none_yet : IsLeastBefore 0 Never
  none_yet = record { reached = inl refl; least = λ j ride its lt is d. absurd (omega arith); all = λ j ride lt is. absurd (omega arith) }

  later_reached : (k : ℕ) (deadline : Deadline) → IsReachedBefore k deadline → IsReachedBefore (k + 1) deadline
  later_reached k deadline r = record { index = r.index; early = (let lt = r.early in omega arith); ride = r.ride; is_ride = r.is_ride; booked = r.booked }

  -- one more ride
  pub one_more : (k : ℕ) (ride : Ride) (least deadline : Deadline) → slice_get rides k ≡ Some ride → IsDeadline feed days ride deadline → IsLeastBefore k least → IsLeastBefore (k + 1) (lesser least deadline)
  one_more k ride least deadline is booked before = record { reached = reached; least = no_later; all = all }
    where
      here : IsReachedBefore (k + 1) deadline
      here = record { index = k; early = omega arith; ride = ride; is_ride = is; booked = booked }

      reached : (lesser least deadline ≡ Never) ⊎ IsReachedBefore (k + 1) (lesser least deadline)
      reached = elim (lesser_is least deadline) [
        | inl first ↦ (elim before.reached [ inl never ↦ inl (first ∙ never) | inr r ↦ inr (subst (IsReachedBefore (k + 1)) (sym first) (later_reached k least r)) ])
        | inr second ↦ inr (subst (IsReachedBefore (k + 1)) (sym second) here)
      ]

      no_later : (j : ℕ) (other : Ride) (its : Deadline) → j < k + 1 → slice_get rides j ≡ Some other → IsDeadline feed days other its → IsNoLater (lesser least deadline) its
      no_later j other its lt at d = elim (cases_lt j k) [
        | inl less ↦ IsNoLater_trans (lesser least deadline) least its (lesser_left least deadline) (before.least j other its less at d)
        | inr more ↦ (
            let same : k ≡ j = omega arith in
            let one = slice_get_unique rides j ride other (subst (λ i. slice_get rides i ≡ Some ride) same is) at in
            let its_own = IsDeadline_unique feed days other deadline its (subst (λ r. IsDeadline feed days r deadline) one booked) d in
            subst (IsNoLater (lesser least deadline)) its_own (lesser_right least deadline))
      ]

      all : (j : ℕ) (other : Ride) → j < k + 1 → slice_get rides j ≡ Some other → (its : Deadline) × IsDeadline feed days other its
      all j other lt at = elim (cases_lt j k) [
        | inl less ↦ before.all j other less at
        | inr more ↦ (
            let same : k ≡ j = omega arith in
            (deadline, subst (λ r. IsDeadline feed days r deadline) (slice_get_unique rides j ride other (subst (λ i. slice_get rides i ≡ Some ride) same is) at) booked))
      ]

  is_least : (least : Deadline) → IsLeastBefore (length rides) least → IsReachedBefore (length rides) least → IsLeastDeadline feed days rides least
  is_least least before r = record {
    ride = r.ride;
    among = Contains-at rides r.index r.ride r.is_ride;
    reached = r.booked;
    least = λ other its c d. let found = index_of rides other c in before.least found.0 other its (slice_get_within rides found.0 other found.1) found.1 d;
  }

  -- all rides, of which there are some
  pub least_of_all : (least : Deadline) → 0 < length rides → IsLeastBefore (length rides) least → IsLeastDeadline feed days rides least
  least_of_all least some before = elim before.reached [
    | inl never ↦ (
        let first : slice_get rides 0 ≡ Some (get_or rides 0 no_ride) = slice_get-get_or rides 0 no_ride some in
        let its = before.all 0 (get_or rides 0 no_ride) some first in
        let after = before.least 0 (get_or rides 0 no_ride) its.0 some first its.1 in
        let same : its.0 ≡ least = IsNoLater_antisym its.0 least (subst (IsNoLater its.0) (sym never) tt) after in
        is_least least before (record { index = 0; early = some; ride = get_or rides 0 no_ride; is_ride = first; booked = subst (IsDeadline feed days (get_or rides 0 no_ride)) same its.1 }))
    | inr r ↦ is_least least before r
  ]
