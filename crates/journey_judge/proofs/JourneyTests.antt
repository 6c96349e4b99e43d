-- The tests of rides as a journey, one after the other.
use Rattle.std.proofs.Common.{◌≡◌, ◌↔◌, inl, inr, ℕ, zero, suc, ◌+◌, ◌-◌, ◌<◌, ◌≤◌, ℤ, pos, ◌+ℤ◌, ◌≤ℤ◌, List, Option, Some, None, get_or, length, slice_get, refl, sym, ◌∙◌, ap, subst, arith}
use Rattle.std.proofs.lemmas.Bool.{cases_lt}
use Rattle.std.proofs.lemmas.Bool.Decides.{nat_tests}
use Rattle.std.proofs.lemmas.Option.{get_or_from_slice_get, none-some, slice_get-get_or}
use Rattle.flex_model.specs.declared.feed.Feed.{Feed}
use Rattle.flex_model.specs.declared.flaw.JourneyFlaw.TheVariants as journey
use Rattle.flex_model.specs.declared.flaw.RideFlaw.{RideFlaw}
use Rattle.flex_model.specs.declared.moment.DayTable.{DayTable}
use Rattle.flex_model.specs.declared.place.Place.TheVariants.{Stop}
use Rattle.flex_model.specs.declared.query.Query.{Query}
use Rattle.flex_model.specs.declared.ride.Ride.{Ride}
use Rattle.flex_model.specs.declared.times.Times.{Times}
use Rattle.flex_model.specs.Booking.{IsBookable}
use Rattle.flex_model.specs.Change.{HasAccess, HasChange}
use Rattle.flex_model.specs.Flaw.{HasWay, IsFirstFlaw, IsFirstJourneyFlaw, IsInTime, IsReached, IsReadyAt, IsWay, PassesAt, PassesBefore, no_way_to}
use Rattle.flex_model.specs.Ride.{IsPermittedRide}
use Rattle.flex_model.specs.Journey.{change_walk, counted}
use Rattle.flex_model.proofs.Found.{slice_get_unique}
use Rattle.journey_judge.specs.Tallies.{IsWalkOfWay, ReachesOnFoot}

-- what a moment so much later says, where it is found just up to a limit
module _ (later limit : ℤ) (found : Option ℤ) (after : (m : ℤ) → ((m ≡ later) × (m ≤ℤ limit)) ↔ (found ≡ Some m)) where
  pub not_by : found ≡ None → later ≤ℤ limit → ⊥
  not_by none by = none-some later (sym none ∙ (after later).0 (refl, by))

  pub by_then : (m : ℤ) → found ≡ Some m → (m ≡ later) × (later ≤ℤ limit)
  by_then m some = let both = (after m).1 some in (both.0, subst (λ z. z ≤ℤ limit) both.0 both.1)

-- what indexing past the end would give
abbrev pub no_ride : Ride
no_ride = record { trip = 0; day = pos 0; start = None; from_row = 0; to_row = 0; board = Stop 0; alight = Stop 0; departs = pos 0; arrives = pos 0 }

module _ (feed : Feed) (times : Times) (query : Query) (rides : List Ride) where
  -- the way to the first ride is an access
  pub way_to_first : (k : ℕ) (d : Ride) → k ≡ 0 → k < length rides → (found : Option ℕ) → ((seconds : ℕ) → HasAccess times query (get_or rides k d).board seconds ↔ (found ≡ Some seconds))
      → (ride : Ride) (seconds : ℕ) → slice_get rides k ≡ Some ride → IsWay feed times query rides k ride seconds ↔ (found ≡ Some seconds)
  way_to_first zero d first within found access ride seconds is =
      subst (λ r. HasAccess times query r.board seconds ↔ (found ≡ Some seconds)) (get_or_from_slice_get rides zero ride d is) (access seconds)
  way_to_first (suc k) d first within found access ride seconds is = absurd (omega arith)

  -- the way to a later ride is a change
  pub way_to_next : (k : ℕ) (d e : Ride) → (k ≡ 0 → ⊥) → k < length rides → (found : Option ℕ)
      → ((seconds : ℕ) → HasChange feed (get_or rides (k - 1) d).alight (get_or rides k e).board seconds ↔ (found ≡ Some seconds))
      → (ride : Ride) (seconds : ℕ) → slice_get rides k ≡ Some ride → IsWay feed times query rides k ride seconds ↔ (found ≡ Some seconds)
  way_to_next zero d e next within found change ride seconds is = absurd (next refl)
  way_to_next (suc k) d e next within found change ride seconds is =
      let here : get_or rides (suc k) e ≡ ride = get_or_from_slice_get rides (suc k) ride e is in
      let before : suc k - 1 ≡ k = omega arith in
      let at : slice_get rides k ≡ Some (get_or rides k d) = slice_get-get_or rides k d (omega arith) in
      let both : HasChange feed (get_or rides k d).alight ride.board seconds ↔ (found ≡ Some seconds) =
      subst (λ r. HasChange feed (get_or rides k d).alight r.board seconds ↔ (found ≡ Some seconds)) here
      (subst (λ i. HasChange feed (get_or rides i d).alight (get_or rides (suc k) e).board seconds ↔ (found ≡ Some seconds)) before (change seconds)) in (
        λ way. both.0 (subst (λ r. HasChange feed r.alight ride.board seconds) (slice_get_unique rides k way.0 (get_or rides k d) way.1 at) way.2),
        λ some. (get_or rides k d, at, both.1 some),
      )

  -- one is in time just where the way leads there by the departure
  pub in_time : (k : ℕ) (ride : Ride) (start : ℤ) (seconds : ℕ) → IsReadyAt query rides k start → IsWay feed times query rides k ride seconds
      → (start +ℤ pos seconds) ≤ℤ ride.departs → IsInTime feed times query rides k ride
  in_time zero ride start seconds is way by = (seconds, way, subst (λ m. (m +ℤ pos seconds) ≤ℤ ride.departs) is by)
  in_time (suc k) ride start seconds is way by =
      let same = slice_get_unique rides k is.0 way.0 is.1 way.1 in
      let from : start ≡ way.0.arrives = is.2 ∙ ap (λ r. r.arrives) same in
      (way.0, way.1, (seconds, way.2, subst (λ m. (m +ℤ pos seconds) ≤ℤ ride.departs) from by))

  pub not_in_time : (k : ℕ) (ride : Ride) (start : ℤ) (seconds : ℕ) → IsReadyAt query rides k start → ((other : ℕ) → IsWay feed times query rides k ride other → other ≡ seconds)
      → ((start +ℤ pos seconds) ≤ℤ ride.departs → ⊥) → IsInTime feed times query rides k ride → ⊥
  not_in_time zero ride start seconds is one late h =
      let same = one h.0 h.1 in
      late (subst (λ m. (m +ℤ pos seconds) ≤ℤ ride.departs) (sym is) (subst (λ s. (query.depart +ℤ pos s) ≤ℤ ride.departs) same h.2))
  not_in_time (suc k) ride start seconds is one late h =
      let same = one h.2.0 (h.0, h.1, h.2.1) in
      let from : h.0.arrives ≡ start = ap (λ r. r.arrives) (slice_get_unique rides k h.0 is.0 h.1 is.1) ∙ sym is.2 in
      late (subst (λ m. (m +ℤ pos seconds) ≤ℤ ride.departs) from (subst (λ s. (h.0.arrives +ℤ pos s) ≤ℤ ride.departs) same h.2.2))

  -- the walk that counts is that of the only way
  pub walk_of_way : (k : ℕ) (ride : Ride) (start : ℤ) (seconds walk : ℕ) → IsReadyAt query rides k start → IsWay feed times query rides k ride seconds
      → ((other : ℕ) → IsWay feed times query rides k ride other → other ≡ seconds) → (start +ℤ pos seconds) ≤ℤ ride.departs → IsWalkOfWay query rides k ride seconds walk
      → (w : ℕ) → ReachesOnFoot feed times query rides k ride w ↔ (w ≡ walk)
  walk_of_way zero ride start seconds walk is way one by counts w = (
    λ foot. foot.3 ∙ ap (counted query) (one foot.0 foot.1) ∙ sym counts,
    λ e. (seconds, way, subst (λ m. (m +ℤ pos seconds) ≤ℤ ride.departs) is by, e ∙ counts),
  )
  walk_of_way (suc k) ride start seconds walk is way one by counts w = (
    λ foot.
        let same = slice_get_unique rides k foot.0 counts.0 foot.1 counts.1 in
        foot.2.3 ∙ ap (λ s. counted query (change_walk foot.0.alight ride.board s)) (one foot.2.0 (foot.0, foot.1, foot.2.1))
        ∙ ap (λ r. counted query (change_walk r.alight ride.board seconds)) same ∙ sym counts.2,
    λ e.
        let same = slice_get_unique rides k counts.0 way.0 counts.1 way.1 in
        let from : start ≡ way.0.arrives = is.2 ∙ ap (λ r. r.arrives) (slice_get_unique rides k is.0 way.0 is.1 way.1) in
        (way.0, way.1, (seconds, way.2, subst (λ m. (m +ℤ pos seconds) ≤ℤ ride.departs) from by, e ∙ counts.2 ∙ ap (λ r. counted query (change_walk r.alight ride.board seconds)) same)),
  )

pub no_access : (number : ℕ) → number ≡ 1 → no_way_to number ≡ journey.NoAccess
no_access number e = grind (arith, nat_tests)

pub no_change : (k : ℕ) → no_way_to (suc (suc k)) ≡ journey.NoChange (suc (suc k))
no_change k = grind (arith, nat_tests)

-- the ride at index k, where those before it pass
module _ (feed : Feed) (times : Times) (days : DayTable) (query : Query) (rides : List Ride) (k : ℕ) (ride : Ride)
    (is_ride : slice_get rides k ≡ Some ride) (before : PassesBefore feed times days query rides k) where
  reached : IsReached feed times days query rides k ride
  reached = record { is_ride = is_ride; before = before }

  pub ride_flaw : (number : ℕ) (flaw : RideFlaw) → number ≡ k + 1 → IsFirstFlaw feed times days ride flaw → IsFirstJourneyFlaw feed times days query rides (journey.Ride number flaw)
  ride_flaw number flaw e first =
      let next : suc k ≡ number = omega arith in
      subst (λ n. IsFirstJourneyFlaw feed times days query rides (journey.Ride n flaw)) next (ride, reached, first)

  pub booking_flaw : (number : ℕ) → number ≡ k + 1 → IsPermittedRide feed times days ride → (IsBookable feed days ride query.now → ⊥)
      → IsFirstJourneyFlaw feed times days query rides (journey.NotBookable number)
  booking_flaw number e permitted refused =
      let next : suc k ≡ number = omega arith in
      subst (λ n. IsFirstJourneyFlaw feed times days query rides (journey.NotBookable n)) next (ride, reached, permitted, refused)

  pub time_flaw : (number : ℕ) → number ≡ k + 1 → IsPermittedRide feed times days ride → IsBookable feed days ride query.now
      → HasWay feed times query rides k ride → (IsInTime feed times query rides k ride → ⊥)
      → IsFirstJourneyFlaw feed times days query rides (journey.TooEarly number)
  time_flaw number e permitted bookable way late =
      let next : suc k ≡ number = omega arith in
      subst (λ n. IsFirstJourneyFlaw feed times days query rides (journey.TooEarly n)) next
      (ride, record { reached = reached; permitted = permitted; bookable = bookable }, way, late)

  pub one_more : PassesAt feed times days query rides k ride → PassesBefore feed times days query rides (k + 1)
  one_more here = record { few = before.few; each = each }
    where
      each : (j : ℕ) (other : Ride) → j < k + 1 → slice_get rides j ≡ Some other → PassesAt feed times days query rides j other
      each j other lt is = elim (cases_lt j k) [
        | inl less ↦ before.each j other less is
        | inr more ↦ (
            let same : k ≡ j = omega arith in
            let its = slice_get_unique rides j ride other (subst (λ i. slice_get rides i ≡ Some ride) same is_ride) is in
            subst (λ r. PassesAt feed times days query rides j r) its (subst (λ i. PassesAt feed times days query rides i ride) same here))
      ]

pub way_flaw : (feed : Feed) (times : Times) (days : DayTable) (query : Query) (rides : List Ride) (k : ℕ) (ride : Ride) → slice_get rides k ≡ Some ride
    → PassesBefore feed times days query rides k → (number : ℕ) → number ≡ k + 1 → IsPermittedRide feed times days ride → IsBookable feed days ride query.now
    → (HasWay feed times query rides k ride → ⊥) → IsFirstJourneyFlaw feed times days query rides (no_way_to number)
way_flaw feed times days query rides zero ride is before number e permitted bookable none =
    subst (IsFirstJourneyFlaw feed times days query rides) (sym (no_access number (omega arith)))
    (ride, record { reached = record { is_ride = is; before = before }; permitted = permitted; bookable = bookable }, none)
way_flaw feed times days query rides (suc k) ride is before number e permitted bookable none =
    let next : suc (suc k) ≡ number = omega arith in
    subst (λ n. IsFirstJourneyFlaw feed times days query rides (no_way_to n)) next
    (subst (IsFirstJourneyFlaw feed times days query rides) (sym (no_change k))
    (ride, record { reached = record { is_ride = is; before = before }; permitted = permitted; bookable = bookable }, none))

pub none_before : (feed : Feed) (times : Times) (days : DayTable) (query : Query) (rides : List Ride) → length rides ≤ query.transfers + 1 → PassesBefore feed times days query rides 0
none_before feed times days query rides few = record { few = few; each = λ j ride lt is. absurd (omega arith) }
