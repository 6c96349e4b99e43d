-- Of the flaws of a journey one is the first.
--
-- A flaw has a cause: the number of the rides, a test of one ride, or a test of the end. Two causes
-- can't both hold.
use Rattle.std.proofs.Common.{◌≡◌, ℕ, zero, suc, ◌+◌, ◌-◌, ◌<◌, List, [], Some, length, slice_get, refl, sym, ◌∙◌, ap, subst, inl, inr, arith}
use Rattle.std.proofs.lemmas.Bool.{cases_order}
use Rattle.std.proofs.lemmas.Option.{none-some, slice_get_within}
use Rattle.flex_model.specs.declared.feed.Feed.{Feed}
use Rattle.flex_model.specs.declared.flaw.JourneyFlaw.{JourneyFlaw}
use Rattle.flex_model.specs.declared.flaw.JourneyFlaw.TheVariants as journey
use Rattle.flex_model.specs.declared.flaw.RideFlaw.{RideFlaw}
use Rattle.flex_model.specs.declared.moment.DayTable.{DayTable}
use Rattle.flex_model.specs.declared.query.Query.{Query}
use Rattle.flex_model.specs.declared.ride.Ride.{Ride}
use Rattle.flex_model.specs.declared.times.Times.{Times}
use Rattle.flex_model.specs.Booking.{IsBookable}
use Rattle.flex_model.specs.Change.{HasEgress}
use Rattle.flex_model.specs.Flaw.{HasWay, IsFirstFlaw, IsFirstJourneyFlaw, IsInTime, IsReached, IsThrough, PassesAt, PassesBefore}
use Rattle.flex_model.specs.Journey.{EndsInTime}
use Rattle.flex_model.specs.Ride.{IsPermittedRide}
use Rattle.journey_judge.proofs.FlawOrder.{none_first, one_first}
use Rattle.flex_model.proofs.Found.{slice_get_unique}

-- what can be amiss with a ride of a journey
data RideCause : Type 0 where
  NotPermitted : RideFlaw → RideCause
  NotBooked : RideCause
  NotReached : RideCause
  NotInTime : RideCause

-- what can be amiss with rides as a journey; rides count from 0 here
data Cause : Type 0 where
  None : Cause
  Many : Cause
  At : ℕ → RideCause → Cause
  Nowhere : Cause
  Late : Cause

-- the flaw that has the cause
ride_flaw_of : ℕ → RideCause → JourneyFlaw
ride_flaw_of k (NotPermitted flaw) = journey.Ride (suc k) flaw
ride_flaw_of k NotBooked = journey.NotBookable (suc k)
ride_flaw_of zero NotReached = journey.NoAccess
ride_flaw_of (suc k) NotReached = journey.NoChange (suc (suc k))
ride_flaw_of k NotInTime = journey.TooEarly (suc k)

flaw_of : Cause → JourneyFlaw
flaw_of None = journey.NoRide
flaw_of Many = journey.TooManyRides
flaw_of (At k cause) = ride_flaw_of k cause
flaw_of Nowhere = journey.NoEgress
flaw_of Late = journey.TooLate

module _ (feed : Feed) (times : Times) (days : DayTable) (query : Query) (rides : List Ride) where
  -- the ride has the cause
  RideHas : ℕ → Ride → RideCause → Type 0
  RideHas k ride (NotPermitted flaw) = IsFirstFlaw feed times days ride flaw
  RideHas k ride NotBooked = IsPermittedRide feed times days ride × (IsBookable feed days ride query.now → ⊥)
  RideHas k ride NotReached = IsPermittedRide feed times days ride × IsBookable feed days ride query.now × (HasWay feed times query rides k ride → ⊥)
  RideHas k ride NotInTime = IsPermittedRide feed times days ride × IsBookable feed days ride query.now × HasWay feed times query rides k ride × (IsInTime feed times query rides k ride → ⊥)

  -- the cause holds, and none before it
  Has : Cause → Type 0
  Has None = rides ≡ []
  Has Many = query.transfers + 1 < length rides
  Has (At k cause) = (ride : Ride) × IsReached feed times days query rides k ride × RideHas k ride cause
  Has Nowhere = (last : Ride) × IsThrough feed times days query rides last × ((seconds : ℕ) → HasEgress times query last.alight seconds → ⊥)
  Has Late = (last : Ride) × (seconds : ℕ) × IsThrough feed times days query rides last × HasEgress times query last.alight seconds × (EndsInTime times query last → ⊥)

  -- a flaw comes from a cause
  cause_of : (flaw : JourneyFlaw) → IsFirstJourneyFlaw feed times days query rides flaw → (cause : Cause) × Has cause × (flaw ≡ flaw_of cause)
  unfolding Has RideHas flaw_of ride_flaw_of
  cause_of journey.NoRide h = (None, h, refl)
  cause_of journey.TooManyRides h = (Many, h, refl)
  cause_of (journey.Ride zero flaw) h = absurd h
  cause_of (journey.Ride (suc k) flaw) h = (At k (NotPermitted flaw), (h.0, h.1, h.2), refl)
  cause_of (journey.NotBookable zero) h = absurd h
  cause_of (journey.NotBookable (suc k)) h = (At k NotBooked, (h.0, h.1, (h.2, h.3)), refl)
  cause_of journey.NoAccess h = (At zero NotReached, (h.0, h.1.reached, (h.1.permitted, h.1.bookable, h.2)), refl)
  cause_of (journey.NoChange zero) h = absurd h
  cause_of (journey.NoChange (suc zero)) h = absurd h
  cause_of (journey.NoChange (suc (suc k))) h = (At (suc k) NotReached, (h.0, h.1.reached, (h.1.permitted, h.1.bookable, h.2)), refl)
  cause_of (journey.TooEarly zero) h = absurd h
  cause_of (journey.TooEarly (suc k)) h = (At k NotInTime, (h.0, h.1.reached, (h.1.permitted, h.1.bookable, h.2, h.3)), refl)
  cause_of journey.NoEgress h = (Nowhere, h, refl)
  cause_of journey.TooLate h = (Late, h, refl)

  -- of one ride one cause holds
  one_ride_cause : (k : ℕ) (ride : Ride) (a b : RideCause) → RideHas k ride a → RideHas k ride b → a ≡ b
  unfolding RideHas
  one_ride_cause k ride (NotPermitted f) (NotPermitted g) p q = ap NotPermitted (one_first feed times days ride f g p q)
  one_ride_cause k ride (NotPermitted f) NotBooked p q = absurd (none_first feed times days ride f q.0 p)
  one_ride_cause k ride (NotPermitted f) NotReached p q = absurd (none_first feed times days ride f q.0 p)
  one_ride_cause k ride (NotPermitted f) NotInTime p q = absurd (none_first feed times days ride f q.0 p)
  one_ride_cause k ride NotBooked (NotPermitted g) p q = absurd (none_first feed times days ride g p.0 q)
  one_ride_cause k ride NotBooked NotBooked p q = refl
  one_ride_cause k ride NotBooked NotReached p q = absurd (p.1 q.1)
  one_ride_cause k ride NotBooked NotInTime p q = absurd (p.1 q.1)
  one_ride_cause k ride NotReached (NotPermitted g) p q = absurd (none_first feed times days ride g p.0 q)
  one_ride_cause k ride NotReached NotBooked p q = absurd (q.1 p.1)
  one_ride_cause k ride NotReached NotReached p q = refl
  one_ride_cause k ride NotReached NotInTime p q = absurd (p.2 q.2)
  one_ride_cause k ride NotInTime (NotPermitted g) p q = absurd (none_first feed times days ride g p.0 q)
  one_ride_cause k ride NotInTime NotBooked p q = absurd (q.1 p.1)
  one_ride_cause k ride NotInTime NotReached p q = absurd (q.2 p.2)
  one_ride_cause k ride NotInTime NotInTime p q = refl

  -- where one is in time, there is a way
  pub way_of : (k : ℕ) (ride : Ride) → IsInTime feed times query rides k ride → HasWay feed times query rides k ride
  way_of zero ride h = (h.0, h.1)
  way_of (suc k) ride h = (h.2.0, (h.0, h.1, h.2.1))

  -- a ride with a cause doesn't pass
  not_passed : (k : ℕ) (ride : Ride) (cause : RideCause) → RideHas k ride cause → PassesAt feed times days query rides k ride → ⊥
  unfolding RideHas
  not_passed k ride (NotPermitted f) p passes = none_first feed times days ride f passes.permitted p
  not_passed k ride NotBooked p passes = p.1 passes.bookable
  not_passed k ride NotReached p passes = p.2 (way_of k ride passes.in_time)
  not_passed k ride NotInTime p passes = p.3 passes.in_time

  -- and so not all rides before a later index do
  not_before : (k j : ℕ) (cause : RideCause) → Has (At k cause) → k < j → PassesBefore feed times days query rides j → ⊥
  unfolding Has
  not_before k j cause p lt before = not_passed k p.0 cause p.2 (before.each k p.0 lt p.1.is_ride)

  within : (k : ℕ) (cause : RideCause) → Has (At k cause) → k < length rides
  unfolding Has
  within k cause p = slice_get_within rides k p.0 p.1.is_ride

  no_ride_at : (k : ℕ) (ride : Ride) → rides ≡ [] → slice_get rides k ≡ Some ride → ⊥
  no_ride_at k ride e is = none-some ride (subst (λ rs. slice_get rs k ≡ Some ride) e is)

  one_at : (j k : ℕ) (a b : RideCause) → Has (At j a) → Has (At k b) → At j a ≡ At k b
  unfolding Has
  one_at j k a b p q = elim (cases_order j k) [
    | inl same ↦ (
        let ride : p.0 ≡ q.0 = slice_get_unique rides k p.0 q.0 (subst (λ i. slice_get rides i ≡ Some p.0) same p.1.is_ride) q.1.is_ride in
        let cause = one_ride_cause k q.0 a b (subst (λ r. RideHas k r a) ride (subst (λ i. RideHas i p.0 a) same p.2)) q.2 in
        ap (λ i. At i a) same ∙ ap (At k) cause)
    | inr either ↦ (elim either [
      | inl less ↦ absurd (not_before j k a p less q.1.before)
      | inr more ↦ absurd (not_before k j b q more p.1.before)
    ])
  ]

  one_cause : (a b : Cause) → Has a → Has b → a ≡ b
  unfolding Has
  one_cause None None p q = refl
  one_cause None Many p q = absurd (let none = ap length p in omega (arith, none))
  one_cause None (At k b) p q = absurd (no_ride_at k q.0 p q.1.is_ride)
  one_cause None Nowhere p q = absurd (no_ride_at (length rides - 1) q.0 p q.1.is_last)
  one_cause None Late p q = absurd (no_ride_at (length rides - 1) q.0 p q.2.is_last)
  one_cause Many None p q = absurd (let none = ap length q in omega (arith, none))
  one_cause Many Many p q = refl
  one_cause Many (At k b) p q = absurd (let few = q.1.before.few in omega arith)
  one_cause Many Nowhere p q = absurd (let few = q.1.all.few in omega arith)
  one_cause Many Late p q = absurd (let few = q.2.all.few in omega arith)
  one_cause (At j a) None p q = absurd (no_ride_at j p.0 q p.1.is_ride)
  one_cause (At j a) Many p q = absurd (let few = p.1.before.few in omega arith)
  one_cause (At j a) (At k b) p q = one_at j k a b p q
  one_cause (At j a) Nowhere p q = absurd (not_before j (length rides) a p (within j a p) q.1.all)
  one_cause (At j a) Late p q = absurd (not_before j (length rides) a p (within j a p) q.2.all)
  one_cause Nowhere None p q = absurd (no_ride_at (length rides - 1) p.0 q p.1.is_last)
  one_cause Nowhere Many p q = absurd (let few = p.1.all.few in omega arith)
  one_cause Nowhere (At k b) p q = absurd (not_before k (length rides) b q (within k b q) p.1.all)
  one_cause Nowhere Nowhere p q = refl
  one_cause Nowhere Late p q =
      let last = slice_get_unique rides (length rides - 1) p.0 q.0 p.1.is_last q.2.is_last in
      absurd (p.2 q.1 (subst (λ r. HasEgress times query r.alight q.1) (sym last) q.3))
  one_cause Late None p q = absurd (no_ride_at (length rides - 1) p.0 q p.2.is_last)
  one_cause Late Many p q = absurd (let few = p.2.all.few in omega arith)
  one_cause Late (At k b) p q = absurd (not_before k (length rides) b q (within k b q) p.2.all)
  one_cause Late Nowhere p q =
      let last = slice_get_unique rides (length rides - 1) p.0 q.0 p.2.is_last q.1.is_last in
      absurd (q.2 p.1 (subst (λ r. HasEgress times query r.alight p.1) last p.3))
  one_cause Late Late p q = refl

  pub one_flaw : (a b : JourneyFlaw) → IsFirstJourneyFlaw feed times days query rides a → IsFirstJourneyFlaw feed times days query rides b → a ≡ b
  one_flaw a b p q =
      let first = cause_of a p in
      let second = cause_of b q in
      first.2 ∙ ap flaw_of (one_cause first.0 second.0 first.1 second.1) ∙ sym second.2
