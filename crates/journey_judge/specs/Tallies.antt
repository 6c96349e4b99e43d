-- What is known of the rides of a journey that were tried so far.
--
-- A tally has the least deadline of some rides and their walk. This project's own.
use Rattle.std.specs.Prelude.{◌≡◌, ◌↔◌, ℕ, zero, suc, ◌-◌, ◌*◌, ◌≤◌, List, Some, length, slice_get}
use Rattle.flex_model.specs.declared.feed.Feed.{Feed}
use Rattle.flex_model.specs.declared.moment.DayTable.{DayTable}
use Rattle.flex_model.specs.declared.query.Query.{Query}
use Rattle.flex_model.specs.declared.ride.Ride.{Ride}
use Rattle.flex_model.specs.declared.times.Times.{Times}
use Rattle.flex_model.specs.Booking.{IsDeadline}
use Rattle.flex_model.specs.Flaw.{PassesAt, PassesBefore}
use Rattle.flex_model.specs.Journey.{ChangesOnFoot, IsLeastDeadline, StartsOnFoot, WalksTo, change_walk, counted}
use Rattle.journey_judge.specs.declared.tally.Tally.{Tally}

-- the walk that counts on a way of so many seconds to the ride, which stands at index k
abbrev pub IsWalkOfWay : Query → List Ride → ℕ → Ride → ℕ → ℕ → Type 0
IsWalkOfWay query rides zero ride seconds walk = walk ≡ counted query seconds
IsWalkOfWay query rides (suc k) ride seconds walk =
    (previous : Ride) × (slice_get rides k ≡ Some previous)
    × (walk ≡ counted query (change_walk previous.alight ride.board seconds))

-- the ride at index k is reached in time from the origin or the ride before it, and this walk
-- counts
abbrev pub ReachesOnFoot : Feed → Times → Query → List Ride → ℕ → Ride → ℕ → Type 0
ReachesOnFoot feed times query rides zero ride walk = StartsOnFoot times query ride walk
ReachesOnFoot feed times query rides (suc k) ride walk =
    (previous : Ride) × (slice_get rides k ≡ Some previous)
    × ChangesOnFoot feed query previous.alight previous.arrives ride walk

module _ (feed : Feed) (times : Times) (days : DayTable) (query : Query) (rides : List Ride) where
  -- The ride at index k passes its tests, and the tally has its deadline, and just the walk of the
  -- way to it.
  pub record IsOneTally (k : ℕ) (tally : Tally) : Type 0 where
    pub ride : Ride
    pub is_ride : slice_get rides k ≡ Some ride
    pub passes : PassesAt feed times days query rides k ride
    pub booked : IsDeadline feed days ride tally.deadline
    pub walks : (walk : ℕ) → ReachesOnFoot feed times query rides k ride walk ↔ (walk ≡ tally.walk)
    pub short : tally.walk ≤ 86400

  -- All rides pass their tests, and the tally has their least deadline, and just the walk up to the
  -- last one.
  pub record IsTally (tally : Tally) : Type 0 where
    pub passes : PassesBefore feed times days query rides (length rides)
    pub booked : IsLeastDeadline feed days rides tally.deadline
    pub walks : (walk : ℕ)
        → WalksTo feed times query rides (length rides - 1) walk ↔ (walk ≡ tally.walk)
    pub short : tally.walk ≤ 86400 * length rides
