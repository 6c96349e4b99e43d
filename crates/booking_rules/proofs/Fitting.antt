-- The code's numbers keep the values of days and moments.
use Rattle.std.proofs.Common.{◌≡◌, ℕ, zero, suc, ◌+◌, ◌<◌, ◌≤◌, ℤ, pos, negsuc, ◌+ℤ◌, ◌≤ℤ◌, Option, Some, None, length, subst, w32, w64, to_z, of_z, arith}
use Rattle.std.proofs.lemmas.Int.{ints, to_z-of_z}
use Rattle.flex_model.specs.declared.feed.Feed.{Feed}
use Rattle.flex_model.specs.declared.moment.DayTable.{DayTable}
use Rattle.flex_model.specs.declared.ride.Ride.{Ride}
use Rattle.flex_model.specs.declared.service.Service.{Service}
use Rattle.flex_model.specs.ServiceDay.{IsBack, IsDaysBack, IsTravelDay}
use Rattle.flex_model.specs.SoundQuery.{IsSoundDayTable}
use Rattle.booking_rules.specs.Openings.{IsInRange}

pub moment_fits : (z : ℤ) → pos 0 ≤ℤ (z +ℤ pos 60000000) → z ≤ℤ pos 20000000000 → to_z w64 (of_z w64 z) ≡ z
moment_fits (pos n) low high = to_z-of_z w64 (pos n) (record { sfits = omega (arith, ints) })
moment_fits (negsuc n) low high = to_z-of_z w64 (negsuc n) (record { sfits = omega (arith, ints) })

pub day_fits : (z : ℤ) → pos 0 ≤ℤ z → z ≤ℤ pos 1000000 → to_z w32 (of_z w32 z) ≡ z
day_fits (pos n) low high = to_z-of_z w32 (pos n) (record { sfits = omega (arith, ints) })
day_fits (negsuc n) low high = absurd (omega (arith, ints))

-- a travel day has 1,504 days before it
pub travel_bounds : (days : DayTable) (day : ℤ) → IsSoundDayTable days → IsTravelDay days day → (pos 1504 ≤ℤ day) × (day ≤ℤ pos 101525)
travel_bounds days day sound travels =
    let count : length days.base ≡ 1526 = sound.count in
    let low : pos 0 ≤ℤ days.first = sound.low in
    let high : days.first ≤ℤ pos 100000 = sound.high in
    let within : travels.0 < length days.base = travels.1 in
    let late : length days.base ≤ travels.0 + 22 = travels.2 in
    let is : day ≡ days.first +ℤ pos travels.0 = travels.3 in
    (omega (arith, ints), omega (arith, ints))

days_back_bounds : (service : Service) (day : ℤ) (n : ℕ) (earlier : ℤ) → IsDaysBack service day n earlier → (day ≤ℤ (earlier +ℤ pos 1500)) × (earlier ≤ℤ day)
days_back_bounds service day zero earlier p = (omega (arith, ints), omega (arith, ints))
days_back_bounds service day (suc n) earlier p =
    let distance : earlier +ℤ pos (p.between + 1) ≡ day = p.distance in
    let near : p.between + 1 ≤ 1500 = p.near in
    (omega (arith, ints), omega (arith, ints))

-- a day that is counted back is at most 1,500 days earlier
pub back_bounds : (feed : Feed) (service : Option ℕ) (day : ℤ) (n : ℕ) (earlier : ℤ) → n ≤ 1500 → IsBack feed service day n earlier
    → (day ≤ℤ (earlier +ℤ pos 1500)) × (earlier ≤ℤ day)
back_bounds feed None day n earlier few p =
    let is : earlier +ℤ pos n ≡ day = p in
    (omega (arith, ints), omega (arith, ints))
back_bounds feed (Some s) day n earlier few p = days_back_bounds p.0 day n earlier p.2

-- what holds of the code's numbers for the day and the departure of a ride holds of the ride's own
pub as_written : (days : DayTable) (ride : Ride) → IsSoundDayTable days → IsTravelDay days ride.day → IsInRange ride.departs → (P : ℤ → ℤ → Type 0)
    → P (to_z w32 (of_z w32 ride.day)) (to_z w64 (of_z w64 ride.departs)) → P ride.day ride.departs
as_written days ride sound travels departs P holds =
    let bounds = travel_bounds days ride.day sound travels in
    let from : pos 0 ≤ℤ ride.departs = departs.low in
    let to : ride.departs ≤ℤ pos 10000000000 = departs.high in
    let day = day_fits ride.day (omega (arith, ints, bounds.0)) (omega (arith, ints, bounds.1)) in
    subst (P ride.day) (moment_fits ride.departs (omega (arith, ints)) (omega (arith, ints))) (subst (λ d. P d (to_z w64 (of_z w64 ride.departs))) day holds)
