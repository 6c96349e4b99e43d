-- The departures of a run as the code's numbers keep them.
use Rattle.std.proofs.Common.{◌≡◌, ℕ, ◌-◌, ◌*◌, ◌<◌, ◌≤◌, ℤ, pos, ◌+ℤ◌, ◌≤ℤ◌, w32, w64, to_z, of_z, sym, subst, arith}
use Rattle.std.proofs.lemmas.Int.{ints}
use Rattle.flex_model.specs.declared.feed.Feed.{Feed}
use Rattle.flex_model.specs.declared.moment.DayTable.{DayTable}
use Rattle.flex_model.specs.declared.moment.Deadline.{Deadline}
use Rattle.flex_model.specs.declared.moment.Deadline.TheVariants.{At, Never}
use Rattle.flex_model.specs.declared.ride.Ride.{Ride}
use Rattle.flex_model.specs.declared.ride.Run.{Run}
use Rattle.flex_model.specs.Booking.{IsDeadline}
use Rattle.flex_model.specs.Deadline.{IsNoLater, lesser}
use Rattle.flex_model.specs.ServiceDay.{IsTravelDay}
use Rattle.flex_model.specs.SoundQuery.{IsSoundDayTable}
use Rattle.flex_model.proofs.Bookings.{IsDeadline_unique}
use Rattle.flex_model.proofs.Orders.{lesser_left}
use Rattle.booking_rules.specs.Departures.{LeavesInRange, later, nth_departure, ride_at}
use Rattle.booking_rules.specs.Narrowing.{last_number, nth_ride}
use Rattle.booking_rules.specs.Openings.{IsInRange}
use Rattle.booking_rules.proofs.Fitting.{as_written, moment_fits}
use Rattle.booking_rules.proofs.LaterRides.{deadline_between}

module _ (run : Run) (some : 0 < run.count) (in_range : LeavesInRange run) where
  pub first_in_range : IsInRange run.first
  first_in_range =
      let low : pos 0 ≤ℤ nth_departure run 0 = (in_range 0 some).low in
      let high : nth_departure run 0 ≤ℤ pos 10000000000 = (in_range 0 some).high in
      record { low = omega (arith, ints); high = omega (arith, ints) }

  -- which the code's number keeps
  pub first_fits : to_z w64 (of_z w64 run.first) ≡ run.first
  first_fits =
      let low : pos 0 ≤ℤ run.first = first_in_range.low in
      let high : run.first ≤ℤ pos 10000000000 = first_in_range.high in
      moment_fits run.first (omega (arith, ints)) (omega (arith, ints))

  pub is_short : 60 * (last_number run) ≤ 10000000000
  is_short =
      let low : pos 0 ≤ℤ nth_departure run 0 = (in_range 0 some).low in
      let high : nth_departure run (last_number run) ≤ℤ pos 10000000000 = (in_range (last_number run) (omega arith)).high in
      omega (arith, ints)

  pub closing_fits : (closing : ℤ) → pos 0 ≤ℤ (closing +ℤ pos 60000000) → closing ≤ℤ to_z w64 (of_z w64 run.first) → to_z w64 (of_z w64 closing) ≡ closing
  closing_fits closing low before =
      let high : run.first ≤ℤ pos 10000000000 = first_in_range.high in
      let same = first_fits in
      moment_fits closing low (omega (arith, ints))

  -- what holds of the code's numbers for the day and the first departure holds of these
  pub at_first : (days : DayTable) (ride : Ride) → IsSoundDayTable days → IsTravelDay days ride.day → (P : ℤ → ℤ → Type 0)
      → P (to_z w32 (of_z w32 ride.day)) (to_z w64 (of_z w64 run.first)) → P ride.day run.first
  at_first days ride sound travels P holds = as_written days (ride_at ride run.first ride.arrives) sound travels first_in_range P holds

-- from one departure to the last one a deadline rises by no more than the range of departures
pub rises_at_most : (feed : Feed) (days : DayTable) (ride : Ride) (run : Run) (first : ℕ) (deadline latest : Deadline) → first < run.count → LeavesInRange run
    → IsDeadline feed days (nth_ride ride run first) deadline → IsDeadline feed days (nth_ride ride run (last_number run)) latest → IsNoLater latest (later deadline 10000000000)
rises_at_most feed days ride run first deadline latest lt in_range of_first of_last =
    let short = is_short run (omega arith) in_range in
    let rest = 60 * (last_number run - first) in
    let at_last : nth_departure run (last_number run) ≡ nth_departure run first +ℤ pos rest = omega (arith, ints) in
    let moved = subst (λ d. IsDeadline feed days (ride_at ride d ride.arrives) latest) at_last of_last in
    let risen = deadline_between feed days (nth_ride ride run first) deadline latest rest rest ride.arrives ride.arrives (omega arith) of_first moved in
    let same : latest ≡ lesser (later deadline rest) latest = IsDeadline_unique feed days (ride_at ride (nth_departure run first +ℤ pos rest) ride.arrives) latest (lesser (later deadline rest) latest) moved risen in
    later_is_later deadline latest rest 10000000000 (omega arith) (subst (λ d. IsNoLater d (later deadline rest)) (sym same) (lesser_left (later deadline rest) latest)) where
      later_is_later : (deadline latest : Deadline) (m n : ℕ) → m ≤ n → IsNoLater latest (later deadline m) → IsNoLater latest (later deadline n)
      later_is_later Never latest m n le h = tt
      later_is_later (At x) Never m n le h = h
      later_is_later (At x) (At z) m n le h = omega (arith, ints)
