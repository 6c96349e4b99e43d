-- Permitted rides and the runs that stand for them, as a search over runs needs them.
use Rattle.std.proofs.Common.{◌≡◌, ℕ, ◌*◌, ◌<◌, ℤ, pos, ◌+ℤ◌, Option, Some, None, slice_get, length, sym, ◌∙◌, ap, subst, refl, arith}
use Rattle.std.proofs.lemmas.Int.{ints}
use Rattle.std.proofs.lemmas.Option.{slice_get_within}
use Rattle.flex_model.specs.declared.feed.Feed.{Feed}
use Rattle.flex_model.specs.declared.moment.DayTable.{DayTable}
use Rattle.flex_model.specs.declared.ride.Arrives.TheVariants.{At}
use Rattle.flex_model.specs.declared.ride.Ride.{Ride}
use Rattle.flex_model.specs.declared.ride.Run.{Run}
use Rattle.flex_model.specs.declared.times.Times.{Times}
use Rattle.flex_model.specs.declared.trip.Row.{Row}
use Rattle.flex_model.specs.declared.trip.Trip.{Trip}
use Rattle.flex_model.specs.Ride.{HasTimes, IsPermittedRide}
use Rattle.flex_model.specs.Run.{IsArrival, IsInRun, IsInRuns, IsRunOf, Leg, ride_of}
use Rattle.fixed_trips.specs.Timed.{HasTimedRow, IsSingle}

-- the leg of a ride
abbrev pub leg_of : Ride → Leg
leg_of ride = record {
  trip = ride.trip;
  day = ride.day;
  start = ride.start;
  from_row = ride.from_row;
  to_row = ride.to_row;
  board = ride.board;
  alight = ride.alight;
}

-- where a search finds the rows of a permitted ride
pub record IsWithin (feed : Feed) (ride : Ride) : Type 0 where
  pub trip : Trip
  pub of_trip : slice_get feed.trips ride.trip ≡ Some trip
  pub in_order : ride.from_row < ride.to_row
  pub within : ride.to_row < length trip.rows

pub permitted_within : (feed : Feed) (times : Times) (days : DayTable) (ride : Ride) → IsPermittedRide feed times days ride → IsWithin feed ride
permitted_within feed times days ride p = record {
  trip = p.trip;
  of_trip = p.of_trip;
  in_order = p.in_order;
  within = slice_get_within p.trip.rows ride.to_row p.alighting p.at_alighting;
}

pub has_timed_row : (feed : Feed) (t r : ℕ) (trip : Trip) (row : Row) → slice_get feed.trips t ≡ Some trip → slice_get trip.rows r ≡ Some row → HasTimes row.timing → HasTimedRow feed t r
has_timed_row feed t r trip row of_trip at_row timed = (trip, row, of_trip, at_row, timed)

module _ (feed : Feed) (times : Times) (days : DayTable) where
  -- a permitted ride is in the run of its leg
  pub in_run : (ride : Ride) (run : Option Run) → IsRunOf feed times days (leg_of ride) run → IsPermittedRide feed times days ride → IsInRuns run ride.departs ride.arrives
  in_run ride run is_run p = (is_run.rides ride.departs ride.arrives).1 p

  -- where a leg has no run, no ride of it is permitted
  pub no_ride : (ride : Ride) → IsRunOf feed times days (leg_of ride) None → IsPermittedRide feed times days ride → ⊥
  no_ride ride is_run p = in_run ride None is_run p

  -- the ride of a run with one ride is permitted
  pub single_is_permitted : (leg : Leg) (run : Run) (last : ℤ) → IsRunOf feed times days leg (Some run) → IsSingle run → run.arrives ≡ At last → IsPermittedRide feed times days (ride_of leg run.first last)
  single_is_permitted leg run last is_run single at =
      let one : run.count ≡ 1 = single.0 in
      let same : run.first ≡ run.first +ℤ pos (60 * 0) = omega (arith, ints) in
      (is_run.rides run.first last).0 (0, omega (arith, one), same, subst (λ a. IsArrival a run.first last) (sym at) refl)

  -- and no other ride of its leg is
  pub single_is_only : (ride : Ride) (run : Run) (last : ℤ) → IsRunOf feed times days (leg_of ride) (Some run) → IsSingle run → run.arrives ≡ At last → IsPermittedRide feed times days ride
      → ride ≡ ride_of (leg_of ride) run.first last
  single_is_only ride run last is_run single at p =
      let h : IsInRun run ride.departs ride.arrives = in_run ride (Some run) is_run p in
      let one : run.count ≡ 1 = single.0 in
      let few : h.0 < run.count = h.1 in
      let then : ride.departs ≡ run.first +ℤ pos (60 * h.0) = h.2 in
      let zeroth : h.0 ≡ 0 = omega (arith, one, few) in
      let leaves : ride.departs ≡ run.first = omega (arith, ints, then, zeroth) in
      let comes : ride.arrives ≡ last = subst (λ a. IsArrival a ride.departs ride.arrives) at h.3 in
      ap (λ d. ride_of (leg_of ride) d ride.arrives) leaves ∙ ap (λ a. ride_of (leg_of ride) run.first a) comes
