-- The permitted rides of a leg without a start, by the parts that the code tests.
use Rattle.std.proofs.Common.{◌≡◌, ◌≢◌, ◌↔◌, List, get_or, length, ℕ, ◌<◌, ℤ, pos, Option, Some, None, IfSome, slice_get, refl, ap, false, sym, ◌∙◌, subst}
use Rattle.flex_model.specs.declared.feed.Feed.{Feed}
use Rattle.flex_model.specs.declared.moment.DayTable.{DayTable}
use Rattle.flex_model.specs.declared.place.Place.{Place}
use Rattle.flex_model.specs.declared.ride.Run.{Run}
use Rattle.flex_model.specs.declared.times.Times.{Times}
use Rattle.flex_model.specs.declared.trip.Row.{Row}
use Rattle.flex_model.specs.declared.trip.Trip.{Trip}
use Rattle.flex_model.specs.declared.trip.Way.TheVariants.{No}
use Rattle.flex_model.specs.Place.{Serves}
use Rattle.flex_model.specs.Ride.{Arrives, HasTimes, IsPermittedRide, Leaves, RunsOn, StartsRightly}
use Rattle.flex_model.specs.Run.{IsInRuns, IsRunOf, Leg, ride_of}
use Rattle.flex_model.proofs.Found.{slice_get_unique}
use Rattle.std.proofs.lemmas.Option.{slice_get_read, slice_get_within, slice_get-get_or}
use Rattle.flex_trips.specs.Windows.{HasTiming, HasWindowRow, MayRide}
use Rattle.service_days.specs.Running.{IsRunning}

-- what makes a ride without a start between these records permitted
pub record IsPermitted (feed : Feed) (times : Times) (days : DayTable) (leg : Leg) (trip : Trip) (boarding alighting : Row) (departs arrives : ℤ) : Type 0 where
  pub in_order : leg.from_row < leg.to_row
  pub running : IsRunning feed days trip leg.day
  pub no_starts : trip.frequent ≡ false
  pub may_ride : MayRide feed times boarding alighting leg.board leg.alight
  pub has_timing : HasTiming times days (ride_of leg departs arrives) boarding.timing alighting.timing

-- the rides without a start of this trip and day, between these records and places
module _ (feed : Feed) (times : Times) (days : DayTable) (t : ℕ) (day : ℤ) (from to : ℕ) (board alight : Place) (trip : Trip) (boarding alighting : Row) (of_trip : slice_get feed.trips t ≡ Some trip) (at_from : slice_get trip.rows from ≡ Some boarding) (at_to : slice_get trip.rows to ≡ Some alighting) where
  abbrev leg : Leg
  leg = record { trip = t; day = day; start = None; from_row = from; to_row = to; board = board; alight = alight }

  parts : (departs arrives : ℤ) → IsPermittedRide feed times days (ride_of leg departs arrives) → IsPermitted feed times days leg trip boarding alighting departs arrives
  parts departs arrives p =
      let ride = ride_of leg departs arrives in
      let one : p.trip ≡ trip = slice_get_unique feed.trips t p.trip trip p.of_trip of_trip in
      let b : p.boarding ≡ boarding = slice_get_unique trip.rows from p.boarding boarding (subst (λ x. slice_get x.rows from ≡ Some p.boarding) one p.at_boarding) at_from in
      let a : p.alighting ≡ alighting = slice_get_unique trip.rows to p.alighting alighting (subst (λ x. slice_get x.rows to ≡ Some p.alighting) one p.at_alighting) at_to in
      record {
        in_order = p.in_order;
        running = record { on_travel_day = p.on_travel_day; runs = subst (λ x. RunsOn feed x day) one p.runs };
        no_starts = subst (λ x. StartsRightly x None) one p.starts;
        may_ride = record {
          boards = subst (λ row. Serves feed times row.spot board) b p.boards;
          picks_up = subst (λ row. row.pickup ≢ No) b p.picks_up;
          alights = subst (λ row. Serves feed times row.spot alight) a p.alights;
          drops_off = subst (λ row. row.drop_off ≢ No) a p.drops_off;
        };
        has_timing = (
          subst (λ row. Leaves days ride (pos 0) row.timing) b p.leaves,
          subst (λ row. Arrives times days ride (pos 0) boarding.timing row.timing) a (subst (λ row. Arrives times days ride (pos 0) row.timing p.alighting.timing) b p.arrives),
        );
      }

  permitted : (departs arrives : ℤ) → IsPermitted feed times days leg trip boarding alighting departs arrives → IsPermittedRide feed times days (ride_of leg departs arrives)
  permitted departs arrives p = record {
    trip = trip;
    of_trip = of_trip;
    boarding = boarding;
    at_boarding = at_from;
    alighting = alighting;
    at_alighting = at_to;
    in_order = p.in_order;
    on_travel_day = p.running.on_travel_day;
    runs = p.running.runs;
    starts = p.no_starts;
    boards = p.may_ride.boards;
    picks_up = p.may_ride.picks_up;
    alights = p.may_ride.alights;
    drops_off = p.may_ride.drops_off;
    leaves = p.has_timing.0;
    arrives = p.has_timing.1;
  }

  -- no ride, where a part fails
  pub no_run : (from < to → IsRunning feed days trip day → trip.frequent ≡ false → MayRide feed times boarding alighting board alight → ⊥) → IsRunOf feed times days leg None
  no_run fails = record {
    rides = λ departs arrives. (
      λ h. absurd h,
      λ p. let its = parts departs arrives p in absurd (fails its.in_order its.running its.no_starts its.may_ride),
    );
    some = tt;
  }

  -- the rides of the timing, where the other parts hold
  pub run_of : (run : Option Run) → from < to → IsRunning feed days trip day → trip.frequent ≡ false → MayRide feed times boarding alighting board alight
      → ((departs arrives : ℤ) → IsInRuns run departs arrives ↔ HasTiming times days (ride_of leg departs arrives) boarding.timing alighting.timing)
      → IfSome run (λ r. 0 < r.count) → IsRunOf feed times days leg run
  run_of run in_order running no_starts may_ride timed some = record {
    rides = λ departs arrives. (
      λ h. permitted departs arrives (record { in_order = in_order; running = running; no_starts = no_starts; may_ride = may_ride; has_timing = (timed departs arrives).0 h }),
      λ p. (timed departs arrives).1 ((parts departs arrives p).has_timing),
    );
    some = some;
  }

-- no ride, where the trip doesn't run
pub none_running : (feed : Feed) (times : Times) (days : DayTable) (t : ℕ) (day : ℤ) (from to : ℕ) (board alight : Place) (trip : Trip) → slice_get feed.trips t ≡ Some trip → (IsRunning feed days trip day → ⊥)
    → IsRunOf feed times days (record { trip = t; day = day; start = None; from_row = from; to_row = to; board = board; alight = alight }) None
none_running feed times days t day from to board alight trip of_trip never = record {
  rides = λ departs arrives. (
    λ h. absurd h,
    λ p.
        let one : p.trip ≡ trip = slice_get_unique feed.trips t p.trip trip p.of_trip of_trip in
        absurd (never (record { on_travel_day = p.on_travel_day; runs = subst (λ x. RunsOn feed x day) one p.runs })),
  );
  some = tt;
}

-- the trip and the records that have these numbers, where one of the records has a window
pub record AreWindowRows (feed : Feed) (t from to : ℕ) (trip : Trip) (boarding alighting : Row) : Type 0 where
  pub of_trip : slice_get feed.trips t ≡ Some trip
  pub at_boarding : slice_get trip.rows from ≡ Some boarding
  pub at_alighting : slice_get trip.rows to ≡ Some alighting
  pub window : HasTimes boarding.timing × HasTimes alighting.timing → ⊥

-- the record that is read at an index
read : (rows : List Row) (k : ℕ) (row default : Row) → slice_get rows k ≡ Some row → row ≡ get_or rows k default
read rows k row default at = slice_get_unique rows k row (get_or rows k default) at (slice_get-get_or rows k default (slice_get_within rows k row at))

-- those that the code reads
pub trip_at : (feed : Feed) (trips : List Trip) (t from to : ℕ) (trip : Trip) → trips ≡ feed.trips → trip ≡ get_or trips t trip → HasWindowRow feed t from to → slice_get feed.trips t ≡ Some trip
trip_at feed trips t from to trip all is h =
    slice_get_read feed.trips (length feed.trips) t trip refl (slice_get_within feed.trips t h.trip h.of_trip) (is ∙ ap (λ xs. get_or xs t trip) all)

pub rows_at : (feed : Feed) (trips : List Trip) (t from to : ℕ) (trip : Trip) (rows : List Row) (default : Row) → trips ≡ feed.trips → trip ≡ get_or trips t trip → rows ≡ trip.rows → HasWindowRow feed t from to
    → AreWindowRows feed t from to trip (get_or rows from default) (get_or rows to default)
rows_at feed trips t from to trip rows default all is same h =
    let of_trip = trip_at feed trips t from to trip all is h in
    let one : h.trip ≡ trip = slice_get_unique feed.trips t h.trip trip h.of_trip of_trip in
    let listed : h.trip.rows ≡ rows = ap (λ x. x.rows) one ∙ sym same in
    let b : h.boarding ≡ get_or rows from default = read rows from h.boarding default (subst (λ xs. slice_get xs from ≡ Some h.boarding) listed h.at_boarding) in
    let a : h.alighting ≡ get_or rows to default = read rows to h.alighting default (subst (λ xs. slice_get xs to ≡ Some h.alighting) listed h.at_alighting) in
    record {
      of_trip = of_trip;
      at_boarding = subst (λ row. slice_get trip.rows from ≡ Some row) b (subst (λ x. slice_get x.rows from ≡ Some h.boarding) one h.at_boarding);
      at_alighting = subst (λ row. slice_get trip.rows to ≡ Some row) a (subst (λ x. slice_get x.rows to ≡ Some h.alighting) one h.at_alighting);
      window = subst (λ row. HasTimes (get_or rows from default).timing × HasTimes row.timing → ⊥) a (subst (λ row. HasTimes row.timing × HasTimes h.alighting.timing → ⊥) b h.window);
    }
