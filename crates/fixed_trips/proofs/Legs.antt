-- The permitted rides of a leg, by the parts that the code tests.
use Rattle.std.proofs.Common.{◌≡◌, ◌≢◌, ◌↔◌, List, get_or, length, ℕ, ◌*◌, ◌^◌, ◌<◌, ℤ, pos, negsuc, ◌+ℤ◌, ◌≤ℤ◌, w32, w64, to_z, of_z, Option, Some, None, IfSome, slice_get, refl, ap, sym, ◌∙◌, subst, arith}
use Rattle.std.proofs.lemmas.Int.{ints, to_z-of_z}
use Rattle.std.specs.Prelude.{unsigned_abs}
use Rattle.flex_model.specs.declared.feed.Feed.{Feed}
use Rattle.flex_model.specs.declared.moment.DayTable.{DayTable}
use Rattle.flex_model.specs.declared.ride.Arrives.TheVariants.{At}
use Rattle.flex_model.specs.declared.ride.Run.{Run}
use Rattle.flex_model.specs.declared.times.Times.{Times}
use Rattle.flex_model.specs.declared.trip.Row.{Row}
use Rattle.flex_model.specs.declared.trip.Spot.{Spot}
use Rattle.flex_model.specs.declared.trip.Timing.{Timing}
use Rattle.flex_model.specs.declared.trip.Timing.TheVariants as timing
use Rattle.flex_model.specs.declared.trip.Trip.{Trip}
use Rattle.flex_model.specs.declared.trip.Way.TheVariants.{No}
use Rattle.flex_model.specs.Place.{Serves}
use Rattle.flex_model.specs.Ride.{Arrives, HasTimes, IsPermittedRide, IsShiftedMoment, Leaves, RunsOn, StartsRightly, shift}
use Rattle.flex_model.specs.Run.{IsInRun, IsInRuns, IsRunOf, Leg, ride_of}
use Rattle.flex_model.specs.ServiceDay.{IsMoment}
use Rattle.flex_model.proofs.DayLaws.{IsMoment_unique}
use Rattle.flex_model.proofs.Found.{All-at, slice_get_unique}
use Rattle.std.proofs.lemmas.Option.{none-some, same_Some, slice_get_read, slice_get_within, slice_get-get_or}
use Rattle.flex_model.specs.SoundFeed.{IsSoundFeed, IsSoundTrip, IsSoundRow, IsSoundTiming}
use Rattle.fixed_trips.specs.Timed.{HasTimedRow, HasTiming, IsSingle, MayRide, MayRun, NamesStop}

-- what makes the ride of a leg between these records permitted
pub record IsPermitted (feed : Feed) (times : Times) (days : DayTable) (leg : Leg) (trip : Trip) (boarding alighting : Row) (departs arrives : ℤ) : Type 0 where
  pub in_order : leg.from_row < leg.to_row
  pub may_run : MayRun feed days trip leg.day leg.start
  pub may_ride : MayRide feed times boarding alighting leg.board leg.alight
  pub has_timing : HasTiming times days leg (shift trip leg.start) boarding.timing alighting.timing departs arrives

module _ (feed : Feed) (times : Times) (days : DayTable) (leg : Leg) (trip : Trip) (boarding alighting : Row) (at_trip : slice_get feed.trips leg.trip ≡ Some trip) (at_from : slice_get trip.rows leg.from_row ≡ Some boarding) (at_to : slice_get trip.rows leg.to_row ≡ Some alighting) where
  pub parts : (departs arrives : ℤ) → IsPermittedRide feed times days (ride_of leg departs arrives) → IsPermitted feed times days leg trip boarding alighting departs arrives
  parts departs arrives p =
      let ride = ride_of leg departs arrives in
      let t : p.trip ≡ trip = slice_get_unique feed.trips leg.trip p.trip trip p.of_trip at_trip in
      let b : p.boarding ≡ boarding = slice_get_unique trip.rows leg.from_row p.boarding boarding (subst (λ x. slice_get x.rows leg.from_row ≡ Some p.boarding) t p.at_boarding) at_from in
      let a : p.alighting ≡ alighting = slice_get_unique trip.rows leg.to_row p.alighting alighting (subst (λ x. slice_get x.rows leg.to_row ≡ Some p.alighting) t p.at_alighting) at_to in
      record {
        in_order = p.in_order;
        may_run = record {
          on_travel_day = p.on_travel_day;
          runs = subst (λ x. RunsOn feed x leg.day) t p.runs;
          starts = subst (λ x. StartsRightly x leg.start) t p.starts;
        };
        may_ride = record {
          boards = subst (λ row. Serves feed times row.spot leg.board) b p.boards;
          picks_up = subst (λ row. row.pickup ≢ No) b p.picks_up;
          alights = subst (λ row. Serves feed times row.spot leg.alight) a p.alights;
          drops_off = subst (λ row. row.drop_off ≢ No) a p.drops_off;
        };
        has_timing = (
          subst (λ x. Leaves days ride (shift x leg.start) boarding.timing) t (subst (λ row. Leaves days ride (shift p.trip leg.start) row.timing) b p.leaves),
          subst (λ x. Arrives times days ride (shift x leg.start) boarding.timing alighting.timing) t
              (subst (λ row. Arrives times days ride (shift p.trip leg.start) boarding.timing row.timing) a (subst (λ row. Arrives times days ride (shift p.trip leg.start) row.timing p.alighting.timing) b p.arrives)),
        );
      }

  pub permitted : (departs arrives : ℤ) → IsPermitted feed times days leg trip boarding alighting departs arrives → IsPermittedRide feed times days (ride_of leg departs arrives)
  permitted departs arrives p = record {
    trip = trip;
    of_trip = at_trip;
    boarding = boarding;
    at_boarding = at_from;
    alighting = alighting;
    at_alighting = at_to;
    in_order = p.in_order;
    on_travel_day = p.may_run.on_travel_day;
    runs = p.may_run.runs;
    starts = p.may_run.starts;
    boards = p.may_ride.boards;
    picks_up = p.may_ride.picks_up;
    alights = p.may_ride.alights;
    drops_off = p.may_ride.drops_off;
    leaves = p.has_timing.0;
    arrives = p.has_timing.1;
  }

  -- no ride, where a part fails
  pub no_run : ((departs arrives : ℤ) → IsPermitted feed times days leg trip boarding alighting departs arrives → ⊥) → IsRunOf feed times days leg None
  no_run fails = record {
    rides = λ departs arrives. (λ h. absurd h, λ p. absurd (fails departs arrives (parts departs arrives p)));
    some = tt;
  }

  -- the rides of the timing, where the other parts hold
  pub run_of : (run : Option Run) → leg.from_row < leg.to_row → MayRun feed days trip leg.day leg.start → MayRide feed times boarding alighting leg.board leg.alight
      → ((departs arrives : ℤ) → IsInRuns run departs arrives ↔ HasTiming times days leg (shift trip leg.start) boarding.timing alighting.timing departs arrives)
      → IfSome run (λ r. 0 < r.count) → IsRunOf feed times days leg run
  run_of run in_order may_run may_ride timed some = record {
    rides = λ departs arrives. (
      λ h. permitted departs arrives (record { in_order = in_order; may_run = may_run; may_ride = may_ride; has_timing = (timed departs arrives).0 h }),
      λ p. (timed departs arrives).1 ((parts departs arrives p).has_timing),
    );
    some = some;
  }

pub IsShiftedMoment_unique : (days : DayTable) (day by : ℤ) (time : ℕ) (a b : ℤ) → IsShiftedMoment days day by time a → IsShiftedMoment days day by time b → a ≡ b
IsShiftedMoment_unique days day by time a b p q = p.2 ∙ ap (λ m. m +ℤ by) (IsMoment_unique days day time p.0 q.0 p.1 q.1) ∙ sym q.2

-- the moment of a time that is shifted, where the time has a moment
pub shifted_just_there : (days : DayTable) (day by : ℤ) (time : ℕ) (scheduled moment : ℤ) → IsMoment days day time scheduled → moment ≡ scheduled +ℤ by
    → (m : ℤ) → IsShiftedMoment days day by time m ↔ (Some moment ≡ Some m)
shifted_just_there days day by time scheduled moment at is m = (
  λ p. ap Some (IsShiftedMoment_unique days day by time moment m (scheduled, at, is) p),
  λ e. subst (IsShiftedMoment days day by time) (same_Some moment m e) (scheduled, at, is),
)

-- one ride, at two moments
pub one_ride : (days : DayTable) (day by : ℤ) (d a : ℕ) (first last departs arrives : ℤ) → IsShiftedMoment days day by d first → IsShiftedMoment days day by a last
    → IsInRun (record { first = first; count = 1; arrives = At last }) departs arrives ↔ (IsShiftedMoment days day by d departs × IsShiftedMoment days day by a arrives)
one_ride days day by d a first last departs arrives leaves comes = (
  λ h.
      let zeroth : h.0 < 1 = h.1 in
      let then : departs ≡ first +ℤ pos (60 * h.0) = h.2 in
      let same : first ≡ departs = omega (arith, ints) in
      (subst (IsShiftedMoment days day by d) same leaves, subst (IsShiftedMoment days day by a) (sym h.3) comes),
  λ m.
      let same : departs ≡ first = IsShiftedMoment_unique days day by d departs first m.0 leaves in
      (0, omega arith, omega (arith, ints), IsShiftedMoment_unique days day by a arrives last m.1 comes),
)

pub timing_parts : (times : Times) (days : DayTable) (leg : Leg) (by : ℤ) (boarding alighting : Timing) (a d a' d' : ℕ) (departs arrives : ℤ) → boarding ≡ timing.Times a d → alighting ≡ timing.Times a' d'
    → HasTiming times days leg by boarding alighting departs arrives ↔ (IsShiftedMoment days leg.day by d departs × IsShiftedMoment days leg.day by a' arrives)
timing_parts times days leg by boarding alighting a d a' d' departs arrives e f =
    subst (λ b. HasTiming times days leg by b alighting departs arrives ↔ (IsShiftedMoment days leg.day by d departs × IsShiftedMoment days leg.day by a' arrives)) (sym e)
    (subst (λ x. HasTiming times days leg by (timing.Times a d) x departs arrives ↔ (IsShiftedMoment days leg.day by d departs × IsShiftedMoment days leg.day by a' arrives)) (sym f) (λ h. h, λ h. h))

-- the trip and the record that have these numbers, where the record has times
pub record IsTimedRow (feed : Feed) (t r : ℕ) (trip : Trip) (row : Row) : Type 0 where
  pub of_trip : slice_get feed.trips t ≡ Some trip
  pub at_row : slice_get trip.rows r ≡ Some row
  pub timed : HasTimes row.timing

-- the trip and the record that the code reads
pub row_at : (feed : Feed) (trips : List Trip) (t r : ℕ) (trip : Trip) (rows : List Row) (default : Row) → trips ≡ feed.trips → trip ≡ get_or trips t trip → rows ≡ trip.rows → HasTimedRow feed t r
    → IsTimedRow feed t r trip (get_or rows r default)
row_at feed trips t r trip rows default all read same h =
    let of_trip = slice_get_read feed.trips (length feed.trips) t trip refl (slice_get_within feed.trips t h.0 h.2) (read ∙ ap (λ xs. get_or xs t trip) all) in
    let one : h.0 ≡ trip = slice_get_unique feed.trips t h.0 trip h.2 of_trip in
    let e : slice_get trip.rows r ≡ Some h.1 = subst (λ x. slice_get x.rows r ≡ Some h.1) one h.3 in
    let g : slice_get trip.rows r ≡ Some (get_or trip.rows r default) = slice_get-get_or trip.rows r default (slice_get_within trip.rows r h.1 e) in
    let is : h.1 ≡ get_or trip.rows r default = slice_get_unique trip.rows r h.1 (get_or trip.rows r default) e g in
    record {
      of_trip = of_trip;
      at_row = subst (λ xs. slice_get trip.rows r ≡ Some (get_or xs r default)) (sym same) g;
      timed = subst (λ row. HasTimes row.timing) (is ∙ ap (λ xs. get_or xs r default) (sym same)) h.4;
    }

stop_named : (at : Spot) (timing : Timing) → HasTimes timing → IsSoundTiming at timing → NamesStop at
stop_named at (timing.Times arrives departs) has sound = sound.0
stop_named at (timing.Window start end) has sound = absurd has

-- a record with times names a stop
pub names_stop : (feed : Feed) (t r : ℕ) (trip : Trip) (row : Row) → IsSoundFeed feed → IsTimedRow feed t r trip row → NamesStop row.spot
names_stop feed t r trip row sound h =
    let sound_trip : IsSoundTrip feed trip = All-at (IsSoundTrip feed) feed.trips t trip sound.each_trip h.of_trip in
    let sound_row : IsSoundRow feed row = All-at (IsSoundRow feed) trip.rows r row sound_trip.rows h.at_row in
    stop_named row.spot row.timing h.timed sound_row.timing

-- a run with one ride has a ride
pub has_ride : (run : Option Run) → IfSome run IsSingle → IfSome run (λ r. 0 < r.count)
has_ride None h = tt
has_ride (Some run) h = let one : run.count ≡ 1 = h.0 in omega (arith, one)

-- the code's numbers keep the value of a shifted moment, and of a shift
pub shifted_fits : (z : ℤ) → pos 0 ≤ℤ (z +ℤ pos 5000000000) → z ≤ℤ pos 30000000000 → to_z w64 (of_z w64 z) ≡ z
shifted_fits (pos n) low high = to_z-of_z w64 (pos n) (record { sfits = omega (arith, ints) })
shifted_fits (negsuc n) low high = to_z-of_z w64 (negsuc n) (record { sfits = omega (arith, ints) })

pub shift_fits : (z : ℤ) → unsigned_abs z < 2 ^ 32 → to_z w64 (of_z w64 z) ≡ z
shift_fits (pos n) near = to_z-of_z w64 (pos n) (record { sfits = omega (arith, ints) })
shift_fits (negsuc n) near = to_z-of_z w64 (negsuc n) (record { sfits = omega (arith, ints) })

pub near_bounds : (z : ℤ) → unsigned_abs z < 2 ^ 32 → (pos 0 ≤ℤ (z +ℤ pos 4294967296)) × (z ≤ℤ pos 4294967296)
near_bounds (pos n) near = (omega (arith, ints), omega (arith, ints))
near_bounds (negsuc n) near = (omega (arith, ints), omega (arith, ints))

-- what the code says of its numbers for a day and a shift holds of the day and the shift
pub in_numbers : (days : DayTable) (on day by : ℤ) (time : ℕ) (r : Option ℤ) → on ≡ day → to_z w32 (of_z w32 day) ≡ day → to_z w64 (of_z w64 by) ≡ by
    → ((m : ℤ) → IsShiftedMoment days (to_z w32 (of_z w32 day)) (to_z w64 (of_z w64 by)) time m ↔ (r ≡ Some m))
    → (m : ℤ) → IsShiftedMoment days on by time m ↔ (r ≡ Some m)
in_numbers days on day by time r same whole full moments =
    subst (λ d. (m : ℤ) → IsShiftedMoment days d by time m ↔ (r ≡ Some m)) (whole ∙ sym same)
    (subst (λ s. (m : ℤ) → IsShiftedMoment days (to_z w32 (of_z w32 day)) s time m ↔ (r ≡ Some m)) full moments)

-- where a time has no moment, its shifted one has none either
pub none_shifted : (days : DayTable) (day by : ℤ) (time : ℕ) (scheduled : Option ℤ) → scheduled ≡ None → ((m : ℤ) → IsMoment days day time m ↔ (scheduled ≡ Some m))
    → (m : ℤ) → IsShiftedMoment days day by time m → ⊥
none_shifted days day by time scheduled none moments m p = none-some p.0 (sym none ∙ (moments p.0).0 p.1)
