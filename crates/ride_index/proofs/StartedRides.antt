-- The rides that leave with a departure are those that alight at a later record of its trip.
use Rattle.std.proofs.Common.{◌≡◌, ◌↔◌, ℕ, ◌<◌, ℤ, pos, ◌+ℤ◌, Option, None, Some, IfNone, IfSome, get_or, length, List, slice_get, refl, sym, ◌∙◌, ap, subst, arith}
use Rattle.std.proofs.lemmas.Int.{ints}
use Rattle.flex_model.specs.declared.feed.Feed.{Feed}
use Rattle.flex_model.specs.declared.moment.DayTable.{DayTable}
use Rattle.flex_model.specs.declared.place.Place.TheVariants as place
use Rattle.flex_model.specs.declared.ride.Ride.{Ride}
use Rattle.flex_model.specs.declared.times.Times.{Times}
use Rattle.flex_model.specs.declared.trip.Row.{Row}
use Rattle.flex_model.specs.declared.trip.Spot.TheVariants as spot
use Rattle.flex_model.specs.declared.trip.Timing.{Timing}
use Rattle.flex_model.specs.declared.trip.Timing.TheVariants as timing
use Rattle.flex_model.specs.declared.trip.Trip.{Trip}
use Rattle.flex_model.specs.Place.{Serves}
use Rattle.flex_model.specs.Ride.{Arrives, HasTimes, IsPermittedRide, IsShiftedMoment, Leaves, RunsOn, StartsRightly, shift}
use Rattle.flex_model.specs.ServiceDay.{BeginsAt, IsTravelDay}
use Rattle.flex_model.specs.SoundFeed.{IsSoundFeed, IsSoundTrip}
use Rattle.std.proofs.lemmas.Option.{none-some, slice_get-get_or, slice_get_read, slice_get_within}
use Rattle.flex_model.proofs.Found.{All-at, slice_get_unique}
use Rattle.service_days.specs.Running.{IsRunning}
use Rattle.fixed_trips.specs.Timed.{HasTimedRow, MayRun}
use Rattle.fixed_trips.proofs.Legs.{IsShiftedMoment_unique, names_stop}
use Rattle.ride_index.specs.Departures.{IsAmong, IsDeparture, IsTimedDeparture, RunsSo}
use Rattle.ride_index.specs.TimedRides.{AlightsAt, AreSoundRows, IsAlighting, IsRideWith, boarded_with, left_at}
use Rattle.ride_index.proofs.RideLists.{Gained, gained_same}
use Rattle.ride_index.specs.declared.departure.Departure.{Departure}
use Rattle.ride_index.specs.declared.departure.DepartureKind.{DepartureKind}
use Rattle.ride_index.specs.declared.departure.DepartureKind.TheVariants.{AtStarts, Once}

-- the records of a trip of a sound feed
pub sound_rows : (feed : Feed) (t : ℕ) (trip : Trip) → IsSoundFeed feed → slice_get feed.trips t ≡ Some trip → AreSoundRows trip.rows
sound_rows feed t trip sound at =
    let s : IsSoundTrip feed trip = All-at (IsSoundTrip feed) feed.trips t trip sound.each_trip at in
    record { each = λ k row within. (s.rows k row within).timing; times = s.times }

pub few_rows : (feed : Feed) (t : ℕ) (trip : Trip) → IsSoundFeed feed → slice_get feed.trips t ≡ Some trip → IsSoundTrip feed trip
few_rows feed t trip sound at = All-at (IsSoundTrip feed) feed.trips t trip sound.each_trip at

-- the times of a record that has some
pub times_of : (t : Timing) → HasTimes t → (arrives departs : ℕ) × (t ≡ timing.Times arrives departs)
times_of (timing.Times arrives departs) has = (arrives, departs, refl)
times_of (timing.Window start end) has = absurd has

-- the moment of a time that counts from zero
shifted : (days : DayTable) (day by base zero : ℤ) (time : ℕ) → BeginsAt days day base → zero ≡ base +ℤ by → IsShiftedMoment days day by time (zero +ℤ pos time)
shifted days day by base zero time begins is = (base +ℤ pos time, (base, begins, refl), omega (arith, ints))

module _ (feed : Feed) (days : DayTable) (trip : Trip) (departure : Departure) (day base zero limit : ℤ) (start : Option ℕ)
    (sound : IsSoundFeed feed) (is : IsTimedDeparture feed trip departure) (begins : BeginsAt days day base) (counts : zero ≡ base +ℤ shift trip start)
    (may_run : MayRun feed days trip day start) where
  abbrev pub boarded : Ride
  boarded = boarded_with departure day start (zero +ℤ pos departure.departs)

  -- a ride that alights at a record is permitted
  permitted_to : (times : Times) (row : Row) (to_row : ℕ) (ride : Ride) → slice_get trip.rows to_row ≡ Some row → departure.row < to_row → AlightsAt row boarded zero to_row ride
      → IsPermittedRide feed times days ride
  permitted_to times row to_row ride at later a =
      let b = is in
      let made = left_at boarded to_row a.stop (zero +ℤ pos a.arrives) in
      subst (IsPermittedRide feed times days) (sym a.is) (record {
        trip = trip;
        of_trip = is.of_trip;
        boarding = is.row;
        at_boarding = is.at_row;
        alighting = row;
        at_alighting = at;
        in_order = later;
        on_travel_day = may_run.on_travel_day;
        runs = may_run.runs;
        starts = may_run.starts;
        boards = subst (λ s. Serves feed times s (place.Stop departure.named)) (sym b.at_stop) refl;
        picks_up = b.picks_up;
        alights = subst (λ s. Serves feed times s (place.Stop a.stop)) (sym a.reached.at_stop) refl;
        drops_off = a.drops_off;
        leaves = subst (Leaves days made (shift trip start)) (sym b.timed.1) (shifted days day (shift trip start) base zero departure.departs begins counts);
        arrives = subst (λ t. Arrives times days made (shift trip start) t row.timing) (sym b.timed.1)
            (subst (Arrives times days made (shift trip start) (timing.Times b.timed.0 departure.departs)) (sym a.reached.timed.1)
            (shifted days day (shift trip start) base zero a.arrives begins counts));
      })

  -- what alights at a record is a ride of the departure
  pub of_alighting : (times : Times) (ride : Ride) → IsAlighting trip.rows boarded zero limit ride → IsRideWith feed times days departure day start limit ride
  of_alighting times ride h =
      let a = h.alights in
      let timed : HasTimes h.row.timing = subst HasTimes (sym a.reached.timed.1) tt in
      record {
        permitted = permitted_to times h.row ride.to_row ride h.at_row h.later a;
        of_trip = ap (λ r. r.trip) a.is;
        on_day = ap (λ r. r.day) a.is;
        starts_so = ap (λ r. r.start) a.is;
        boards = ap (λ r. r.from_row) a.is;
        alights = subst (λ t. HasTimedRow feed t ride.to_row) (sym (ap (λ r. r.trip) a.is)) (trip, h.row, is.of_trip, h.at_row, timed);
        arrives = h.in_time;
      }

  -- a ride of the departure alights at a record
  pub to_alighting : (times : Times) (ride : Ride) → IsRideWith feed times days departure day start limit ride → IsAlighting trip.rows boarded zero limit ride
  to_alighting times ride w =
      let p = w.permitted in
      let by = shift trip start in
      let t : p.trip ≡ trip = slice_get_unique feed.trips departure.trip p.trip trip (subst (λ k. slice_get feed.trips k ≡ Some p.trip) w.of_trip p.of_trip) is.of_trip in
      let at : slice_get trip.rows ride.to_row ≡ Some p.alighting = subst (λ x. slice_get x.rows ride.to_row ≡ Some p.alighting) t p.at_alighting in
      let from : slice_get trip.rows departure.row ≡ Some p.boarding =
      subst (λ k. slice_get trip.rows k ≡ Some p.boarding) w.boards (subst (λ x. slice_get x.rows ride.from_row ≡ Some p.boarding) t p.at_boarding) in
      let b : p.boarding ≡ is.row = slice_get_unique trip.rows departure.row p.boarding is.row from is.at_row in
      let h = w.alights in
      let t' : h.0 ≡ p.trip = slice_get_unique feed.trips ride.trip h.0 p.trip h.2 p.of_trip in
      let r' : h.1 ≡ p.alighting = slice_get_unique p.trip.rows ride.to_row h.1 p.alighting (subst (λ x. slice_get x.rows ride.to_row ≡ Some h.1) t' h.3) p.at_alighting in
      let timed : HasTimes p.alighting.timing = subst (λ r. HasTimes r.timing) r' h.4 in
      let then = times_of p.alighting.timing timed in
      let named = names_stop feed ride.trip ride.to_row p.trip p.alighting sound (record { of_trip = p.of_trip; at_row = p.at_alighting; timed = timed }) in
      let alight : ride.alight ≡ place.Stop named.0 = subst (λ s. Serves feed times s ride.alight) named.1 p.alights in
      let at_stop : p.boarding.spot ≡ spot.Stop departure.named = ap (λ r. r.spot) b ∙ is.at_stop in
      let board : ride.board ≡ place.Stop departure.named = subst (λ s. Serves feed times s ride.board) at_stop p.boards in
      let boards_then : p.boarding.timing ≡ timing.Times is.timed.0 departure.departs = ap (λ r. r.timing) b ∙ is.timed.1 in
      let so : shift p.trip ride.start ≡ by = ap (λ x. shift x ride.start) t ∙ ap (shift trip) w.starts_so in
      let leaves : IsShiftedMoment days day by departure.departs ride.departs =
      subst (λ d. IsShiftedMoment days d by departure.departs ride.departs) w.on_day
      (subst (λ s. IsShiftedMoment days ride.day s departure.departs ride.departs) so (subst (Leaves days ride (shift p.trip ride.start)) boards_then p.leaves)) in
      let departs : ride.departs ≡ zero +ℤ pos departure.departs =
      IsShiftedMoment_unique days day by departure.departs ride.departs (zero +ℤ pos departure.departs) leaves (shifted days day by base zero departure.departs begins counts) in
      let comes : IsShiftedMoment days day by then.0 ride.arrives =
      subst (λ d. IsShiftedMoment days d by then.0 ride.arrives) w.on_day
      (subst (λ s. IsShiftedMoment days ride.day s then.0 ride.arrives) so
      (subst (Arrives times days ride (shift p.trip ride.start) (timing.Times is.timed.0 departure.departs)) then.2
      (subst (λ x. Arrives times days ride (shift p.trip ride.start) x p.alighting.timing) boards_then p.arrives))) in
      let arrives : ride.arrives ≡ zero +ℤ pos then.0 =
      IsShiftedMoment_unique days day by then.0 ride.arrives (zero +ℤ pos then.0) comes (shifted days day by base zero then.0 begins counts) in
      let of_trip = w.of_trip in
      let on_day = w.on_day in
      let starts_so = w.starts_so in
      let boards = w.boards in
      let order : ride.from_row < ride.to_row = p.in_order in
      record {
        row = p.alighting;
        at_row = at;
        later = omega (arith, boards, order);
        alights = record {
          stop = named.0;
          arrives = then.0;
          reached = record { at_stop = named.1; timed = (then.1, then.2) };
          drops_off = p.drops_off;
          is = λ i. record {
            trip = of_trip i;
            day = on_day i;
            start = starts_so i;
            from_row = boards i;
            to_row = ride.to_row;
            board = board i;
            alight = alight i;
            departs = departs i;
            arrives = arrives i;
          };
        };
        in_time = w.arrives;
      }

  -- what the code adds are the rides of the departure
  pub rides_of_alightings : (times : Times) (rows : List Row) (made : Ride) (on departs from until : ℤ) (before after : List Ride) → rows ≡ trip.rows → made ≡ boarded_with departure on start departs
      → on ≡ day → departs ≡ zero +ℤ pos departure.departs → from ≡ zero → until ≡ limit
      → Gained (IsAlighting rows made from until) before after → Gained (IsRideWith feed times days departure day start limit) before after
  rides_of_alightings times rows made on departs from until before after same_rows same_made same_day same_departs same_zero same_limit new =
      let same : made ≡ boarded = same_made ∙ ap (λ d. boarded_with departure d start departs) same_day ∙ ap (boarded_with departure day start) same_departs in
      gained_same (IsAlighting trip.rows boarded zero limit) (IsRideWith feed times days departure day start limit) before after
      (λ x. (of_alighting times x, to_alighting times x))
      (subst (λ l. Gained (IsAlighting trip.rows boarded zero l) before after) same_limit
      (subst (λ z. Gained (IsAlighting trip.rows boarded z until) before after) same_zero
      (subst (λ m. Gained (IsAlighting trip.rows m from until) before after) same
      (subst (λ r. Gained (IsAlighting r made from until) before after) same_rows new))))

-- a departure at a record with times, by its kind
timed_once : (feed : Feed) (trip : Trip) (departure : Departure) → slice_get feed.trips departure.trip ≡ Some trip → IsAmong Once trip.rows departure.trip departure → IsTimedDeparture feed trip departure
timed_once feed trip departure at a =
    record { of_trip = at; row = a.row; at_row = a.at_row; at_stop = a.boarded.at_spot; timed = a.boarded.timed; picks_up = a.boarded.picks_up }

timed_started : (feed : Feed) (trip : Trip) (departure : Departure) → slice_get feed.trips departure.trip ≡ Some trip → IsAmong AtStarts trip.rows departure.trip departure → IsTimedDeparture feed trip departure
timed_started feed trip departure at a =
    record { of_trip = at; row = a.row; at_row = a.at_row; at_stop = a.boarded.at_spot; timed = a.boarded.timed; picks_up = a.boarded.picks_up }

pub timed_of_once : (feed : Feed) (departure : Departure) (d : IsDeparture feed Once departure) → IsTimedDeparture feed d.trip departure
timed_of_once feed departure d = timed_once feed d.trip departure d.of_trip d.among

pub timed_of_started : (feed : Feed) (departure : Departure) (d : IsDeparture feed AtStarts departure) → IsTimedDeparture feed d.trip departure
timed_of_started feed departure d = timed_started feed d.trip departure d.of_trip d.among

-- a departure of the kind whose trip is this one
pub record IsOfTrip (feed : Feed) (kind : DepartureKind) (trip : Trip) (departure : Departure) : Type 0 where
  pub of_trip : slice_get feed.trips departure.trip ≡ Some trip
  pub runs_so : RunsSo kind trip
  pub among : IsAmong kind trip.rows departure.trip departure

-- the trip of a departure, as the code reads it
pub departure_read : (feed : Feed) (kind : DepartureKind) (departure : Departure) (trips : List Trip) (trip : Trip) → trips ≡ feed.trips → trip ≡ get_or trips departure.trip trip → IsDeparture feed kind departure
    → IsOfTrip feed kind trip departure
departure_read feed kind departure trips trip all read d =
    let at : slice_get feed.trips departure.trip ≡ Some trip =
    slice_get_read feed.trips (length feed.trips) departure.trip trip refl (slice_get_within feed.trips departure.trip d.trip d.of_trip) (read ∙ ap (λ xs. get_or xs departure.trip trip) all) in
    let same : d.trip ≡ trip = slice_get_unique feed.trips departure.trip d.trip trip d.of_trip at in
    record { of_trip = at; among = subst (λ t. IsAmong kind t.rows departure.trip departure) same d.among; runs_so = subst (RunsSo kind) same d.runs_so }

pub once_read : (feed : Feed) (departure : Departure) (trips : List Trip) (trip : Trip) → trips ≡ feed.trips → trip ≡ get_or trips departure.trip trip → IsDeparture feed Once departure
    → IsTimedDeparture feed trip departure × RunsSo Once trip
once_read feed departure trips trip all read d =
    let of = departure_read feed Once departure trips trip all read d in
    (timed_once feed trip departure of.of_trip of.among, of.runs_so)

pub started_read : (feed : Feed) (departure : Departure) (trips : List Trip) (trip : Trip) → trips ≡ feed.trips → trip ≡ get_or trips departure.trip trip → IsDeparture feed AtStarts departure
    → IsTimedDeparture feed trip departure × RunsSo AtStarts trip
started_read feed departure trips trip all read d =
    let of = departure_read feed AtStarts departure trips trip all read d in
    (timed_started feed trip departure of.of_trip of.among, of.runs_so)

-- on a day on which the trip doesn't run there is no ride
pub none_without_run : (feed : Feed) (times : Times) (days : DayTable) (trip : Trip) (departure : Departure) (day : ℤ) (start : Option ℕ) (limit : ℤ) (ride : Ride) → slice_get feed.trips departure.trip ≡ Some trip
    → (MayRun feed days trip day start → ⊥) → IsRideWith feed times days departure day start limit ride → ⊥
none_without_run feed times days trip departure day start limit ride at never w =
    let p = w.permitted in
    let t : p.trip ≡ trip = slice_get_unique feed.trips departure.trip p.trip trip (subst (λ k. slice_get feed.trips k ≡ Some p.trip) w.of_trip p.of_trip) at in
    never (record {
      on_travel_day = subst (IsTravelDay days) w.on_day p.on_travel_day;
      runs = subst (λ d. RunsOn feed trip d) w.on_day (subst (λ x. RunsOn feed x ride.day) t p.runs);
      starts = subst (StartsRightly trip) w.starts_so (subst (λ x. StartsRightly x ride.start) t p.starts);
    })

-- a travel day begins
pub travel_day_begins : (days : DayTable) (day : ℤ) → IsTravelDay days day → (base : ℤ) × BeginsAt days day base
travel_day_begins days day t = (get_or days.base t.0 (pos 0), (t.0, slice_get-get_or days.base t.0 (pos 0) t.1, t.3))

pub begins_if_some : (days : DayTable) (day on : ℤ) (r : Option ℤ) → on ≡ day → ((base : ℤ) → BeginsAt days on base ↔ (r ≡ Some base)) → IfSome r (BeginsAt days day)
begins_if_some days day on None e says = tt
begins_if_some days day on (Some base) e says = subst (λ d. BeginsAt days d base) e ((says base).1 refl)

pub runs_on_no_other_day : (days : DayTable) (day on : ℤ) (r : Option ℤ) → on ≡ day → ((base : ℤ) → BeginsAt days on base ↔ (r ≡ Some base)) → IfNone r (IsTravelDay days day → ⊥)
runs_on_no_other_day days day on None e says = λ t. (let b = travel_day_begins days day t in none-some b.0 ((says b.0).0 (subst (λ d. BeginsAt days d b.0) (sym e) b.1)))
runs_on_no_other_day days day on (Some base) e says = tt

pub none_running : (feed : Feed) (days : DayTable) (trip : Trip) (day : ℤ) (r : Option ℤ) → IfNone r (IsTravelDay days day → ⊥) → IfNone r (IsRunning feed days trip day → ⊥)
none_running feed days trip day None never = λ runs. never runs.on_travel_day
none_running feed days trip day (Some base) never = tt
