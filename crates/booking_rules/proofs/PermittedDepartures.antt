-- The departure of a permitted ride lies in the range in which its bookings are told.
use Rattle.std.proofs.Common.{◌≡◌, ℕ, ◌+◌, ◌*◌, ◌<◌, ◌≤◌, ℤ, pos, negsuc, ◌+ℤ◌, ◌-ℤ◌, ◌*ℤ◌, ◌≤ℤ◌, unsigned_abs, List, [], ◌∷◌, Option, Some, None, All, length, refl, arith}
use Rattle.std.proofs.lemmas.Int.{ints}
use Rattle.std.proofs.lemmas.Option.{slice_get_within}
use Rattle.flex_model.specs.declared.feed.Feed.{Feed}
use Rattle.flex_model.specs.declared.moment.DayTable.{DayTable}
use Rattle.flex_model.specs.declared.ride.Ride.{Ride}
use Rattle.flex_model.specs.declared.times.Times.{Times}
use Rattle.flex_model.specs.declared.trip.Row.{Row}
use Rattle.flex_model.specs.declared.trip.Spot.{Spot}
use Rattle.flex_model.specs.declared.trip.Timing.{Timing}
use Rattle.flex_model.specs.declared.trip.Timing.TheVariants as timing
use Rattle.flex_model.specs.declared.trip.Trip.{Trip}
use Rattle.flex_model.specs.Ride.{IsPermittedRide, Leaves, StartsRightly, departure_of, first_departure, shift}
use Rattle.flex_model.specs.ServiceDay.{BeginsAt, IsTravelDay}
use Rattle.flex_model.specs.SoundFeed.{IsSoundFeed, IsSoundRepeat, IsSoundRow, IsSoundTiming, IsSoundTrip}
use Rattle.flex_model.specs.SoundQuery.{IsSoundDayTable}
use Rattle.flex_model.proofs.Found.{All-at, index_of}
use Rattle.booking_rules.specs.Ends.{HasRows}
use Rattle.booking_rules.specs.Openings.{IsInRange}

most : (z : ℤ) (n : ℕ) → unsigned_abs z ≤ n → z ≤ℤ pos n
most (pos a) n le = omega (arith, ints)
most (negsuc a) n le = omega (arith, ints)

least : (z : ℤ) (n : ℕ) → unsigned_abs z ≤ n → pos 0 ≤ℤ (z +ℤ pos n)
least (pos a) n le = omega (arith, ints)
least (negsuc a) n le = omega (arith, ints)

-- a number between two bounds
record IsWithin (low z high : ℤ) : Type 0 where
  from : low ≤ℤ z
  to : z ≤ℤ high

-- a travel day begins in the years that its table can have
begins_within : (days : DayTable) (day base : ℤ) → IsSoundDayTable days → IsTravelDay days day → BeginsAt days day base → IsWithin (pos 1000000) base (pos 8800000000)
begins_within days day base sound travel begins =
    let k = begins.0 in
    let count : length days.base ≡ 1526 = sound.count in
    let within : k < length days.base = slice_get_within days.base k base begins.1 in
    let late : length days.base ≤ travel.0 + 22 = travel.2 in
    let here : day ≡ days.first +ℤ pos k = begins.2 in
    let there : day ≡ days.first +ℤ pos travel.0 = travel.3 in
    let low : pos 0 ≤ℤ days.first = sound.low in
    let high : days.first ≤ℤ pos 100000 = sound.high in
    let near = sound.near k base begins.1 in
    let above = most (base -ℤ (pos 86400 *ℤ (days.first +ℤ pos k))) 93599 near in
    let below = least (base -ℤ (pos 86400 *ℤ (days.first +ℤ pos k))) 93599 near in
    record { from = omega (arith, ints); to = omega (arith, ints) }

departure_short : (at : Spot) (timing : Timing) → IsSoundTiming at timing → departure_of timing < 604800
departure_short at (timing.Times arrives departs) sound = sound.2
departure_short at (timing.Window start end) sound = omega arith

first_short : (feed : Feed) (rows : List Row) → All (IsSoundRow feed) rows → first_departure rows < 604800
first_short feed [] sound = omega arith
first_short feed (row ∷ rows) sound = departure_short row.spot row.timing (All-at (IsSoundRow feed) (row ∷ rows) 0 row sound refl).timing

start_short : (feed : Feed) (trip : Trip) (start : Option ℕ) → IsSoundTrip feed trip → StartsRightly trip start → IsWithin (negsuc 604799) (shift trip start) (pos 604800)
start_short feed trip None sound starts = record { from = omega (arith, ints); to = omega (arith, ints) }
start_short feed trip (Some start) sound starts =
    let is = starts.1 in
    let at = index_of trip.repeats is.0 is.2 in
    let repeat = All-at IsSoundRepeat trip.repeats at.0 is.0 sound.repeats at.1 in
    let end : is.0.end < 604800 = repeat.end in
    let before : start < is.0.end = is.4 in
    let first = first_short feed trip.rows sound.rows in
    record { from = omega (arith, ints); to = omega (arith, ints) }

leaves_within : (days : DayTable) (ride : Ride) (by : ℤ) (at : Spot) (timing : Timing) → IsSoundDayTable days → IsTravelDay days ride.day → IsWithin (negsuc 604799) by (pos 604800)
    → IsSoundTiming at timing → Leaves days ride by timing → IsInRange ride.departs
leaves_within days ride by at (timing.Times arrives departs) sound travel short sound_timing leaves =
    let begins = begins_within days ride.day leaves.1.0 sound travel leaves.1.1 in
    let scheduled : leaves.0 ≡ leaves.1.0 +ℤ pos departs = leaves.1.2 in
    let then : ride.departs ≡ leaves.0 +ℤ by = leaves.2 in
    let time : departs < 604800 = sound_timing.2 in
    record { low = omega (arith, ints, begins.from, short.from); high = omega (arith, ints, begins.to, short.to) }
leaves_within days ride by at (timing.Window start end) sound travel short sound_timing leaves =
    let begins = begins_within days ride.day leaves.3.0 sound travel leaves.3.1 in
    let then : ride.departs ≡ leaves.3.0 +ℤ pos (60 * leaves.0) = leaves.3.2 in
    let by_end : 60 * leaves.0 ≤ end = leaves.2 in
    let time : end < 604800 = sound_timing.1 in
    record { low = omega (arith, ints, begins.from); high = omega (arith, ints, begins.to) }

module _ (feed : Feed) (times : Times) (days : DayTable) (ride : Ride) (p : IsPermittedRide feed times days ride) where
  pub has_rows : HasRows feed ride
  has_rows = (p.trip, p.of_trip, slice_get_within p.trip.rows ride.from_row p.boarding p.at_boarding, slice_get_within p.trip.rows ride.to_row p.alighting p.at_alighting)

  pub departs_in_range : IsSoundFeed feed → IsSoundDayTable days → IsInRange ride.departs
  departs_in_range sound table =
      let trip = All-at (IsSoundTrip feed) feed.trips ride.trip p.trip sound.each_trip p.of_trip in
      let boarding = All-at (IsSoundRow feed) p.trip.rows ride.from_row p.boarding trip.rows p.at_boarding in
      leaves_within days ride (shift p.trip ride.start) p.boarding.spot p.boarding.timing table p.on_travel_day
      (start_short feed p.trip ride.start trip p.starts) boarding.timing p.leaves
