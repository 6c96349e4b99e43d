-- Reasons that are true of a part have printed texts.
use Rattle.std.proofs.Common.{◌≡◌, ℕ, zero, suc, ◌*◌, ◌<◌, ◌≤◌, ℤ, pos, negsuc, ◌+ℤ◌, ◌-ℤ◌, ◌*ℤ◌, ◌≤ℤ◌, List, [], ◌∷◌, Option, None, Some, All, refl, arith}
use Rattle.std.specs.Int.{int_div_euclid}
use Rattle.std.specs.Prelude.{unsigned_abs}
use Rattle.std.proofs.lemmas.Int.{ints}
use Rattle.cert_check.specs.declared.reason.Reason.TheVariants.{Query, Rounds, Journey, TripleDiffers, NotOrdered, Beaten, LabelPlace, FinalUncovered, Uncovered}
use Rattle.flex_model.specs.declared.answer.Answer.{Answer}
use Rattle.flex_model.specs.declared.feed.Feed.{Feed}
use Rattle.flex_model.specs.declared.moment.DayTable.{DayTable}
use Rattle.flex_model.specs.declared.moment.Deadline.{Deadline}
use Rattle.flex_model.specs.declared.query.Query.{Query as TheQuery}
use Rattle.flex_model.specs.declared.ride.Ride.{Ride}
use Rattle.flex_model.specs.declared.times.Times.{Times}
use Rattle.flex_model.specs.declared.trip.Row.{Row}
use Rattle.flex_model.specs.declared.trip.Spot.{Spot}
use Rattle.flex_model.specs.declared.trip.Timing.{Timing}
use Rattle.flex_model.specs.declared.trip.Timing.TheVariants as timing
use Rattle.flex_model.specs.declared.trip.Trip.{Trip}
use Rattle.flex_model.specs.Journey.{limit}
use Rattle.flex_model.specs.LabelTable.{IsOnTheWay}
use Rattle.flex_model.specs.Ride.{Leaves, departure_of, first_departure, shift}
use Rattle.flex_model.specs.ServiceDay.{BeginsAt}
use Rattle.flex_model.specs.SoundFeed.{IsSoundFeed, IsSoundRow, IsSoundTiming, IsSoundTrip}
use Rattle.flex_model.specs.SoundQuery.{IsDayTableOf, IsSoundDayTable, IsSoundQuery}
use Rattle.flex_model.specs.SoundTimes.{AreSoundTimes}
use Rattle.flex_model.proofs.Certificates.{ride_forwards}
use Rattle.flex_model.proofs.Found.{All-at}
use Rattle.query_io.specs.Printable.{IsPrintableRide}
use Rattle.query_io.proofs.PrintedAnswers.{answer_printed, ride_printed}
use Rattle.service_days.proofs.ZoneTables.{day_bounds}
use Rattle.cert_check.specs.Laws.{ReasonsArePrintable}

least : (z : ℤ) (n : ℕ) → unsigned_abs z ≤ n → pos 0 ≤ℤ (z +ℤ pos n)
least (pos a) n le = omega (arith, ints)
least (negsuc a) n le = omega (arith, ints)

departure_short : (at : Spot) (timing : Timing) → IsSoundTiming at timing → departure_of timing < 604800
departure_short at (timing.Times arrives departs) sound = sound.2
departure_short at (timing.Window start end) sound = omega arith

first_short : (feed : Feed) (rows : List Row) → All (IsSoundRow feed) rows → first_departure rows < 604800
first_short feed [] sound = omega arith
first_short feed (row ∷ rows) sound = departure_short row.spot row.timing (All-at (IsSoundRow feed) (row ∷ rows) 0 row sound refl).timing

-- no ride runs more than a week before its records say so
shift_low : (feed : Feed) (trip : Trip) (start : Option ℕ) → IsSoundTrip feed trip → negsuc 604799 ≤ℤ shift trip start
shift_low feed trip None sound = omega (arith, ints)
shift_low feed trip (Some start) sound = let first = first_short feed trip.rows sound.rows in omega (arith, ints)

module _ (days : DayTable) (query : TheQuery) (sound_days : IsSoundDayTable days) (of_query : IsDayTableOf query days) where
  -- a day of the query's table begins after 1981
  begins_late : (feed : Feed) (times : Times) (day base : ℤ) → IsSoundQuery feed times query → BeginsAt days day base → pos 400000000 ≤ℤ base
  begins_late feed times day base sound begins =
      let near = least (base -ℤ (pos 86400 *ℤ (days.first +ℤ pos begins.0))) 93599 (sound_days.near begins.0 base begins.1) in
      let first : days.first +ℤ pos 1520 ≡ int_div_euclid query.depart (pos 86400) = of_query in
      let low = (day_bounds query.depart sound.depart).0 in
      omega (arith, ints)

  leaves_late : (feed : Feed) (times : Times) (ride : Ride) (by : ℤ) (timing : Timing) → IsSoundQuery feed times query → negsuc 604799 ≤ℤ by → Leaves days ride by timing
      → pos 315532800 ≤ℤ ride.departs
  leaves_late feed times ride by (timing.Times arrives departs) sound low leaves =
      let begins = begins_late feed times ride.day leaves.1.0 sound leaves.1.1 in
      let scheduled : leaves.0 ≡ leaves.1.0 +ℤ pos departs = leaves.1.2 in
      let then : ride.departs ≡ leaves.0 +ℤ by = leaves.2 in
      omega (arith, ints)
  leaves_late feed times ride by (timing.Window start end) sound low leaves =
      let begins = begins_late feed times ride.day leaves.3.0 sound leaves.3.1 in
      let then : ride.departs ≡ leaves.3.0 +ℤ pos (60 * leaves.0) = leaves.3.2 in
      omega (arith, ints)

  on_the_way_printed : (feed : Feed) (times : Times) (ride : Ride) (deadline : Deadline) → IsSoundFeed feed → AreSoundTimes feed times → IsSoundQuery feed times query
      → IsOnTheWay feed times days query ride deadline → IsPrintableRide feed times ride
  on_the_way_printed feed times ride deadline sound sound_times sound_query way =
      let p = way.usable.permitted in
      let trip = All-at (IsSoundTrip feed) feed.trips ride.trip p.trip sound.each_trip p.of_trip in
      let leaves = leaves_late feed times ride (shift p.trip ride.start) p.boarding.timing sound_query (shift_low feed p.trip ride.start trip) p.leaves in
      let forwards = ride_forwards feed times days ride sound p in
      let by : ride.arrives ≤ℤ limit query = way.arrives in
      let departs = sound_query.depart in
      let horizon = sound_query.horizon in
      ride_printed feed times sound sound_times days query sound_days sound_query ride p
      (record { low = leaves; high = omega (arith, ints) }) (record { low = omega (arith, ints); high = omega (arith, ints) })

pub reasons_printable : ReasonsArePrintable
reasons_printable feed times days query part Query sound sound_times sound_days of_query sound_query applies = tt
reasons_printable feed times days query part Rounds sound sound_times sound_days of_query sound_query applies = tt
reasons_printable feed times days query part (Journey n flaw) sound sound_times sound_days of_query sound_query applies = tt
reasons_printable feed times days query part (TripleDiffers n told real) sound sound_times sound_days of_query sound_query applies =
    let answer : Answer = record { triple = real; rides = applies.0.rides } in
    let printed = answer_printed feed times sound sound_times days query sound_days sound_query answer applies.3 in
    (printed.deadline, printed.arrival)
reasons_printable feed times days query part (NotOrdered n) sound sound_times sound_days of_query sound_query applies = tt
reasons_printable feed times days query part (Beaten n m) sound sound_times sound_days of_query sound_query applies = tt
reasons_printable feed times days query part (LabelPlace n) sound sound_times sound_days of_query sound_query applies = tt
reasons_printable feed times days query part (FinalUncovered n) sound sound_times sound_days of_query sound_query applies = tt
reasons_printable feed times days query part (Uncovered zero ride) sound sound_times sound_days of_query sound_query applies =
    on_the_way_printed days query sound_days of_query feed times ride applies.0 sound sound_times sound_query applies.2
reasons_printable feed times days query part (Uncovered (suc n) ride) sound sound_times sound_days of_query sound_query applies =
    let unheld = applies.2 in
    on_the_way_printed days query sound_days of_query feed times ride unheld.0 sound sound_times sound_query unheld.3
