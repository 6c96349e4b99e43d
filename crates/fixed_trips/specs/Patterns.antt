-- Patterns of trips, and the first ride of a pattern.
--
-- A trip belongs to a pattern where frequencies.txt doesn't name it and each of its records has times, names a stop, and has
-- ways that are none or free. Trips of one pattern agree in the number of their records, and in the stops and ways of each.
-- Patterns are numbered by the first of their trips. Of several rides the first one is that with the least arrival, then the
-- least trip, and then the least day.
--
-- This project's own.
use Rattle.std.specs.Prelude.{◌≡◌, ◌↔◌, ℕ, ◌<◌, ◌≤◌, ℤ, ◌≤ℤ◌, false, List, Option, Some, None, All, length, map, slice_get}
use Rattle.flex_model.specs.declared.feed.Feed.{Feed}
use Rattle.flex_model.specs.declared.moment.DayTable.{DayTable}
use Rattle.flex_model.specs.declared.ride.Ride.{Ride}
use Rattle.flex_model.specs.declared.times.Times.{Times}
use Rattle.flex_model.specs.declared.trip.Row.{Row}
use Rattle.flex_model.specs.declared.trip.Spot.{Spot}
use Rattle.flex_model.specs.declared.trip.Trip.{Trip}
use Rattle.flex_model.specs.declared.trip.Way.{Way}
use Rattle.flex_model.specs.declared.trip.Way.TheVariants.{No, Free, Book}
use Rattle.flex_model.specs.Ride.{HasTimes, IsPermittedRide}
use Rattle.fixed_trips.specs.Timed.{NamesStop}

-- none, or free
abbrev pub NeedsNoBooking : Way → Type 0
NeedsNoBooking No = Unit {0}
NeedsNoBooking Free = Unit {0}
NeedsNoBooking (Book rule) = ⊥

-- the record has times, names a stop, and has ways that are none or free
pub record IsPatternRow (row : Row) : Type 0 where
  pub timed : HasTimes row.timing
  pub at_stop : NamesStop row.spot
  pub pickup : NeedsNoBooking row.pickup
  pub drop_off : NeedsNoBooking row.drop_off

-- frequencies.txt doesn't name the trip, and a pattern can have each of its records
pub record HasPattern (trip : Trip) : Type 0 where
  pub once : trip.frequent ≡ false
  pub rows : All IsPatternRow trip.rows

-- what a pattern has of a record: what it names, and its ways
abbrev pub call_of : Row → Spot × Way × Way
call_of row = (row.spot, row.pickup, row.drop_off)

-- the trips' records agree in number, in what they name, and in their ways
abbrev pub HaveOnePattern : Trip → Trip → Type 0
HaveOnePattern a b = map call_of a.rows ≡ map call_of b.rows

-- in this list of the trips' patterns the trip has this one
abbrev pub IsOfPattern : List (Option ℕ) → ℕ → ℕ → Type 0
IsOfPattern patterns trip pattern = slice_get patterns trip ≡ Some (Some pattern)

-- The list has for each trip of the feed its pattern, where it belongs to one. Two trips have one number just where they
-- have one pattern. Before the first trip of a pattern there are trips of each with a lesser number.
pub record ArePatternsOf (feed : Feed) (patterns : List (Option ℕ)) : Type 0 where
  pub size : length patterns ≡ length feed.trips
  pub some : (t : ℕ) (trip : Trip) → slice_get feed.trips t ≡ Some trip
      → ((p : ℕ) × IsOfPattern patterns t p) ↔ HasPattern trip
  pub same : (t u p q : ℕ) (a b : Trip) → slice_get feed.trips t ≡ Some a
      → slice_get feed.trips u ≡ Some b → IsOfPattern patterns t p → IsOfPattern patterns u q
      → (p ≡ q) ↔ HaveOnePattern a b
  pub by_first : (t p q : ℕ) → IsOfPattern patterns t p → q < p
      → (u : ℕ) × (u < t) × IsOfPattern patterns u q

-- a permitted ride of a trip of the pattern between these records that leaves no earlier
pub record IsPatternRide (feed : Feed) (times : Times) (days : DayTable)
    (patterns : List (Option ℕ)) (pattern from_row to_row : ℕ) (earliest : ℤ)
    (ride : Ride) : Type 0 where
  pub of_pattern : IsOfPattern patterns ride.trip pattern
  pub from : ride.from_row ≡ from_row
  pub to : ride.to_row ≡ to_row
  pub from_then : earliest ≤ℤ ride.departs
  pub permitted : IsPermittedRide feed times days ride

-- by arrivals, then by trips, and then by days
pub record ComesNoLater (a b : Ride) : Type 0 where
  pub arrival : a.arrives ≤ℤ b.arrives
  pub trip : a.arrives ≡ b.arrives → a.trip ≤ b.trip
  pub day : a.arrives ≡ b.arrives → a.trip ≡ b.trip → a.day ≤ℤ b.day

-- the first of the rides with the property, and none just where there is none
abbrev pub IsFirst : (Ride → Type 0) → Option Ride → Type 0
IsFirst P None = (ride : Ride) → P ride → ⊥
IsFirst P (Some ride) = P ride × ((other : Ride) → P other → ComesNoLater ride other)
