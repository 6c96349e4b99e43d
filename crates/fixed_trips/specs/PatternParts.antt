-- The numbering of patterns trip by trip, and the search for their first ride.
use Rattle.std.specs.Prelude.{◌≡◌, ◌↔◌, ◌⊎◌, ℕ, ◌+◌, ◌<◌, ◌≤◌, ℤ, ◌≤ℤ◌, Bool, true, false, List, Option, Some, None, Contains, length, map, slice_get}
use Rattle.std.specs.BTreeMap.{BTreeMap, btree_map_len}
use Rattle.std.specs.Cmp.Lexicographic.{slice_cmp}
use Rattle.std.specs.Global.{Vec}
use Rattle.std.specs.List.Sorted.{IsNonDecreasingBy}
use Rattle.std.specs.Map.{lookup}
use Rattle.std.specs.Ordering.{bool_cmp, is_eq, nat_cmp, ordering_then}
use Rattle.std.specs.declared.cmp.Ordering.{Ordering}
use Rattle.flex_model.specs.declared.feed.Feed.{Feed}
use Rattle.flex_model.specs.declared.moment.DayTable.{DayTable}
use Rattle.flex_model.specs.declared.ride.Ride.{Ride}
use Rattle.flex_model.specs.declared.times.Times.{Times}
use Rattle.flex_model.specs.declared.trip.Row.{Row}
use Rattle.flex_model.specs.declared.trip.Spot.{Spot}
use Rattle.flex_model.specs.declared.trip.Spot.TheVariants as spot
use Rattle.flex_model.specs.declared.trip.Trip.{Trip}
use Rattle.flex_model.specs.declared.trip.Way.{Way}
use Rattle.flex_model.specs.declared.trip.Way.TheVariants.{No, Free, Book}
use Rattle.flex_model.specs.Ride.{IsPermittedRide}
use Rattle.fixed_trips.specs.declared.pattern_trips.PatternTrip.{PatternTrip}
use Rattle.fixed_trips.specs.Patterns.{ComesNoLater, HasPattern, IsOfPattern}

-- what tells patterns apart at a record: the number that it names, whether one may board and whether one may alight
abbrev pub Call : Type 0
Call = ℕ × Bool × Bool

-- by these in turn
abbrev pub compare_calls : Call → Call → Ordering
compare_calls x y =
    ordering_then (ordering_then (nat_cmp x.0 y.0) (bool_cmp x.1 y.1)) (bool_cmp x.2 y.2)

-- the number of what a record names
abbrev pub number_named : Spot → ℕ
number_named (spot.Stop number) = number
number_named (spot.Group number) = number
number_named (spot.Zone number) = number

-- one may board or alight so
abbrev pub is_offered : Way → Bool
is_offered No = false
is_offered Free = true
is_offered (Book rule) = true

-- the same of a record
abbrev pub key_call : Row → Call
key_call row = (number_named row.spot, is_offered row.pickup, is_offered row.drop_off)

-- the calls of a trip in order
abbrev pub key_of : Trip → List Call
key_of trip = map key_call trip.rows

-- the patterns that were met, by their calls
abbrev pub Met : Type 0
Met = BTreeMap (Vec Call) ℕ

-- the number of the pattern with these calls
abbrev pub number_of : Met → List Call → Option ℕ
number_of met calls = lookup (λ k. is_eq (slice_cmp compare_calls calls k.items)) met.entries

-- no pattern was added
pub record IsKept (old new : Met) : Type 0 where
  pub same : (calls : List Call) → number_of new calls ≡ number_of old calls
  pub size : btree_map_len new ≡ btree_map_len old

-- the pattern with these calls was added, with the next number
pub record IsAdded (calls : List Call) (old new : Met) : Type 0 where
  pub absent : number_of old calls ≡ None
  pub here : number_of new calls ≡ Some (btree_map_len old)
  pub others : (other : List Call)
      → (other ≡ calls) ⊎ (number_of new other ≡ number_of old other)
  pub size : btree_map_len new ≡ btree_map_len old + 1

-- the trip's pattern has this number, as it had before or as it was added now
abbrev pub IsNoted : List Call → Met → Met → ℕ → Type 0
IsNoted calls old new number =
    (IsKept old new × (number_of old calls ≡ Some number))
    ⊎ (IsAdded calls old new × (number ≡ btree_map_len old))

-- the trip's pattern, if it has one, was met or is added
abbrev pub IsNumbered : Trip → Met → Met → Option ℕ → Type 0
IsNumbered trip old new None = IsKept old new × (HasPattern trip → ⊥)
IsNumbered trip old new (Some number) = HasPattern trip × IsNoted (key_of trip) old new number

-- the patterns of the first trips, and their calls
pub record AreNumbered (trips : List Trip) (met : Met) (patterns : List (Option ℕ)) : Type 0 where
  pub few : length patterns ≤ length trips
  pub size : btree_map_len met ≤ length patterns
  pub has : (t p : ℕ) (trip : Trip) → slice_get trips t ≡ Some trip → IsOfPattern patterns t p
      → HasPattern trip × (number_of met (key_of trip) ≡ Some p)
  pub some : (t : ℕ) (trip : Trip) → slice_get trips t ≡ Some trip → t < length patterns
      → HasPattern trip → (p : ℕ) × IsOfPattern patterns t p
  pub below : (p : ℕ) (calls : List Call) → number_of met calls ≡ Some p → p < btree_map_len met
  pub apart : (p : ℕ) (a b : List Call) → number_of met a ≡ Some p → number_of met b ≡ Some p
      → a ≡ b
  pub used : (p : ℕ) → p < btree_map_len met → (t : ℕ) × IsOfPattern patterns t p
  pub by_first : (t p q : ℕ) → IsOfPattern patterns t p → q < p
      → (u : ℕ) × (u < t) × IsOfPattern patterns u q

-- the list has each trip with a pattern, with this, and no others
abbrev pub HasPatternTrips : List (Option ℕ) → List PatternTrip → Type 0
HasPatternTrips patterns trips =
    (trip : PatternTrip) → Contains trips trip ↔ IsOfPattern patterns trip.trip trip.pattern

-- by their patterns
abbrev pub AreInOrder : List PatternTrip → Type 0
AreInOrder trips = IsNonDecreasingBy (λ trip. trip.pattern) trips

-- there are so many patterns
abbrev pub IsCountOf : List (Option ℕ) → ℕ → Type 0
IsCountOf patterns count = (p : ℕ) → (p < count) ↔ Contains patterns (Some p)

-- what the table keeps beside the patterns of the trips
pub record IsTable (patterns : List (Option ℕ)) (trips : List PatternTrip)
    (count : ℕ) : Type 0 where
  pub trips_are : HasPatternTrips patterns trips
  pub in_order : AreInOrder trips
  pub count_is : IsCountOf patterns count

-- the trip of the feed belongs to a pattern
abbrev pub IsPatternTrip : Feed → ℕ → Type 0
IsPatternTrip feed number =
    (trip : Trip) × (slice_get feed.trips number ≡ Some trip) × HasPattern trip

-- a permitted ride of the trip on the day between these records
pub record IsTripRide (feed : Feed) (times : Times) (days : DayTable) (trip : ℕ) (day : ℤ)
    (from_row to_row : ℕ) (ride : Ride) : Type 0 where
  pub of_trip : ride.trip ≡ trip
  pub on_day : ride.day ≡ day
  pub from : ride.from_row ≡ from_row
  pub to : ride.to_row ≡ to_row
  pub permitted : IsPermittedRide feed times days ride

-- a permitted ride of the trip between these records that leaves no earlier
abbrev pub IsRideOfTrip : Feed → Times → DayTable → ℕ → ℕ → ℕ → ℤ → Ride → Type 0
IsRideOfTrip feed times days trip from_row to_row earliest ride =
    IsTripRide feed times days trip ride.day from_row to_row ride × (earliest ≤ℤ ride.departs)

-- the same for one of these trips
abbrev pub IsRideOfOne : Feed → Times → DayTable → List PatternTrip → ℕ → ℕ → ℤ → Ride → Type 0
IsRideOfOne feed times days trips from_row to_row earliest ride =
    (trip : PatternTrip) × Contains trips trip
    × IsRideOfTrip feed times days trip.trip from_row to_row earliest ride

-- the one that comes first of two rides, of which each may be absent
pub record IsEarlier (a b result : Option Ride) : Type 0 where
  pub one : (ride : Ride) → result ≡ Some ride → (a ≡ Some ride) ⊎ (b ≡ Some ride)
  pub first : (ride other : Ride) → result ≡ Some ride → (a ≡ Some other) ⊎ (b ≡ Some other)
      → ComesNoLater ride other
  pub none : result ≡ None → (a ≡ None) × (b ≡ None)
