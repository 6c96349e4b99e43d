-- Starts of a trip that frequencies.txt names, and rides that are shifted to them.
use Rattle.std.proofs.Common.{◌≡◌, ℕ, ◌+◌, ◌*◌, ◌<◌, pos, negsuc, ◌+ℤ◌, true, [], ◌∷◌, Option, Some, None, All, slice_get, refl, sym, subst, lit<, arith}
use Rattle.std.proofs.lemmas.Bool.{false≢true}
use Rattle.std.proofs.lemmas.Int.{ints}
use Rattle.std.proofs.lemmas.List.Elements.{All-cons}
use Rattle.std.proofs.lemmas.Option.{same_Some}
use Rattle.flex_model.specs.declared.feed.Feed.{Feed}
use Rattle.flex_model.specs.declared.ride.Ride.{Ride}
use Rattle.flex_model.specs.declared.trip.Repeat.{Repeat}
use Rattle.flex_model.specs.declared.trip.Row.{Row}
use Rattle.flex_model.specs.declared.trip.Timing.TheVariants.{Times, Window}
use Rattle.flex_model.specs.declared.trip.Trip.{Trip}
use Rattle.flex_model.specs.Ride.{Arrives, HasTimes, IsPermittedRide, IsStart, Leaves, StartsRightly, first_departure, shift}
use Rattle.flex_model.proofs.DayLaws.{IsMoment_unique}
use Rattle.flex_model.proofs.Examples.Changes.{days, feed, first_ride, first_trip, is_free, moment, row, times, travels, weekdays}
use Rattle.flex_model.proofs.Found.{All-at, All-one, only_contained, only_item}

-- every ten minutes from 08:05 on, before 08:30
abbrev pub repeat : Repeat
repeat = record { first = 29100; end = 30600; headway = 600 }

-- a trip of two records, at 08:00 and 08:20, that is repeated
abbrev pub often : Trip
often = record first_trip { frequent = true; repeats = repeat ∷ [] }

first_start : IsStart often 29100
first_start = (repeat, 0, (0, lit< tt, refl), refl, lit< tt)

second_start : IsStart often 29700
second_start = (repeat, 1, (0, lit< tt, refl), refl, lit< tt)

last_start : IsStart often 30300
last_start = (repeat, 2, (0, lit< tt, refl), refl, lit< tt)

-- a start is some headways after the first one, and before the end
some_headways : (start : ℕ) → IsStart often start → (n : ℕ) × (start ≡ 29100 + n * 600) × (start < 30600)
some_headways start s =
    let same = only_contained repeat s.0 s.2 in
    (s.1, subst (λ (r : Repeat). start ≡ r.first + s.1 * r.headway) same s.3, subst (λ (r : Repeat). start < r.end) same s.4)

-- the next one would be past the end
past_end : IsStart often 30900 → ⊥
past_end s = let h = some_headways 30900 s in let lt = h.2 in omega arith

-- a second after a start there is none
second_late : IsStart often 29101 → ⊥
second_late s = let h = some_headways 29101 s in let e = h.1 in omega arith

-- nor is there one where its records say
as_recorded : IsStart often 28800 → ⊥
as_recorded s = let h = some_headways 28800 s in let e = h.1 in omega arith

-- the feed of this trip alone
abbrev feed_of : Trip → Feed
feed_of trip = record feed { trips = trip ∷ [] }

-- the first ride of the day runs five minutes later than its records say
abbrev ride : Ride
ride = record first_ride { start = Some 29100; departs = pos 1749024300; arrives = pos 1749025500 }

as_first : first_departure often.rows ≡ 28800
as_first = refl

later : shift often (Some 29100) ≡ pos 300
later = refl

timed : All (λ (row : Row). HasTimes row.timing) often.rows
timed = All-cons (λ (row : Row). HasTimes row.timing) (row 1 0 28800) (row 2 1 30000 ∷ []) tt (All-one (λ (row : Row). HasTimes row.timing) (row 2 1 30000) tt)

no_time : HasTimes (Window 28800 36000) → ⊥
no_time h = h

permitted : IsPermittedRide (feed_of often) times days ride
permitted = record {
  trip = often;
  of_trip = refl;
  boarding = row 1 0 28800;
  at_boarding = refl;
  alighting = row 2 1 30000;
  at_alighting = refl;
  in_order = lit< tt;
  on_travel_day = travels;
  runs = (weekdays, refl, refl);
  starts = (refl, first_start, timed);
  boards = refl;
  picks_up = is_free;
  alights = refl;
  drops_off = is_free;
  leaves = (pos 1749024000, moment 28800, refl);
  arrives = (pos 1749025200, moment 30000, refl);
}

-- the trip of a permitted ride is the one of the feed
starts_of : (trip : Trip) (other : Ride) → IsPermittedRide (feed_of trip) times days other → StartsRightly trip other.start
starts_of trip other p = subst (λ trip. StartsRightly trip other.start) (only_item trip other.trip p.trip p.of_trip) p.starts

-- without a start it isn't permitted
no_start : IsPermittedRide (feed_of often) times days first_ride → ⊥
no_start p = false≢true (sym (starts_of often first_ride p))

-- nor at a start that the trip doesn't have
wrong_start : IsPermittedRide (feed_of often) times days (record ride { start = Some 29101 }) → ⊥
wrong_start p = let starts = starts_of often (record ride { start = Some 29101 }) p in second_late starts.1

-- nor with a start where frequencies.txt doesn't name the trip
not_named : (start : ℕ) → IsPermittedRide (feed_of first_trip) times days (record first_ride { start = Some start }) → ⊥
not_named start p = let starts = starts_of first_trip (record first_ride { start = Some start }) p in false≢true starts.0

-- at the times of its records it isn't permitted either
unshifted : IsPermittedRide (feed_of often) times days (record ride { departs = pos 1749024000 }) → ⊥
unshifted p =
    let of_trip = only_item often 0 p.trip p.of_trip in
    let boarding : p.boarding ≡ row 1 0 28800 = same_Some p.boarding (row 1 0 28800) (sym (subst (λ (trip : Trip). slice_get trip.rows 0 ≡ Some p.boarding) of_trip p.at_boarding)) in
    let leaves = subst (λ (trip : Trip). Leaves days (record ride { departs = pos 1749024000 }) (shift trip (Some 29100)) (Times 28800 28800)) of_trip
    (subst (λ (r : Row). Leaves days (record ride { departs = pos 1749024000 }) (shift p.trip (Some 29100)) r.timing) boarding p.leaves) in
    let scheduled = IsMoment_unique days (pos 20243) 28800 leaves.0 (pos 1749024000) leaves.1 (moment 28800) in
    let departs : pos 1749024000 ≡ leaves.0 +ℤ pos 300 = leaves.2 in
    omega (arith, ints)

-- a trip with repeats and a window has no rides at all
abbrev on_demand : Row
on_demand = record (row 1 0 28800) { timing = Window 28800 36000 }

abbrev mixed : Trip
mixed = record often { rows = on_demand ∷ row 2 1 30000 ∷ [] }

has_window : (start : Option ℕ) → StartsRightly mixed start → ⊥
has_window None e = false≢true (sym e)
has_window (Some start) starts = All-at (λ (row : Row). HasTimes row.timing) mixed.rows 0 on_demand starts.2 refl

no_rides : (other : Ride) → IsPermittedRide (feed_of mixed) times days other → ⊥
no_rides other p = has_window other.start (starts_of mixed other p)

-- a start before the departure of the first record shifts a ride backwards
abbrev sooner : Trip
sooner = record often { repeats = (record { first = 28500; end = 28501; headway = 600 }) ∷ [] }

abbrev early_ride : Ride
early_ride = record first_ride { start = Some 28500; departs = pos 1749023700; arrives = pos 1749024900 }

earlier : shift sooner (Some 28500) ≡ negsuc 299
earlier = refl

leaves_earlier : Leaves days early_ride (shift sooner (Some 28500)) (Times 28800 28800)
leaves_earlier = (pos 1749024000, moment 28800, refl)

arrives_earlier : Arrives times days early_ride (shift sooner (Some 28500)) (Times 28800 28800) (Times 30000 30000)
arrives_earlier = (pos 1749025200, moment 30000, refl)

not_later : Leaves days ride (shift sooner (Some 28500)) (Times 28800 28800) → ⊥
not_later leaves =
    let scheduled = IsMoment_unique days (pos 20243) 28800 leaves.0 (pos 1749024000) leaves.1 (moment 28800) in
    let departs : pos 1749024300 ≡ leaves.0 +ℤ negsuc 299 = leaves.2 in
    omega (arith, ints)
