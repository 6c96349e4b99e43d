-- Each test of a ride and of a journey, with one that passes and one that fails.
use Rattle.std.proofs.Common.{◌≡◌, ◌∙◌, ◌≢◌, IsTrue, ℕ, zero, suc, ◌<◌, pos, ◌+ℤ◌, ◌≤ℤ◌, List, [], ◌∷◌, Some, slice_get, refl, sym, ap, subst, inl, inr, lit≤, lit<, arith}
use Rattle.std.proofs.lemmas.Bool.{false≢true}
use Rattle.std.proofs.lemmas.Int.{ints}
use Rattle.std.proofs.lemmas.Option.{none-some, same_Some}
use Rattle.flex_model.specs.declared.feed.Feed.{Feed}
use Rattle.flex_model.specs.declared.flaw.JourneyFlaw.{JourneyFlaw}
use Rattle.flex_model.specs.declared.flaw.JourneyFlaw.TheVariants as journey_flaw
use Rattle.flex_model.specs.declared.flaw.RideFlaw.{RideFlaw}
use Rattle.flex_model.specs.declared.flaw.RideFlaw.TheVariants.{NoTrip, NoRow, NoDay, NotActive, Frequent, NotBoarded, NotAlighted, WrongDeparture, NoDirect, WrongArrival}
use Rattle.flex_model.specs.declared.place.Place.TheVariants as place
use Rattle.flex_model.specs.declared.query.Query.{Query}
use Rattle.flex_model.specs.declared.ride.Ride.{Ride}
use Rattle.flex_model.specs.declared.times.Times.{Times}
use Rattle.flex_model.specs.declared.trip.Row.{Row}
use Rattle.flex_model.specs.declared.trip.Trip.{Trip}
use Rattle.flex_model.specs.declared.trip.Way.TheVariants.{No}
use Rattle.flex_model.specs.declared.change.ChangeKind.{ChangeKind}
use Rattle.flex_model.specs.declared.change.ChangeKind.TheVariants.{Least}
use Rattle.flex_model.specs.Change.{HasChange}
use Rattle.flex_model.specs.Journey.{ChangesInTime}
use Rattle.flex_model.specs.Flaw.{IsBetween, IsBooked, PassesBefore, HasDirectTime, HasWay, IsFirstJourneyFlaw, IsInTime, IsReached, IsReadyAt, Passes, PassesAt, IsThrough, no_way_to}
use Rattle.flex_model.specs.Place.{Serves}
use Rattle.flex_model.specs.Ride.{Arrives, RunsOn, StartsRightly, shift}
use Rattle.flex_model.specs.ServiceDay.{is_active}
use Rattle.flex_model.proofs.DayLaws.{IsMoment_unique}
use Rattle.flex_model.proofs.Examples.Changes.{by_rule, change, days, feed, first_permitted, first_ride, first_trip, first_usable, from_origin, journey, moment, not_from_n, only_access, only_changes, query, rides, row, second_permitted, second_ride, second_usable, times, weekdays}
use Rattle.flex_model.proofs.Examples.Dale as dale
use Rattle.flex_model.proofs.Examples.Rounds.{departs_wrongly, late_ride}
use Rattle.flex_model.proofs.Flaws.{journeys_flawed, of_records, of_trip, passes}
use Rattle.flex_model.proofs.Found.{none_contained, only_contained, only_item}

-- the first ride is between the two records of its trip, and no ride is between a record and itself
first_between : IsBetween feed first_ride first_trip (row 1 0 28800) (row 2 1 30000)
first_between = record { of_trip = refl; at_boarding = refl; at_alighting = refl; in_order = lit< tt }

not_between : IsBetween feed (record first_ride { from_row = 1 }) first_trip (row 2 1 30000) (row 2 1 30000) → ⊥
not_between b = let lt = b.in_order in omega arith

-- a permitted ride passes each test, with times and with windows
timed_passes : (flaw : RideFlaw) → Passes feed times days first_ride flaw
timed_passes flaw = passes feed times days first_ride first_permitted flaw

windowed_passes : (flaw : RideFlaw) → Passes (dale.feed 36000) (dale.times 600) dale.days dale.ride flaw
windowed_passes flaw = passes (dale.feed 36000) (dale.times 600) dale.days dale.ride dale.permitted flaw

-- the feed has two trips
no_trip : Passes feed times days (record first_ride { trip = 2 }) NoTrip → ⊥
no_trip on = none-some on.0 on.1

-- the trip has two records, and is left after it is boarded
no_row : Passes feed times days (record first_ride { to_row = 2 }) NoRow → ⊥
no_row on =
    let same = same_Some first_trip on.0 on.3.of_trip in
    none-some on.2 (subst (λ (trip : Trip). slice_get trip.rows 2 ≡ Some on.2) (sym same) on.3.at_alighting)

same_row : Passes feed times days (record first_ride { from_row = 1 }) NoRow → ⊥
same_row on = let lt = on.3.in_order in omega arith

-- the table has one day
no_day : Passes feed times days (record first_ride { day = pos 20244 }) NoDay → ⊥
no_day t = let lt : t.0 < 1 = t.1 in let day : pos 20244 ≡ pos 20243 +ℤ pos t.0 = t.3 in omega (arith, ints)

-- the trip runs on Wednesdays and not on Saturdays
on_wednesday : RunsOn feed first_trip (pos 20243)
on_wednesday = (weekdays, refl, refl)

not_on_saturday : RunsOn feed first_trip (pos 20246) → ⊥
not_on_saturday runs = false≢true (subst (λ service. IsTrue (is_active service (pos 20246))) (only_item weekdays 0 runs.0 runs.1) runs.2)

not_active : Passes feed times days (record first_ride { day = pos 20246 }) NotActive → ⊥
not_active on = not_on_saturday (of_trip feed (record first_ride { day = pos 20246 }) (λ trip. RunsOn feed trip (pos 20246)) first_trip refl on)

-- frequencies.txt doesn't name the trip, so a ride of it has no start
frequent : Passes feed times days (record first_ride { start = Some 28800 }) Frequent → ⊥
frequent on =
    let starts = of_trip feed (record first_ride { start = Some 28800 }) (λ trip. StartsRightly trip (Some 28800)) first_trip refl on in
    false≢true starts.0

-- the feed of this trip alone
abbrev feed_of : Trip → Feed
feed_of trip = record feed { trips = trip ∷ [] }

-- the first record is that of M, and has a pickup
not_boarded : Passes feed times days (record first_ride { board = place.Stop 1 }) NotBoarded → ⊥
not_boarded on =
    let ride : Ride = record first_ride { board = place.Stop 1 } in
    let boards = of_records feed ride (λ trip a b. Serves feed times a.spot ride.board × (a.pickup ≢ No)) first_trip (row 1 0 28800) (row 2 1 30000) (record { of_trip = refl; at_boarding = refl; at_alighting = refl; in_order = lit< tt }) on in
    let e = boards.0 in
    cc

abbrev without_pickup : Row
without_pickup = record (row 1 0 28800) { pickup = No }

no_pickup : Passes (feed_of (record first_trip { rows = without_pickup ∷ row 2 1 30000 ∷ [] })) times days first_ride NotBoarded → ⊥
no_pickup on =
    let trip : Trip = record first_trip { rows = without_pickup ∷ row 2 1 30000 ∷ [] } in
    let boards = of_records (feed_of trip) first_ride (λ trip a b. Serves (feed_of trip) times a.spot first_ride.board × (a.pickup ≢ No)) trip without_pickup (row 2 1 30000) (record { of_trip = refl; at_boarding = refl; at_alighting = refl; in_order = lit< tt }) on in
    boards.1 refl

-- the second record is that of N, and has a drop-off
not_alighted : Passes feed times days (record first_ride { alight = place.Stop 2 }) NotAlighted → ⊥
not_alighted on =
    let ride : Ride = record first_ride { alight = place.Stop 2 } in
    let alights = of_records feed ride (λ trip a b. Serves feed times b.spot ride.alight × (b.drop_off ≢ No)) first_trip (row 1 0 28800) (row 2 1 30000) (record { of_trip = refl; at_boarding = refl; at_alighting = refl; in_order = lit< tt }) on in
    let e = alights.0 in
    cc

abbrev without_drop_off : Row
without_drop_off = record (row 2 1 30000) { drop_off = No }

no_drop_off : Passes (feed_of (record first_trip { rows = row 1 0 28800 ∷ without_drop_off ∷ [] })) times days first_ride NotAlighted → ⊥
no_drop_off on =
    let trip : Trip = record first_trip { rows = row 1 0 28800 ∷ without_drop_off ∷ [] } in
    let alights = of_records (feed_of trip) first_ride (λ trip a b. Serves (feed_of trip) times b.spot first_ride.alight × (b.drop_off ≢ No)) trip (row 1 0 28800) without_drop_off (record { of_trip = refl; at_boarding = refl; at_alighting = refl; in_order = lit< tt }) on in
    alights.1 refl

-- between windows a direct time is needed
abbrev no_times : Times
no_times = record (dale.times 600) { direct = [] }

has_direct : HasDirectTime (dale.times 600) dale.ride dale.boarding.timing (dale.alighting 36000).timing
has_direct = (600, (0, lit< tt, refl))

has_no_direct : HasDirectTime no_times dale.ride dale.boarding.timing (dale.alighting 36000).timing → ⊥
has_no_direct direct = none_contained (record { from = dale.ride.board; to = dale.ride.alight; seconds = direct.0 }) direct.1

no_direct : Passes (dale.feed 36000) no_times dale.days dale.ride NoDirect → ⊥
no_direct on =
    has_no_direct (of_records (dale.feed 36000) dale.ride (λ trip a b. HasDirectTime no_times dale.ride a.timing b.timing) (dale.trip 36000) dale.boarding (dale.alighting 36000) (record { of_trip = refl; at_boarding = refl; at_alighting = refl; in_order = lit< tt }) on)

-- a ride that arrives a second after its record's time
wrong_arrival : Passes feed times days (record first_ride { arrives = pos 1749025201 }) WrongArrival → ⊥
wrong_arrival on =
    let ride : Ride = record first_ride { arrives = pos 1749025201 } in
    let arrives = of_records feed ride (λ trip a b. Arrives times days ride (shift trip ride.start) a.timing b.timing) first_trip (row 1 0 28800) (row 2 1 30000) (record { of_trip = refl; at_boarding = refl; at_alighting = refl; in_order = lit< tt }) on in
    let scheduled = IsMoment_unique days (pos 20243) 30000 arrives.0 (pos 1749025200) arrives.1 (moment 30000) in
    let arrival : pos 1749025201 ≡ arrives.0 +ℤ pos 0 = arrives.2 in
    omega (arith, ints)

-- a permitted journey fails no test
no_flaw : (flaw : JourneyFlaw) → IsFirstJourneyFlaw feed times days (query 60) rides flaw → ⊥
no_flaw flaw h = journeys_flawed feed times days (query 60) rides flaw h journey

no_ride : IsFirstJourneyFlaw feed times days (query 60) [] journey_flaw.NoRide
no_ride = refl

too_many : IsFirstJourneyFlaw feed times days (record (query 60) { transfers = 0 }) rides journey_flaw.TooManyRides
too_many = lit< tt

-- a ride that leaves wrongly doesn't pass
late_fails : PassesAt feed times days (query 60) rides 0 late_ride → ⊥
late_fails p = departs_wrongly.fails (passes feed times days late_ride p.permitted WrongDeparture)

-- a first ride is tried as such
reached_first : (ride : Ride) → IsReached feed times days (query 60) (ride ∷ []) 0 ride
reached_first ride = record { is_ride = refl; before = record { few = lit≤ tt; each = λ j other lt e. absurd (omega arith) } }

-- the one ride leaves a second too late, and that is why it is no journey
wrong_ride : IsFirstJourneyFlaw feed times days (query 60) (late_ride ∷ []) (journey_flaw.Ride 1 WrongDeparture)
wrong_ride = (late_ride, reached_first late_ride, departs_wrongly)

not_its_trip : IsFirstJourneyFlaw feed times days (query 60) (late_ride ∷ []) (journey_flaw.Ride 1 NoTrip) → ⊥
not_its_trip f = f.2.fails (subst (λ ride. Passes feed times days ride NoTrip) (same_Some late_ride f.0 f.1.is_ride) (first_trip, refl, tt))

-- a second after its closing a ride can't be booked
abbrev late_query : Query
late_query = record dale.query { now = pos 1748970001 }

not_bookable : IsFirstJourneyFlaw (dale.feed 36000) (dale.times 600) dale.days late_query (dale.ride ∷ []) (journey_flaw.NotBookable 1)
not_bookable = (dale.ride, record { is_ride = refl; before = record { few = lit≤ tt; each = λ j other lt e. absurd (omega arith) } }, dale.permitted, dale.too_late)

just_bookable : IsFirstJourneyFlaw (dale.feed 36000) (dale.times 600) dale.days dale.query (dale.ride ∷ []) (journey_flaw.NotBookable 1) → ⊥
just_bookable f = journeys_flawed (dale.feed 36000) (dale.times 600) dale.days dale.query (dale.ride ∷ []) (journey_flaw.NotBookable 1) f dale.journey

-- there is no way from M to O
no_access : IsFirstJourneyFlaw feed times days (query 60) (second_ride ∷ []) journey_flaw.NoAccess
no_access = (second_ride, record { reached = reached_first second_ride; permitted = second_permitted; bookable = (second_usable 60).bookable }, no_way)
  where
    no_way : HasWay feed times (query 60) (second_ride ∷ []) 0 second_ride → ⊥
    no_way way = let e = only_access (place.Stop 2) way.0 way.1 in cc

first_passes : (others : List Ride) → PassesAt feed times days (query 60) (first_ride ∷ others) 0 first_ride
first_passes others = record { permitted = first_permitted; bookable = (first_usable 60).bookable; in_time = (0, from_origin, omega (arith, ints)) }

first_booked : IsBooked feed times days (query 60) (first_ride ∷ []) 0 first_ride
first_booked = record { reached = reached_first first_ride; permitted = first_permitted; bookable = (first_usable 60).bookable }

late_not_booked : IsBooked feed times days (query 60) (late_ride ∷ []) 0 late_ride → ⊥
late_not_booked b = departs_wrongly.fails (passes feed times days late_ride b.permitted WrongDeparture)

-- there is a way to the first ride
first_way : HasWay feed times (query 60) rides 0 first_ride
first_way = (0, from_origin)

-- a second ride is tried where the first one passes
reached_second : (second : Ride) → IsReached feed times days (query 60) (first_ride ∷ second ∷ []) 1 second
reached_second second = record { is_ride = refl; before = record { few = lit≤ tt; each = each } }
  where
    each : (j : ℕ) (ride : Ride) → j < 1 → slice_get (first_ride ∷ second ∷ []) j ≡ Some ride → PassesAt feed times days (query 60) (first_ride ∷ second ∷ []) j ride
    each zero ride lt e = subst (PassesAt feed times days (query 60) (first_ride ∷ second ∷ []) 0) (same_Some first_ride ride e) (first_passes (second ∷ []))
    each (suc j) ride lt e = absurd (omega arith)

-- after a first ride that passes it is the second that is amiss, and not the first
second_wrong : IsFirstJourneyFlaw feed times days (query 60) (first_ride ∷ late_ride ∷ []) (journey_flaw.Ride 2 WrongDeparture)
second_wrong = (late_ride, reached_second late_ride, departs_wrongly)

first_not_wrong : IsFirstJourneyFlaw feed times days (query 60) (first_ride ∷ late_ride ∷ []) (journey_flaw.Ride 1 WrongDeparture) → ⊥
first_not_wrong f = f.2.fails (subst (λ ride. Passes feed times days ride WrongDeparture) (same_Some first_ride f.0 f.1.is_ride) (timed_passes WrongDeparture))

-- two rides are too many without a transfer, whatever they are
none_before : PassesBefore feed times days (query 60) rides 0
none_before = record { few = lit≤ tt; each = λ j other lt e. absurd (omega arith) }

too_many_before : PassesBefore feed times days (record (query 60) { transfers = 0 }) rides 0 → ⊥
too_many_before p = let le = p.few in omega arith

-- after a ride that isn't permitted none is reached
not_reached : (second : Ride) → IsReached feed times days (query 60) (late_ride ∷ second ∷ []) 1 second → ⊥
not_reached second r =
    let first = r.before.each 0 late_ride (lit< tt) refl in
    departs_wrongly.fails (passes feed times days late_ride first.permitted WrongDeparture)

-- from N one doesn't get back to M
no_change : IsFirstJourneyFlaw feed times days (query 60) (first_ride ∷ first_ride ∷ []) (journey_flaw.NoChange 2)
no_change = (first_ride, record { reached = reached_second first_ride; permitted = first_permitted; bookable = (first_usable 60).bookable }, no_way)
  where
    no_way : HasWay feed times (query 60) (first_ride ∷ first_ride ∷ []) 1 first_ride → ⊥
    no_way way =
        let same = same_Some first_ride way.1.0 way.1.1 in
        elim (only_changes (place.Stop 0) way.0 (subst (λ (ride : Ride). HasChange feed ride.alight (place.Stop 0) way.0) (sym same) way.1.2)) [ inl e ↦ cc | inr e ↦ cc ]

-- where one departs a second later, the first ride is gone
abbrev later_query : Query
later_query = record (query 60) { depart = pos 1749024001 }

too_early : IsFirstJourneyFlaw feed times days later_query (first_ride ∷ []) (journey_flaw.TooEarly 1)
too_early = (
  first_ride,
  record {
    reached = record { is_ride = refl; before = record { few = lit≤ tt; each = λ j other lt e. absurd (omega arith) } };
    permitted = first_permitted;
    bookable = (first_usable 60).bookable;
  },
  (0, inl (refl, refl)),
  gone,
)
  where
    gone : IsInTime feed times later_query (first_ride ∷ []) 0 first_ride → ⊥
    gone starts = let le : (pos 1749024001 +ℤ pos starts.0) ≤ℤ pos 1749024000 = starts.2 in omega (arith, ints)

-- where 301 seconds are needed for the change, the second ride is gone
abbrev slow : Feed
slow = record feed { changes = (record change { kind = Least 301 }) ∷ [] }

second_in_time : IsInTime feed times (query 60) rides 1 second_ride
second_in_time = (first_ride, refl, (300, by_rule, omega (arith, ints)))

-- one changes from the first ride to the second in 300 seconds, and not in 301
changes_in_time : ChangesInTime feed first_ride second_ride
changes_in_time = (300, by_rule, omega (arith, ints))

change_too_slow : ChangesInTime slow first_ride second_ride → ⊥
change_too_slow changes =
    let seconds = slow_change changes.0 changes.1 in
    let le : (pos 1749025200 +ℤ pos changes.0) ≤ℤ pos 1749025500 = changes.2 in
    omega (arith, ints)
  where
    least : (kind : ChangeKind) (a b : ℕ) → kind ≡ Least a → kind ≡ Least b → a ≡ b
    least kind a b e f = let same : Least a ≡ Least b = sym e ∙ f in cc

    slow_change : (seconds : ℕ) → HasChange slow (place.Stop 1) (place.Stop 2) seconds → seconds ≡ 301
    slow_change seconds (inl h) = let e = only_contained (record change { kind = Least 301 }) (record { from = 1; to = 2; kind = Least seconds }) h in least (Least seconds) seconds 301 refl (ap (λ c. c.kind) e)
    slow_change seconds (inr h) = let e = h.0 in absurd (omega arith)

second_gone : IsInTime slow times (query 60) rides 1 second_ride → ⊥
second_gone way = change_too_slow (subst (λ (ride : Ride). ChangesInTime slow ride second_ride) (sym (same_Some first_ride way.0 way.1)) way.2)

-- the first ride alone ends at N, from where there is no way to the destination
no_egress : IsFirstJourneyFlaw feed times days (query 60) (first_ride ∷ []) journey_flaw.NoEgress
no_egress = (first_ride, record { is_last = refl; all = record { few = lit≤ tt; each = each } }, not_from_n)
  where
    each : (j : ℕ) (ride : Ride) → j < 1 → slice_get (first_ride ∷ []) j ≡ Some ride → PassesAt feed times days (query 60) (first_ride ∷ []) j ride
    each zero ride lt e = subst (PassesAt feed times days (query 60) (first_ride ∷ []) 0) (same_Some first_ride ride e) (first_passes [])
    each (suc j) ride lt e = absurd (omega arith)

-- of both rides the second is the last
not_through : IsThrough feed times days (query 60) rides first_ride → ⊥
not_through t = let e = ap (λ (ride : Ride). ride.trip) (same_Some second_ride first_ride t.is_last) in omega (arith, e)

-- to a first ride there may be no access, and to another one no change
to_first : no_way_to 1 ≡ journey_flaw.NoAccess
to_first = refl

to_second : no_way_to 2 ≡ journey_flaw.NoChange 2
to_second = refl

-- the way to the second ride counts from the arrival of the first
ready_for_second : IsReadyAt (query 60) rides 1 (pos 1749025200)
ready_for_second = (first_ride, refl, refl)

not_at_once : IsReadyAt (query 60) rides 1 (pos 1749024000) → ⊥
not_at_once r =
    let arrives : r.0.arrives ≡ pos 1749025200 = ap (λ (ride : Ride). ride.arrives) (sym (same_Some first_ride r.0 r.1)) in
    let is : pos 1749024000 ≡ r.0.arrives = r.2 in
    omega (arith, ints)
