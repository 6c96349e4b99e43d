-- Rides of the small demand-responsive feed at the edges of its windows and bookings, and answers that aren't exact.
use Rattle.std.proofs.Common.{◌≡◌, ◌∙◌, IsTrue, ◌*◌, ◌<◌, ◌≤◌, pos, ◌+ℤ◌, ◌*ℤ◌, [], ◌∷◌, Some, None, slice_get, refl, sym, ap, subst, inl, lit≤, lit<, arith}
use Rattle.std.specs.Prelude.{codes}
use Rattle.std.proofs.lemmas.Int.{ints}
use Rattle.flex_model.specs.declared.answer.Triple.{Triple}
use Rattle.flex_model.specs.declared.moment.Deadline.TheVariants.{Never}
use Rattle.flex_model.specs.declared.place.Place.TheVariants as place
use Rattle.flex_model.specs.declared.ride.Arrives.TheVariants.{After}
use Rattle.flex_model.specs.declared.ride.Ride.{Ride}
use Rattle.flex_model.specs.declared.times.Times.{Times}
use Rattle.flex_model.specs.declared.trip.Spot.TheVariants as spot
use Rattle.flex_model.specs.Answer.{IsExactAnswer, IsParetoBest}
use Rattle.flex_model.specs.Booking.{ClosesAt, HasBooking, HasClosing, IsBookable, IsDeadline}
use Rattle.flex_model.specs.Journey.{Attains, IsLeastDeadline}
use Rattle.flex_model.specs.Place.{Serves}
use Rattle.flex_model.specs.Ride.{IsPermittedRide, Leaves}
use Rattle.flex_model.specs.Run.{IsArrival, IsInRun, IsInRuns, IsRunOf}
use Rattle.flex_model.specs.Zone.{is_in_zone}
use Rattle.std.proofs.lemmas.Bool.{false≢true}
use Rattle.flex_model.proofs.Bookings.{ClosesAt_unique, pickup_booking}
use Rattle.flex_model.proofs.Examples.Dale.{alighting, answer, at, attained, begins_at, bookable, boarding, closes, days, deadline, exact, feed, is_booked, is_departure, leg, one_rule, permitted, query, ride, run, run_permitted, stop, times, travels, trip, weekdays, zone}
use Rattle.flex_model.proofs.Found.{index_of, only_contained, only_item}
use Rattle.std.proofs.lemmas.Option.{none-some, same_Some}

-- it can be booked at noon of the day before
at_noon : IsBookable (feed 36000) days ride (pos 1748952000)
at_noon = bookable (pos 1748952000) (omega (arith, ints))

-- it has a booking, which closes at 17:00 of the day before
has_booking : HasBooking (feed 36000) ride (Some 0)
has_booking = (trip 36000, boarding, refl, inl (refl, refl))

no_other_rule : HasBooking (feed 36000) ride None → ⊥
no_other_rule h = let e = one_rule None h in cc

has_closing : HasClosing (feed 36000) days ride (pos 1748970000)
has_closing = (Some 0, has_booking, closes)

no_sooner_closing : HasClosing (feed 36000) days ride (pos 1748969999) → ⊥
no_sooner_closing h = let le = deadline.1 (pos 1748969999) h in omega (arith, ints)

closes_no_later : ClosesAt (feed 36000) days (Some 0) (pos 20243) (pos 1749024000) (pos 1748970001) → ⊥
closes_no_later c = let e = ClosesAt_unique (feed 36000) days (Some 0) (pos 20243) (pos 1749024000) (pos 1748970001) (pos 1748970000) c closes in omega (arith, ints)

-- its deadline is no other
not_never : IsDeadline (feed 36000) days ride Never → ⊥
not_never h = h (Some 0) (pickup_booking (feed 36000) (times 600) days ride permitted (Some 0) refl)

-- nor is that of the ride alone
not_least : IsLeastDeadline (feed 36000) days (ride ∷ []) Never → ⊥
not_least d = not_never (subst (λ r. IsDeadline (feed 36000) days r Never) (only_contained ride d.ride d.among) d.reached)

-- where the second window ends at 08:10, as the ride does, it is permitted
just_within : IsPermittedRide (feed 29400) (times 600) days ride
just_within = record {
  trip = trip 29400;
  of_trip = refl;
  boarding = boarding;
  at_boarding = refl;
  alighting = alighting 29400;
  at_alighting = refl;
  in_order = lit< tt;
  on_travel_day = travels;
  runs = (weekdays [], refl, refl);
  starts = refl;
  boards = permitted.boards;
  picks_up = is_booked;
  alights = (zone, at 502 5000, refl, (stop (codes "M") (at 502 5000), refl, refl, refl), refl);
  drops_off = is_booked;
  leaves = (480, lit≤ tt, lit≤ tt, is_departure);
  arrives = (
    (600, (0, lit< tt, refl), refl),
    (pos 1749024000, pos 1749024600, is_departure, (pos 1748995200, (1520, refl, refl), refl), omega (arith, ints), omega (arith, ints)),
  );
}

-- a ride that leaves a minute after the first window's end
abbrev past_end : Ride
past_end = record ride { departs = pos 1749031260; arrives = pos 1749031860 }

not_past_end : IsPermittedRide (feed 36600) (times 600) days past_end → ⊥
not_past_end p =
    let of_trip = only_item (trip 36600) 0 p.trip p.of_trip in
    let at_boarding = subst (λ t. slice_get t.rows 0 ≡ Some p.boarding) of_trip p.at_boarding in
    let is_boarding : p.boarding ≡ boarding = same_Some p.boarding boarding (sym at_boarding) in
    let leaves = subst (λ r. Leaves days past_end (pos 0) r.timing) is_boarding p.leaves in
    let base : leaves.3.0 ≡ pos 86400 *ℤ pos 20243 = begins_at (pos 20243) leaves.3.0 leaves.3.1 in
    let departs : pos 1749031260 ≡ leaves.3.0 +ℤ pos (60 * leaves.0) = leaves.3.2 in
    let to : 60 * leaves.0 ≤ 36000 = leaves.2 in
    omega (arith, ints)

-- a zone doesn't serve a point that lies outside of it
abbrev far_away : Times
far_away = record (times 600) { points = (record { id = codes "P"; at = at 550 5050 }) ∷ [] }

serves_no_place_outside : Serves (feed 36000) far_away (spot.Zone 0) (place.Point 0) → ⊥
serves_no_place_outside s =
    let of_zone = same_Some s.0 zone (sym s.2) in
    let point = same_Some s.3.0 (record { id = codes "P"; at = at 550 5050 }) (sym s.3.1) in
    let position : s.1 ≡ at 550 5050 = s.3.2 ∙ ap (λ p. p.at) point in
    let inside = subst (λ z. IsTrue (is_in_zone z.polygons (at 550 5050))) of_zone (subst (λ p. IsTrue (is_in_zone s.0.polygons p)) position s.4) in
    false≢true inside

-- the run has the ride of each minute, and none in between
on_the_minute : IsInRun run (pos 1749024060) (pos 1749024660)
on_the_minute = (1, lit< tt, refl, refl)

half_past : IsInRun run (pos 1749024030) (pos 1749024630) → ⊥
half_past h = let departs : pos 1749024030 ≡ pos 1749024000 +ℤ pos (60 * h.0) = h.2 in omega (arith, ints)

in_some : IsInRuns (Some run) (pos 1749024060) (pos 1749024660)
in_some = on_the_minute

not_in_none : IsInRuns None (pos 1749024000) (pos 1749024600) → ⊥
not_in_none h = h

-- a ride of it arrives after ten minutes
after_ten : IsArrival (After 600) (pos 1749024000) (pos 1749024600)
after_ten = refl

not_after_nine : IsArrival (After 600) (pos 1749024000) (pos 1749024540) → ⊥
not_after_nine e = let f : pos 1749024540 ≡ pos 1749024000 +ℤ pos 600 = e in omega (arith, ints)

-- half of the departures aren't the run, nor is none
half_run : IsRunOf (feed 36600) (times 600) days leg (Some (record run { count = 60 })) → ⊥
half_run r =
    let last = (r.rides (pos 1749031200) (pos 1749031800)).1 (run_permitted (pos 1749031200) (pos 1749031800) (120, lit< tt, refl, refl)) in
    let few : last.0 < 60 = last.1 in
    let departs : pos 1749031200 ≡ pos 1749024000 +ℤ pos (60 * last.0) = last.2 in
    omega (arith, ints)

no_run : IsRunOf (feed 36600) (times 600) days leg None → ⊥
no_run r = (r.rides (pos 1749024000) (pos 1749024600)).1 (run_permitted (pos 1749024000) (pos 1749024600) (0, lit< tt, refl, refl))

-- the journey has its own triple, and not one with a transfer more
not_a_transfer_more : Attains (feed 36000) (times 600) days query (ride ∷ []) (record (answer.triple) { transfers = 1 }) → ⊥
not_a_transfer_more a = let count = a.transfers in omega arith

-- its triple is Pareto-best, and one that arrives a minute later isn't
best : IsParetoBest (feed 36000) (times 600) days query answer.triple
best = exact.best answer.triple (0, lit< tt, refl)

abbrev later : Triple
later = record (answer.triple) { arrival = pos 1749024660 }

not_best : IsParetoBest (feed 36000) (times 600) days query later → ⊥
not_best p =
    let same = p.best (ride ∷ []) answer.triple attained (record { deadline = omega (arith, ints); arrival = omega (arith, ints); transfers = lit≤ tt; walk = lit≤ tt }) in
    let arrival : pos 1749024600 ≡ pos 1749024660 = ap (λ t. t.arrival) same in
    omega (arith, ints)

-- no answer isn't exact where there is a journey
not_exact : IsExactAnswer (feed 36000) (times 600) days query [] → ⊥
not_exact e = let found = index_of [] answer.triple (e.complete answer.triple best) in none-some answer.triple found.1
