-- Journeys and labels of two trips with a change, what isn't one of them, and why.
use Rattle.std.proofs.Common.{◌≡◌, ◌∙◌, List, length, ◌*◌, None, codes, ℕ, zero, suc, ◌<◌, ◌≤◌, pos, ◌+ℤ◌, ◌≤ℤ◌, [], ◌∷◌, Some, Contains, slice_get, refl, sym, ap, subst, inl, inr, lit≤, lit<, arith}
use Rattle.std.proofs.lemmas.Int.{ints}
use Rattle.std.proofs.lemmas.List.Elements.{All-nil}
use Rattle.std.proofs.lemmas.Option.{none-some, same_Some}
use Rattle.std.specs.declared.cmp.Ordering.TheVariants.{Less, Greater}
use Rattle.flex_model.specs.declared.answer.Pair.{Pair}
use Rattle.flex_model.specs.declared.flaw.JourneyFlaw.TheVariants as journey_flaw
use Rattle.flex_model.specs.declared.flaw.RideFlaw.{RideFlaw}
use Rattle.flex_model.specs.declared.flaw.RideFlaw.TheVariants.{NoTrip, NoRow, NoDay, NotActive, Frequent, NotBoarded, NotAlighted, WrongDeparture, NoDirect, WrongArrival}
use Rattle.flex_model.specs.declared.moment.Deadline.{Deadline}
use Rattle.flex_model.specs.declared.moment.Deadline.TheVariants.{At, Never}
use Rattle.flex_model.specs.declared.place.Place.TheVariants as place
use Rattle.flex_model.specs.declared.ride.Ride.{Ride}
use Rattle.flex_model.specs.Booking.{HasBooking, IsDeadline}
use Rattle.flex_model.specs.Deadline.{IsNoLater}
use Rattle.flex_model.specs.Flaw.{IsBetween, IsFirstFlaw, IsFirstJourneyFlaw, IsThrough, Passes, PassesAt, test_number}
use Rattle.flex_model.specs.Journey.{EndsInTime, IsItinerary, IsLabelPlace, IsLast, IsPartialJourney, StartsInTime, IsUsable, Reaches, limit}
use Rattle.flex_model.specs.LabelTable.{AreApart, AreFound, IsAttained, IsHeld, IsHeldByLabel, IsHeldByTriple, IsInRound, IsLabelBefore, IsOnTheWay, Label, LeadsTo, next_pair, pair_of, triple_of}
use Rattle.flex_model.specs.Place.{IsPlaceBefore, IsStop, place_cmp}
use Rattle.flex_model.specs.Triple.{CoversPair}
use Rattle.flex_model.specs.Ride.{Leaves, shift}
use Rattle.flex_model.specs.ServiceDay.{IsBack}
use Rattle.flex_model.proofs.DayLaws.{IsMoment_unique}
use Rattle.flex_model.proofs.Examples.Changes.{by_rule, days, feed, first_free, first_ride, first_trip, first_usable, from_origin, in_rounds, is_free, journey, label, last_label, moment, on_foot, on_foot_only, only_access, only_changes, query, rides, rounds, row, second_free, second_ride, second_usable, stop, times, travels, triple, weekdays}
use Rattle.flex_model.proofs.Flaws.{journeys_flawed, of_records}
use Rattle.flex_model.proofs.Found.{All-at, All-one, AllPairs-cons, AllPairs-nil, only_contained, only_index, only_item}

-- stops come before points
stop_first : IsPlaceBefore (place.Stop 9) (place.Point 0)
stop_first = tt

compares_less : place_cmp (place.Stop 9) (place.Point 0) ≡ Less
compares_less = refl

compares_greater : place_cmp (place.Point 1) (place.Point 0) ≡ Greater
compares_greater = refl

not_itself : IsPlaceBefore (place.Stop 1) (place.Stop 1) → ⊥
not_itself lt = omega arith

-- a point is no stop
is_stop : IsStop (place.Stop 1)
is_stop = tt

is_no_stop : IsStop (place.Point 1) → ⊥
is_no_stop h = h

-- days of the calendar
three_days : IsBack feed None (pos 20243) 3 (pos 20240)
three_days = refl

not_four_days : IsBack feed None (pos 20243) 3 (pos 20239) → ⊥
not_four_days e = let f : pos 20239 +ℤ pos 3 ≡ pos 20243 = e in omega (arith, ints)

-- the second ride is the last, and the first isn't
second_is_last : IsLast rides second_ride
second_is_last = refl

first_is_not : IsLast rides first_ride → ⊥
first_is_not is = let e = ap (λ (ride : Ride). ride.trip) (same_Some second_ride first_ride is) in omega (arith, e)

-- the first ride can be reached from the origin, and the second can't
first_reached : StartsInTime times (query 60) first_ride
first_reached = (0, from_origin, omega (arith, ints))

second_unreached : StartsInTime times (query 60) second_ride → ⊥
second_unreached starts = let e = only_access (place.Stop 2) starts.0 starts.1 in cc

-- both rides are an itinerary, and the second alone isn't, as there is no way to it
both_rides : IsItinerary feed times days (query 60) rides
both_rides = journey.itinerary

second_alone : IsItinerary feed times days (query 60) (second_ride ∷ []) → ⊥
second_alone i = second_unreached (subst (StartsInTime times (query 60)) (sym (same_Some second_ride i.first i.is_first)) i.starts)

-- the first ride alone gets to N
first_part : (horizon : ℕ) → 20 ≤ horizon → IsPartialJourney feed times days (query horizon) (first_ride ∷ [])
first_part horizon late = record {
  itinerary = record {
    few = lit≤ tt;
    usable = All-one (IsUsable feed times days (query horizon)) first_ride (first_usable horizon);
    first = first_ride;
    is_first = refl;
    starts = (0, from_origin, omega (arith, ints));
    changes = λ k d lt. absurd (omega arith);
  };
  last = first_ride;
  is_last = refl;
  place = inl (stop (codes "N"), refl, refl);
  arrives = omega (arith, ints);
}

-- within 19 minutes it doesn't
too_short : IsPartialJourney feed times days (query 19) (first_ride ∷ []) → ⊥
too_short p =
    let last : p.last ≡ first_ride = same_Some p.last first_ride (sym p.is_last) in
    let arrives : p.last.arrives ≡ pos 1749025200 = ap (λ r. r.arrives) last in
    let by : p.last.arrives ≤ℤ (pos 1749024000 +ℤ pos (60 * 19)) = p.arrives in
    omega (arith, ints)

-- at 08:20, without a booking or a walk
reaches : Reaches feed times days (query 60) (first_ride ∷ []) (place.Stop 1) (record { deadline = Never; arrival = pos 1749025200; walk = 0 })
unfolding first_part
reaches = record {
  journey = first_part 60 (lit≤ tt);
  at_place = refl;
  booked = record { ride = first_ride; among = (0, lit< tt, refl); reached = first_free; least = least };
  arrives = refl;
  walks = (first_ride, refl, (0, from_origin, omega (arith, ints), refl));
}
  where
    least : (other : Ride) (its : Deadline) → Contains (first_ride ∷ []) other → IsDeadline feed days other its → IsNoLater Never its
    least other Never c d = tt
    least other (At m) c d = absurd (first_free d.0.0 (subst (λ r. HasBooking feed r d.0.0) (only_contained first_ride other c) d.0.1))

-- it gets neither to O, nor to N a second earlier
not_elsewhere : Reaches feed times days (query 60) (first_ride ∷ []) (place.Stop 2) (record { deadline = Never; arrival = pos 1749025200; walk = 0 }) → ⊥
not_elsewhere r =
    let last : r.journey.last ≡ first_ride = same_Some r.journey.last first_ride (sym r.journey.is_last) in
    let at : place.Stop 1 ≡ place.Stop 2 = sym (ap (λ ride. ride.alight) last) ∙ r.at_place in
    cc

not_sooner : Reaches feed times days (query 60) (first_ride ∷ []) (place.Stop 1) (record { deadline = Never; arrival = pos 1749025199; walk = 0 }) → ⊥
not_sooner r =
    let last : r.journey.last ≡ first_ride = same_Some r.journey.last first_ride (sym r.journey.is_last) in
    let arrives : r.journey.last.arrives ≡ pos 1749025200 = ap (λ ride. ride.arrives) last in
    let arrival = r.arrives in
    omega (arith, ints)

-- the second ride arrives 40 minutes after the query's departure
on_the_way : IsOnTheWay feed times days (query 40) second_ride Never
on_the_way = record { usable = second_usable 40; booked = second_free; alights = inl tt; arrives = omega (arith, ints) }

past_limit : IsOnTheWay feed times days (query 39) second_ride Never → ⊥
past_limit way = let le : pos 1749026400 ≤ℤ (pos 1749024000 +ℤ pos (60 * 39)) = way.arrives in omega (arith, ints)

is_limit : limit (query 60) ≡ pos 1749027600
is_limit = refl

-- the label is attained by one ride, and no label without a ride
is_attained : IsAttained feed times days (query 60) 1 label
is_attained = (first_ride ∷ [], refl, reaches)

not_attained : (other : Label) → IsAttained feed times days (query 60) 0 other → ⊥
not_attained other a = no_last a.0 a.1 a.2.journey.last a.2.journey.is_last
  where
    no_last : (rs : List Ride) → length rs ≡ 0 → (last : Ride) → IsLast rs last → ⊥
    no_last [] e last is = none-some last is
    no_last (r ∷ rs) e last is = omega arith

-- it is what a search finds in the first round
found : AreFound feed times days (query 60) 1 (label ∷ [])
found = record {
  attained = All-one (IsAttained feed times days (query 60) 1) label is_attained;
  apart = record { apart = λ i j a b e f same covers. let first = only_index label i a e in let second = only_index label j b f in omega arith };
  rising = AllPairs-cons IsLabelBefore label [] (All-nil (IsLabelBefore label)) (AllPairs-nil IsLabelBefore);
}

-- in a round before that a search doesn't find it
not_found : AreFound feed times days (query 60) 0 (label ∷ []) → ⊥
not_found f = not_attained label (All-at (IsAttained feed times days (query 60) 0) (label ∷ []) 0 label f.attained refl)

-- a label that arrives sooner and has to be booked is apart from one that needn't be
abbrev sooner : Label
sooner = record label { deadline = At (pos 1748970000); arrival = pos 1749024900 }

are_apart : AreApart (sooner ∷ label ∷ [])
are_apart = record { apart = apart }
  where
    sooner_only : (x : Label) (k : ℕ) → slice_get (label ∷ []) k ≡ Some x → CoversPair (pair_of sooner) (pair_of x) → ⊥
    sooner_only x k e c = let covers = subst (λ l. CoversPair (pair_of sooner) (pair_of l)) (only_item label k x e) c in covers.deadline

    later_only : (x : Label) (k : ℕ) → slice_get (label ∷ []) k ≡ Some x → CoversPair (pair_of x) (pair_of sooner) → ⊥
    later_only x k e c = let covers = subst (λ l. CoversPair (pair_of l) (pair_of sooner)) (only_item label k x e) c in let le = covers.arrival in omega (arith, ints)

    apart : (i j : ℕ) (a b : Label) → slice_get (sooner ∷ label ∷ []) i ≡ Some a → slice_get (sooner ∷ label ∷ []) j ≡ Some b → a.place ≡ b.place → CoversPair (pair_of a) (pair_of b) → i ≡ j
    apart zero zero a b e f same covers = refl
    apart zero (suc j) a b e f same covers = absurd (sooner_only b j f (subst (λ l. CoversPair (pair_of l) (pair_of b)) (same_Some a sooner (sym e)) covers))
    apart (suc i) zero a b e f same covers = absurd (later_only a i e (subst (λ l. CoversPair (pair_of a) (pair_of l)) (same_Some b sooner (sym f)) covers))
    apart (suc i) (suc j) a b e f same covers = let first = only_index label i a e in let second = only_index label j b f in omega arith

-- a label and one of its place that arrives later with the same deadline aren't apart
not_apart : AreApart (label ∷ (record label { arrival = pos 1749025260 }) ∷ []) → ⊥
not_apart a = let same = a.apart 0 1 label (record label { arrival = pos 1749025260 }) refl refl refl (record { deadline = tt; arrival = omega (arith, ints); walk = lit≤ tt }) in omega (arith, same)

-- nor are they what a search finds
not_found_together : AreFound feed times days (query 60) 1 (label ∷ (record label { arrival = pos 1749025260 }) ∷ []) → ⊥
not_found_together f = not_apart f.apart

-- the label is in the first round, and not in the second
in_first : IsInRound rounds 1 label
in_first = (label ∷ [], refl, (0, lit< tt, refl))

not_in_second : IsInRound rounds 2 label → ⊥
not_in_second h = elim (in_rounds 2 label h) [
  | inl is ↦ (let e = is.0 in omega arith)
  | inr is ↦ (let e : place.Stop 1 ≡ place.Stop 3 = ap (λ l. l.place) is.1 in cc)
]

-- from it one changes to the second ride, and not to the first
leads_to_second : LeadsTo feed (query 60) label second_ride 0
leads_to_second = (300, by_rule, omega (arith, ints), refl)

not_to_first : (walk : ℕ) → LeadsTo feed (query 60) label first_ride walk → ⊥
not_to_first walk leads = elim (only_changes (place.Stop 0) leads.0 leads.1) [ inl e ↦ cc | inr e ↦ cc ]

-- what it leads to has the lesser deadline and both walks
leads_on : next_pair (record label { deadline = At (pos 500); walk = 60 }) second_ride Never 300 ≡ record { deadline = At (pos 500); arrival = pos 1749026400; walk = 360 }
leads_on = refl

-- and its triple has the seconds to the destination, and a transfer fewer than rides
ends_as : triple_of (query 60) last_label 1200 2 ≡ triple
ends_as = refl

-- what the second ride leads to is held in round 2, and not in round 1
abbrev by_second : Pair
by_second = record { deadline = Never; arrival = pos 1749026400; walk = 0 }

by_last : IsHeldByLabel rounds (place.Stop 3) by_second 2
by_last = record { round = 2; label = last_label; in_round = (last_label ∷ [], refl, (0, lit< tt, refl)); early = lit≤ tt; at_place = refl; covers = record { deadline = tt; arrival = omega (arith, ints); walk = lit≤ tt } }

by_no_label : IsHeldByLabel rounds (place.Stop 3) by_second 1 → ⊥
by_no_label h =
    let early = h.early in
    elim (in_rounds h.round h.label h.in_round) [
      | inl is ↦ (let at : place.Stop 1 ≡ place.Stop 3 = sym (ap (λ l. l.place) is.1) ∙ h.at_place in absurd cc)
      | inr is ↦ (let second = is.0 in absurd (omega arith))
    ]

-- the printed triple has one transfer and arrives 20 minutes later, so it holds what arrives no sooner, from round 2 on
by_triple : IsHeldByTriple (triple ∷ []) (record by_second { arrival = pos 1749027600 }) 2
by_triple = record { triple = triple; is_printed = (0, lit< tt, refl); few = lit< tt; covers = record { deadline = tt; arrival = omega (arith, ints); walk = lit≤ tt } }

by_no_triple : (pair : Pair) → IsHeldByTriple (triple ∷ []) pair 1 → ⊥
by_no_triple pair h =
    let transfers : h.triple.transfers ≡ 1 = ap (λ t. t.transfers) (only_contained triple h.triple h.is_printed) in
    let few = h.few in
    omega arith

held : IsHeld (triple ∷ []) rounds (place.Stop 3) by_second 2
held = inl by_last

not_held : IsHeld (triple ∷ []) rounds (place.Stop 3) by_second 1 → ⊥
not_held (inl h) = by_no_label h
not_held (inr h) = by_no_triple by_second h

-- a label may stand at the destination, and at no other point
at_destination : IsLabelPlace feed (query 60) (place.Point 0)
at_destination = refl

at_no_other_point : IsLabelPlace feed (query 60) (place.Point 1) → ⊥
at_no_other_point e = cc

-- a second too late for its record's time, the first ride has a wrong departure, and no flaw before it
abbrev pub late_ride : Ride
late_ride = record first_ride { departs = pos 1749024001 }

here : IsBetween feed late_ride first_trip (row 1 0 28800) (row 2 1 30000)
here = record { of_trip = refl; at_boarding = refl; at_alighting = refl; in_order = lit< tt }

pub departs_wrongly : IsFirstFlaw feed times days late_ride WrongDeparture
departs_wrongly = record { fails = fails; first = earlier }
  where
    fails : Passes feed times days late_ride WrongDeparture → ⊥
    fails p =
        let leaves = of_records feed late_ride (λ trip boarding alighting. Leaves days late_ride (shift trip late_ride.start) boarding.timing) first_trip (row 1 0 28800) (row 2 1 30000) here p in
        let scheduled = IsMoment_unique days (pos 20243) 28800 leaves.0 (pos 1749024000) leaves.1 (moment 28800) in
        let departs : pos 1749024001 ≡ leaves.0 +ℤ pos 0 = leaves.2 in
        omega (arith, ints)

    earlier : (flaw : RideFlaw) → test_number flaw < 7 → Passes feed times days late_ride flaw
    earlier NoTrip lt = (first_trip, refl, tt)
    earlier NoRow lt = (first_trip, row 1 0 28800, row 2 1 30000, here, tt)
    earlier NoDay lt = travels
    earlier NotActive lt = (first_trip, refl, (weekdays, refl, refl))
    earlier Frequent lt = (first_trip, refl, refl)
    earlier NotBoarded lt = (first_trip, row 1 0 28800, row 2 1 30000, here, (refl, is_free))
    earlier NotAlighted lt = (first_trip, row 1 0 28800, row 2 1 30000, here, (refl, is_free))
    earlier WrongDeparture lt = absurd (omega arith)
    earlier NoDirect lt = absurd (omega arith)
    earlier WrongArrival lt = absurd (omega arith)

-- but it is not the trip that is amiss
not_its_trip : IsFirstFlaw feed times days late_ride NoTrip → ⊥
not_its_trip f = f.fails (first_trip, refl, tt)

-- within an hour the second ride ends in time, and within 59 minutes it doesn't
just_ends : EndsInTime times (query 60) second_ride
just_ends = (1200, on_foot, omega (arith, ints))

does_not_end : EndsInTime times (query 59) second_ride → ⊥
does_not_end ends =
    let seconds = on_foot_only ends.0 ends.1 in
    let by : (pos 1749026400 +ℤ pos ends.0) ≤ℤ limit (query 59) = ends.2 in
    omega (arith, ints, seconds)

-- within 59 minutes both rides together are too late
through : (horizon : ℕ) → IsThrough feed times days (query horizon) rides second_ride
through horizon = record { is_last = refl; all = record { few = lit≤ tt; each = each } }
  where
    each : (j : ℕ) (ride : Ride) → j < 2 → slice_get rides j ≡ Some ride → PassesAt feed times days (query horizon) rides j ride
    each zero ride lt e =
        subst (PassesAt feed times days (query horizon) rides 0) (same_Some first_ride ride e)
        (record { permitted = (first_usable horizon).permitted; bookable = (first_usable horizon).bookable; in_time = (0, from_origin, omega (arith, ints)) })
    each (suc zero) ride lt e =
        subst (PassesAt feed times days (query horizon) rides 1) (same_Some second_ride ride e)
        (record { permitted = (second_usable horizon).permitted; bookable = (second_usable horizon).bookable; in_time = (first_ride, refl, (300, by_rule, omega (arith, ints))) })
    each (suc (suc j)) ride lt e = absurd (omega arith)

ends_late : IsFirstJourneyFlaw feed times days (query 59) rides journey_flaw.TooLate
ends_late = (second_ride, 1200, through 59, on_foot, does_not_end)

-- within an hour they aren't
ends_in_time : IsFirstJourneyFlaw feed times days (query 60) rides journey_flaw.TooLate → ⊥
ends_in_time f = journeys_flawed feed times days (query 60) rides journey_flaw.TooLate f journey
