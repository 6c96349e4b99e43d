-- Values that are not sound, each by one condition.
use Rattle.std.proofs.Common.{◌≡◌, map, ap, IsTrue, Bool, Some, true, false, ◌<◌, subst, ◌^◌, ◌*◌, inl, inr, ◌+◌, ◌≤◌, pos, negsuc, ◌+ℤ◌, [], ◌∷◌, None, refl, sym, lit≤, lit<, arith}
use Rattle.std.specs.Prelude.{codes}
use Rattle.std.specs.List.{range_with_len}
use Rattle.std.proofs.lemmas.Bool.{false≢true}
use Rattle.std.proofs.lemmas.Int.{ints}
use Rattle.std.proofs.lemmas.List.Elements.{All-cons, All-nil}
use Rattle.std.proofs.lemmas.Option.{none-some, same_Some}
use Rattle.std.specs.declared.cmp.Ordering.TheVariants.{Equal, Less}
use Rattle.flex_model.specs.declared.booking.Notice.TheVariants.{Ahead, Days}
use Rattle.flex_model.specs.declared.booking.SameDay.TheVariants.{Always, Greatest, Start}
use Rattle.flex_model.specs.declared.change.ChangeKind.TheVariants.{Least, Forbidden}
use Rattle.flex_model.specs.declared.feed.Feed.{Feed}
use Rattle.flex_model.specs.declared.place.Place.TheVariants as place
use Rattle.flex_model.specs.declared.place.Position.{Position}
use Rattle.flex_model.specs.declared.trip.Spot.TheVariants as spot
use Rattle.flex_model.specs.declared.trip.Timing.TheVariants.{Times, Window}
use Rattle.flex_model.specs.declared.trip.Way.TheVariants.{Book}
use Rattle.flex_model.specs.SoundFeed.{AreRising, DoesNotFall, IsChangeBefore, IsNamed, IsSoundChange, IsSoundFeed, IsSoundGroup, IsSoundKind, IsSoundNotice, IsSoundPolygon, IsSoundPrior, IsSoundRepeat, IsSoundRow, IsSoundSameDay, IsSoundSpot, IsTimeOfDay, IsSoundTrip, IsSoundTiming, IsSoundWay, IsSoundZone, IsStopInZone}
use Rattle.flex_model.specs.SoundTimes.{AreIds, AreSoundSpans, AreSoundTimes, IsInRange, IsOnGlobe}
use Rattle.flex_model.specs.SoundQuery.{IsDayTableOf, IsQueryMoment, IsQueryPlace, IsSoundDayTable, IsSoundQuery}
use Rattle.flex_model.specs.Times.{AreRisingTimes, HasSeconds, IsSpanBefore, span_cmp}
use Rattle.flex_model.specs.Zone.{is_in_zone}
use Rattle.flex_model.proofs.Examples.Dale as dale
use Rattle.flex_model.proofs.Found.{All-at, All-one, AllPairs-at, AllPairs-cons, AllPairs-nil, only_contained}

-- 180 degrees east are on the globe, and a little more aren't
easternmost : IsOnGlobe (record { lon = pos (180 * 10 ^ 15); lat = pos 0 })
easternmost = record { lon = lit≤ tt; lat = lit≤ tt }

too_far_east : IsOnGlobe (record { lon = pos (180 * 10 ^ 15 + 1); lat = pos 0 }) → ⊥
too_far_east g = let h = g.lon in omega arith

too_far_south : IsOnGlobe (record { lon = pos 0; lat = negsuc (90 * 10 ^ 15) }) → ⊥
too_far_south g = let h = g.lat in omega arith

-- a polygon has a ring
no_ring : IsSoundPolygon (record { rings = [] }) → ⊥
no_ring p = p.exterior refl

-- a zone that leaves out a stop that lies in it
left_out : IsSoundZone (dale.feed 36000) (record dale.zone { stops = 0 ∷ [] }) → ⊥
left_out z = let e = only_contained 0 1 ((z.stops 1).1 (dale.stop (codes "N") (dale.at 503 5000), refl, refl, refl)) in omega (arith, e)

-- a stop outside of the zone, and a station in it
abbrev one_stop : Position → Bool → Feed
one_stop at boards = record (dale.feed 36000) { stops = (record { id = codes "M"; at = at; boards = boards }) ∷ [] }

in_zone : IsStopInZone (one_stop (dale.at 502 5000) true) dale.zone 0
in_zone = (record { id = codes "M"; at = dale.at 502 5000; boards = true }, refl, refl, refl)

outside_zone : IsStopInZone (one_stop (dale.at 550 5050) true) dale.zone 0 → ⊥
outside_zone s =
    let same = same_Some s.0 (record { id = codes "M"; at = dale.at 550 5050; boards = true }) (sym s.1) in
    false≢true (subst (λ stop. IsTrue (is_in_zone dale.zone.polygons stop.at)) same s.3)

station_in_zone : IsStopInZone (one_stop (dale.at 502 5000) false) dale.zone 0 → ⊥
station_in_zone s =
    let same = same_Some s.0 (record { id = codes "M"; at = dale.at 502 5000; boards = false }) (sym s.1) in
    false≢true (subst (λ stop. IsTrue stop.boards) same s.2)

-- members of a group are stops of the feed, and rise
both_stops : IsSoundGroup (dale.feed 36000) (record { id = codes "G"; members = 0 ∷ 1 ∷ [] })
both_stops = record {
  in_range = All-cons (λ s. s < 2) 0 (1 ∷ []) (lit< tt) (All-one (λ s. s < 2) 1 (lit< tt));
  rising = AllPairs-cons (λ a b. a < b) 0 (1 ∷ []) (All-one (λ b. 0 < b) 1 (lit< tt)) (AllPairs-cons (λ a b. a < b) 1 [] (All-nil (λ b. 1 < b)) (AllPairs-nil (λ a b. a < b)));
}

no_such_member : IsSoundGroup (dale.feed 36000) (record { id = codes "G"; members = 2 ∷ [] }) → ⊥
no_such_member g = let lt = All-at (λ s. s < 2) (2 ∷ []) 0 2 g.in_range refl in omega arith

member_again : IsSoundGroup (dale.feed 36000) (record { id = codes "G"; members = 1 ∷ 1 ∷ [] }) → ⊥
member_again g = let lt = AllPairs-at (λ a b. a < b) (1 ∷ 1 ∷ []) 0 1 1 1 g.rising (lit< tt) refl refl in omega arith

-- a booked end names the feed's one rule, or none
known_rule : IsSoundWay (dale.feed 36000) (Book (Some 0))
known_rule = lit< tt

no_rule : IsSoundWay (dale.feed 36000) (Book None)
no_rule = tt

no_such_rule : IsSoundWay (dale.feed 36000) (Book (Some 1)) → ⊥
no_such_rule h = omega arith

-- a time is under 168 hours
latest : IsTimeOfDay 604799
latest = lit< tt

a_week : IsTimeOfDay 604800 → ⊥
a_week lt = omega arith

-- numbers rise strictly
rise : AreRising (3 ∷ 5 ∷ [])
rise = AllPairs-cons (λ a b. a < b) 3 (5 ∷ []) (All-one (λ b. 3 < b) 5 (lit< tt)) (AllPairs-cons (λ a b. a < b) 5 [] (All-nil (λ b. 5 < b)) (AllPairs-nil (λ a b. a < b)))

stand_still : AreRising (3 ∷ 3 ∷ []) → ⊥
stand_still r = let lt = AllPairs-at (λ a b. a < b) (3 ∷ 3 ∷ []) 0 1 3 3 r (lit< tt) refl refl in omega arith

-- a window may be of one moment
moment_window : IsSoundTiming (spot.Zone 0) (Window 28800 28800)
moment_window = (lit≤ tt, lit< tt)

ends_first : IsSoundTiming (spot.Zone 0) (Window 28801 28800) → ⊥
ends_first t = let h = t.0 in omega arith

-- times under 168 hours
last_time : IsSoundTiming (spot.Stop 0) (Times 604799 604799)
last_time = ((0, refl), lit≤ tt, lit< tt)

too_late : IsSoundTiming (spot.Stop 0) (Times 604799 604800) → ⊥
too_late t = let h = t.2 in omega arith

leaves_first : IsSoundTiming (spot.Stop 0) (Times 28801 28800) → ⊥
leaves_first t = let h = t.1 in omega arith

-- a record with times names a stop
times_in_zone : IsSoundTiming (spot.Zone 0) (Times 28800 28800) → ⊥
times_in_zone t = let e = t.0.1 in cc

-- times may stand still along a trip, and don't fall
stands_still : DoesNotFall (Times 28800 28860) (Times 28860 28860)
stands_still = lit≤ tt

falls : DoesNotFall (Times 28800 28860) (Times 28859 28860) → ⊥
falls h = omega arith

-- a record whose window ends first, or that is booked under a rule that isn't there
row_ends_first : IsSoundRow (dale.feed 36000) (record dale.boarding { timing = Window 28801 28800 }) → ⊥
row_ends_first r = ends_first r.timing

row_of_no_rule : IsSoundRow (dale.feed 36000) (record dale.boarding { pickup = Book (Some 1) }) → ⊥
row_of_no_rule r = no_such_rule r.pickup

-- the feed has one zone
no_such_zone : IsSoundSpot (dale.feed 36000) (spot.Zone 1) → ⊥
no_such_zone h = omega arith

its_zone : IsSoundSpot (dale.feed 36000) (spot.Zone 0)
its_zone = lit< tt

its_stop : IsSoundSpot (dale.feed 36000) (spot.Stop 1)
its_stop = (dale.stop (codes "N") (dale.at 503 5000), refl, refl)

no_such_stop : IsSoundSpot (dale.feed 36000) (spot.Stop 2) → ⊥
no_such_stop h = none-some h.0 h.1

longest_prior : IsSoundPrior (record { days = 1000; time = 604799 })
longest_prior = record { days = lit≤ tt; time = lit< tt }

too_long_prior : IsSoundPrior (record { days = 1001; time = 604799 }) → ⊥
too_long_prior p = let le = p.days in omega arith

start_day : IsSoundSameDay (Start (record { days = 1000; time = 604799 }))
start_day = longest_prior

start_too_early : IsSoundSameDay (Start (record { days = 1001; time = 604799 })) → ⊥
start_too_early p = too_long_prior p

longest_notice : IsSoundNotice (dale.feed 36000) (Ahead 1000000 (Greatest 1000000))
longest_notice = (lit≤ tt, lit≤ tt)

too_long_notice : IsSoundNotice (dale.feed 36000) (Ahead 1000001 Always) → ⊥
too_long_notice h = let le = h.0 in omega arith

too_many_days : IsSoundNotice (dale.feed 36000) (Days (record { days = 1001; time = 0 }) None None) → ⊥
too_many_days h = let le = h.0.days in omega arith

-- a repeat has a start before its end
one_start : IsSoundRepeat (record { first = 28800; end = 28801; headway = 86400 })
one_start = record { in_order = lit< tt; end = lit< tt; some_headway = lit< tt; headway = lit≤ tt }

no_start : IsSoundRepeat (record { first = 28800; end = 28800; headway = 600 }) → ⊥
no_start r = let lt = r.in_order in omega arith

no_headway : IsSoundRepeat (record { first = 28800; end = 30000; headway = 0 }) → ⊥
no_headway r = let lt = r.some_headway in omega arith

-- a trip that frequencies.txt names has a repeat
unrepeated : IsSoundTrip (dale.feed 36000) (record (dale.trip 36000) { frequent = true }) → ⊥
unrepeated t = false≢true (sym (t.frequent.1 refl))

slowest : IsSoundKind (Least 86400)
slowest = lit≤ tt

too_slow : IsSoundKind (Least 86401) → ⊥
too_slow h = omega arith

-- a change is between stops that can be boarded
between_stops : IsSoundChange (dale.feed 36000) (record { from = 0; to = 1; kind = Least 86400 })
between_stops = record { from = (dale.stop (codes "M") (dale.at 502 5000), refl, refl); to = its_stop; kind = slowest }

to_nowhere : IsSoundChange (dale.feed 36000) (record { from = 0; to = 2; kind = Forbidden }) → ⊥
to_nowhere c = no_such_stop c.to

-- changes rise by where they begin, and then by where they end
from_first : IsChangeBefore (record { from = 0; to = 9; kind = Forbidden }) (record { from = 1; to = 0; kind = Least 60 })
from_first = inl (lit< tt)

same_pair : IsChangeBefore (record { from = 1; to = 2; kind = Forbidden }) (record { from = 1; to = 2; kind = Least 60 }) → ⊥
same_pair (inl lt) = omega arith
same_pair (inr both) = let lt = both.1 in omega arith

-- an id stands once, and isn't empty
two_ids : AreIds (codes "M" ∷ codes "N" ∷ [])
two_ids = dale.two_stops.ids

twice : AreIds (codes "M" ∷ codes "M" ∷ []) → ⊥
twice ids = ids.distinct 0 1 [] (lit< tt) (lit< tt) refl

empty_id : AreIds ([] ∷ []) → ⊥
empty_id ids = All-at (λ id. id ≡ [] → ⊥) ([] ∷ []) 0 [] ids.given refl refl

-- items have ids, each its own
unnamed_stop : IsNamed (λ stop. stop.id) (dale.stop [] (dale.at 502 5000) ∷ []) → ⊥
unnamed_stop n = empty_id n.ids

same_name : IsNamed (λ stop. stop.id) (dale.stop (codes "M") (dale.at 502 5000) ∷ dale.stop (codes "M") (dale.at 503 5000) ∷ []) → ⊥
same_name n = twice n.ids

-- a feed whose stop has no id
unnamed : IsSoundFeed (record (dale.feed 36000) { stops = dale.stop [] (dale.at 502 5000) ∷ [] }) → ⊥
unnamed f = empty_id f.stops.ids

-- a direct time of more than a week
too_far : AreSoundTimes (dale.feed 36000) (dale.times 604801) → ⊥
too_far t = let le = All-at (λ s. s.seconds ≤ 604800) (dale.times 604801).direct 0 _ t.direct.seconds refl in omega arith

-- places of the feed and the times
its_point : IsInRange (dale.feed 36000) (dale.times 600) (place.Point 0)
its_point = lit< tt

no_point : IsInRange (dale.feed 36000) (dale.times 600) (place.Point 1) → ⊥
no_point h = omega arith

-- seconds up to a bound
too_long : AreSoundSpans (dale.feed 36000) (dale.times 600) (dale.span ∷ []) 599 → ⊥
too_long s = let le = All-at (λ span. span.seconds ≤ 599) (dale.span ∷ []) 0 dale.span s.seconds refl in omega arith

not_before_itself : IsSpanBefore dale.span dale.span → ⊥
not_before_itself (inl lt) = omega arith
not_before_itself (inr both) = let lt = both.1 in omega arith

span_twice : AreSoundSpans (dale.feed 36000) (dale.times 600) (dale.span ∷ dale.span ∷ []) 600 → ⊥
span_twice s = not_before_itself (AllPairs-at IsSpanBefore (dale.span ∷ dale.span ∷ []) 0 1 dale.span dale.span s.rising (lit< tt) refl refl)

-- the list has these seconds between these places, and no others
has_seconds : HasSeconds (dale.span ∷ []) (place.Point 0) (place.Stop 0) 600
has_seconds = (0, lit< tt, refl)

no_other_seconds : HasSeconds (dale.span ∷ []) (place.Point 0) (place.Stop 0) 601 → ⊥
no_other_seconds h = let e = ap (λ s. s.seconds) (only_contained dale.span (record { from = place.Point 0; to = place.Stop 0; seconds = 601 }) h) in omega (arith, e)

not_backwards : HasSeconds (dale.span ∷ []) (place.Stop 0) (place.Point 0) 600 → ⊥
not_backwards h = let e = ap (λ s. s.from) (only_contained dale.span (record { from = place.Stop 0; to = place.Point 0; seconds = 600 }) h) in cc

-- times that rise, and times that have a pair of places twice
rising_times : AreRisingTimes (dale.times 600)
rising_times = record { direct = dale.sound_times.direct.rising; walks = dale.sound_times.walks.rising }

not_rising : AreRisingTimes (record (dale.times 600) { direct = dale.span ∷ dale.span ∷ [] }) → ⊥
not_rising r = not_before_itself (AllPairs-at IsSpanBefore (dale.span ∷ dale.span ∷ []) 0 1 dale.span dale.span r.direct (lit< tt) refl refl)

-- where a span stands among those between two places
among_its_own : span_cmp (place.Point 0) (place.Stop 0) dale.span ≡ Equal
among_its_own = refl

before_others : span_cmp (place.Point 0) (place.Stop 1) dale.span ≡ Less
before_others = refl

-- spans rise by where they begin, and then by where they end: stops come before points
stop_first : IsSpanBefore (record { from = place.Stop 9; to = place.Point 9; seconds = 60 }) (record { from = place.Point 0; to = place.Stop 0; seconds = 60 })
stop_first = inl tt

span_again : IsSpanBefore (record { from = place.Stop 1; to = place.Stop 2; seconds = 60 }) (record { from = place.Stop 1; to = place.Stop 2; seconds = 90 }) → ⊥
span_again (inl lt) = omega arith
span_again (inr both) = let lt = both.1 in omega arith

-- a table with one day
too_short : IsSoundDayTable (record { first = pos 20243; base = pos 1748995200 ∷ [] }) → ⊥
too_short d = let e = d.count in omega arith

before_1970 : IsSoundDayTable (record dale.days { first = negsuc 0 }) → ⊥
before_1970 d = let le = d.low in omega (arith, ints)

-- days that begin 26 hours after their midnights in UTC
too_far_off : IsSoundDayTable (record dale.days { base = map (λ k. pos (86400 * k + 93600)) (range_with_len 18723 1526) }) → ⊥
too_far_off d = let le : 93600 ≤ 93599 = d.near 0 (pos (86400 * 18723 + 93600)) refl in omega arith

-- the table of the query that departs on 4 June 2025 isn't that of one a day later
next_day : IsDayTableOf (record dale.query { depart = pos 1749108600 }) dale.days → ⊥
next_day e = let f : pos 18723 +ℤ pos 1520 ≡ pos 20244 = e in omega (arith, ints)

-- the last second of 2199 and the one after it
last_second : IsQueryMoment (pos 7258118399)
last_second = record { low = omega (arith, ints); high = omega (arith, ints) }

in_2200 : IsQueryMoment (pos 7258118400) → ⊥
in_2200 m = let le = m.high in omega (arith, ints)

its_own_point : IsQueryPlace (dale.feed 36000) (dale.times 600) (place.Point 0)
its_own_point = lit< tt

no_such_point : IsQueryPlace (dale.feed 36000) (dale.times 600) (place.Point 1) → ⊥
no_such_point h = omega arith

eight_transfers : IsSoundQuery (dale.feed 36000) (dale.times 600) (record dale.query { transfers = 8 }) → ⊥
eight_transfers q = let le = q.transfers in omega arith

no_horizon : IsSoundQuery (dale.feed 36000) (dale.times 600) (record dale.query { horizon = 0 }) → ⊥
no_horizon q = let lt = q.some_time in omega arith
