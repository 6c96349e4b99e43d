-- The rides from a place, by what the records where they board name.
use Rattle.std.proofs.Common.{◌≡◌, ◌↔◌, ◌⊎◌, inl, inr, ℕ, ◌+◌, ◌<◌, false, IsTrue, Some, List, [], ◌∷◌, ◌++◌, All, Contains, get_or, length, slice_get, take, refl, sym, ◌∙◌, ap, subst, arith}
use Rattle.std.proofs.lemmas.Bool.{cases_order}
use Rattle.std.proofs.lemmas.List.{take_more}
use Rattle.std.proofs.lemmas.List.Elements.{Contains-append_left, Contains-push, Contains-push_cases}
use Rattle.std.proofs.lemmas.Option.{slice_get_within}
use Rattle.flex_model.specs.declared.feed.Feed.{Feed}
use Rattle.flex_model.specs.declared.moment.Deadline.{Deadline}
use Rattle.flex_model.specs.declared.place.Group.{Group}
use Rattle.flex_model.specs.declared.place.Place.{Place}
use Rattle.flex_model.specs.declared.place.Place.TheVariants as place
use Rattle.flex_model.specs.declared.ride.Ride.{Ride}
use Rattle.flex_model.specs.declared.trip.Row.{Row}
use Rattle.flex_model.specs.declared.trip.Spot.{Spot}
use Rattle.flex_model.specs.declared.trip.Spot.TheVariants as spot
use Rattle.flex_model.specs.declared.trip.Timing.{Timing}
use Rattle.flex_model.specs.declared.trip.Timing.TheVariants as timing
use Rattle.flex_model.specs.declared.trip.Trip.{Trip}
use Rattle.flex_model.specs.Place.{IsMember, Serves}
use Rattle.flex_model.specs.Ride.{HasTimes, StartsRightly}
use Rattle.flex_model.specs.SoundFeed.{IsSoundFeed, IsSoundRow, IsSoundSpot, IsSoundTiming, IsSoundTrip, IsSoundZone}
use Rattle.flex_model.specs.Zone.{is_in_zone}
use Rattle.flex_model.proofs.Found.{All-at, All-from_contains, none_contained, slice_get_unique}
use Rattle.fixed_trips.specs.Timed.{HasTimedRow}
use Rattle.fixed_trips.proofs.Legs.{names_stop}
use Rattle.flex_trips.specs.Windows.{HasWindowRow}
use Rattle.ride_index.specs.Departures.{HasDepartures, LeavesFrom, RunsSo, spot_of}
use Rattle.ride_index.specs.declared.departure.Departure.{Departure}
use Rattle.ride_index.specs.declared.departure.DepartureKind.{DepartureKind}
use Rattle.ride_index.specs.declared.departure.DepartureKind.TheVariants.{AtStarts, BesideWindow, GroupWindow, Once, StopWindow, ZoneWindow}
use Rattle.ride_index.specs.declared.offered_run.OfferedRun.{OfferedRun}
use Rattle.ride_index.specs.declared.wanted.Wanted.{Wanted}
use Rattle.ride_index.specs.Legs.{AreAtRecords, BoardsFrom, BoardsWith, IsTimedOffer, IsWindowRide}
use Rattle.ride_index.specs.Members.{HasGroupStops, HasMembers, HasZoneStops}
use Rattle.ride_index.specs.declared.members.Member.{Member}
use Rattle.ride_index.specs.OfferedRuns.{AreOffersOf, GainsOffersOf, IsReachable, IsSoundWanted, IsWantedRide}
use Rattle.ride_index.specs.TimedRides.{IsTimedRide}
use Rattle.ride_index.proofs.OfferLists.{gains_both, gains_same}
use Rattle.ride_index.proofs.WindowOffers.{no_start, window_of}

-- ---- what the lists hold

pub records_of : (feed : Feed) (kind : DepartureKind) (list : List Departure) → HasDepartures feed kind list → AreAtRecords feed list
records_of feed kind list has d c = let i = (has d).0 c in (i.among.row, (i.trip, i.of_trip, i.among.at_row))

timed_low : (at : Spot) (t : Timing) (time : ℕ) → (arrives : ℕ) × (t ≡ timing.Times arrives time) → IsSoundTiming at t → time < 604800
timed_low at t time h sound = (subst (IsSoundTiming at) h.1 sound).2

window_low : (at : Spot) (t : Timing) (time : ℕ) → (end : ℕ) × (t ≡ timing.Window time end) → IsSoundTiming at t → time < 604800
window_low at t time h sound = let s = subst (IsSoundTiming at) h.1 sound in let le = s.0 in let lt = s.1 in omega (arith, le, lt)

low_by : (kind : DepartureKind) (at : Spot) (t : Timing) (time : ℕ) → LeavesFrom kind t time → IsSoundTiming at t → time < 604800
low_by Once at t time h sound = timed_low at t time h sound
low_by AtStarts at t time h sound = timed_low at t time h sound
low_by BesideWindow at t time h sound = timed_low at t time h sound
low_by StopWindow at t time h sound = window_low at t time h sound
low_by GroupWindow at t time h sound = window_low at t time h sound
low_by ZoneWindow at t time h sound = window_low at t time h sound

sound_row : (feed : Feed) (t r : ℕ) (trip : Trip) (row : Row) → IsSoundFeed feed → slice_get feed.trips t ≡ Some trip → slice_get trip.rows r ≡ Some row → IsSoundRow feed row
sound_row feed t r trip row sound of_trip at =
    let s : IsSoundTrip feed trip = All-at (IsSoundTrip feed) feed.trips t trip sound.each_trip of_trip in
    All-at (IsSoundRow feed) trip.rows r row s.rows at

pub low_of : (feed : Feed) (kind : DepartureKind) (list : List Departure) → IsSoundFeed feed → HasDepartures feed kind list → All (λ d. d.departs < 604800) list
low_of feed kind list sound has = All-from_contains (λ d. d.departs < 604800) list (λ d c.
    let i = (has d).0 c in
    low_by kind i.among.row.spot i.among.row.timing d.departs i.among.boarded.timed (sound_row feed d.trip d.row i.trip i.among.row sound i.of_trip i.among.at_row).timing)

-- what boards with a departure of a list boards at what this names
pub boards_from : (feed : Feed) (kind : DepartureKind) (list : List Departure) (named : ℕ) (ride : Ride) → HasDepartures feed kind list → BoardsWith list named ride → BoardsFrom feed (spot_of kind named) ride
boards_from feed kind list named ride has b =
    let i = (has b.departure).0 b.listed in (
      i.trip,
      i.among.row,
      subst (λ t. slice_get feed.trips t ≡ Some i.trip) (sym b.boards.0) i.of_trip,
      subst (λ r. slice_get i.trip.rows r ≡ Some i.among.row) (sym b.boards.1) i.among.at_row,
      i.among.boarded.at_spot ∙ ap (spot_of kind) b.at_named,
    )

module _ (wanted : Wanted) (sound : IsSoundWanted wanted) where
  spot_is : (at : Spot) (ride : Ride) (deadline : Deadline) (w : IsWantedRide wanted ride deadline) → BoardsFrom wanted.feed.now at ride → w.permitted.boarding.spot ≡ at
  spot_is at ride deadline w h =
      let p = w.permitted in
      let t : h.0 ≡ p.trip = slice_get_unique wanted.feed.now.trips ride.trip h.0 p.trip h.2 p.of_trip in
      let r : h.1 ≡ p.boarding = slice_get_unique p.trip.rows ride.from_row h.1 p.boarding (subst (λ x. slice_get x.rows ride.from_row ≡ Some h.1) t h.3) p.at_boarding in
      sym (ap (λ x. x.spot) r) ∙ h.4

  -- the record serves the place
  pub served : (at : Spot) (ride : Ride) (deadline : Deadline) → IsWantedRide wanted ride deadline → BoardsFrom wanted.feed.now at ride → Serves wanted.feed.now wanted.times.now at wanted.place
  served at ride deadline w h =
      subst (Serves wanted.feed.now wanted.times.now at) w.boards (subst (λ s. Serves wanted.feed.now wanted.times.now s ride.board) (spot_is at ride deadline w h) w.permitted.boards)

  module _ (ride : Ride) (deadline : Deadline) (h : IsWindowRide wanted ride deadline) where
    not_frequent : h.0.permitted.trip.frequent ≡ false
    not_frequent = subst (StartsRightly h.0.permitted.trip) (no_start wanted.feed.now wanted.times.now wanted.days.now ride h.0.permitted h.1) h.0.permitted.starts

    boarding_sound : IsSoundRow wanted.feed.now h.0.permitted.boarding
    boarding_sound = sound_row wanted.feed.now ride.trip ride.from_row h.0.permitted.trip h.0.permitted.boarding sound.feed h.0.permitted.of_trip h.0.permitted.at_boarding

    -- the departure with which the ride boards
    with_departure : (kind : DepartureKind) (list : List Departure) (named time : ℕ) → HasDepartures wanted.feed.now kind list → h.0.permitted.boarding.spot ≡ spot_of kind named
        → LeavesFrom kind h.0.permitted.boarding.timing time → RunsSo kind h.0.permitted.trip → BoardsWith list named ride
    with_departure kind list named time has at leaves so = record {
      departure = record { named = named; departs = time; trip = ride.trip; row = ride.from_row };
      listed = (has (record { named = named; departs = time; trip = ride.trip; row = ride.from_row })).1 (record {
        trip = h.0.permitted.trip;
        of_trip = h.0.permitted.of_trip;
        runs_so = so;
        among = record { of_trip = refl; row = h.0.permitted.boarding; at_row = h.0.permitted.at_boarding; boarded = record { at_spot = at; timed = leaves; picks_up = h.0.permitted.picks_up } };
      });
      at_named = refl;
      boards = (refl, refl);
    }

    -- a record that names no stop has a window
    window_time : (t : Timing) (at : Spot) → IsSoundTiming at t → ((s : ℕ) → at ≡ spot.Stop s → ⊥) → (time : ℕ) × ((end : ℕ) × (t ≡ timing.Window time end))
    window_time (timing.Times arrives departs) at s never = absurd (never s.0.0 s.0.1)
    window_time (timing.Window start end) at s never = (start, (end, refl))

    pub with_group : (list : List Departure) (g : ℕ) → HasDepartures wanted.feed.now GroupWindow list → BoardsFrom wanted.feed.now (spot.Group g) ride → BoardsWith list g ride
    with_group list g has b =
        let at = spot_is (spot.Group g) ride deadline h.0 b in
        let time = window_time h.0.permitted.boarding.timing h.0.permitted.boarding.spot boarding_sound.timing (λ s e. (let f : spot.Group g ≡ spot.Stop s = sym at ∙ e in cc)) in
        with_departure GroupWindow list g time.0 has at time.1 not_frequent

    pub with_zone : (list : List Departure) (z : ℕ) → HasDepartures wanted.feed.now ZoneWindow list → BoardsFrom wanted.feed.now (spot.Zone z) ride → BoardsWith list z ride
    with_zone list z has b =
        let at = spot_is (spot.Zone z) ride deadline h.0 b in
        let time = window_time h.0.permitted.boarding.timing h.0.permitted.boarding.spot boarding_sound.timing (λ s e. (let f : spot.Zone z ≡ spot.Stop s = sym at ∙ e in cc)) in
        with_departure ZoneWindow list z time.0 has at time.1 not_frequent

    pub with_stop : (beside windows : List Departure) (s : ℕ) → HasDepartures wanted.feed.now BesideWindow beside → HasDepartures wanted.feed.now StopWindow windows
        → BoardsFrom wanted.feed.now (spot.Stop s) ride → BoardsWith beside s ride ⊎ BoardsWith windows s ride
    with_stop beside windows s has_beside has_windows b = by_timing h.0.permitted.boarding.timing refl
      where
        by_timing : (t : Timing) → h.0.permitted.boarding.timing ≡ t → BoardsWith beside s ride ⊎ BoardsWith windows s ride
        by_timing (timing.Times arrives departs) e =
            inl (with_departure BesideWindow beside s departs has_beside (spot_is (spot.Stop s) ride deadline h.0 b) (arrives, e) (
              not_frequent,
              λ all. window_of wanted.feed.now wanted.times.now wanted.days.now ride h.0.permitted h.1 (
                All-at (λ row. HasTimes row.timing) h.0.permitted.trip.rows ride.from_row h.0.permitted.boarding all h.0.permitted.at_boarding,
                All-at (λ row. HasTimes row.timing) h.0.permitted.trip.rows ride.to_row h.0.permitted.alighting all h.0.permitted.at_alighting,
              ),
            ))
        by_timing (timing.Window start end) e = inr (with_departure StopWindow windows s start has_windows (spot_is (spot.Stop s) ride deadline h.0 b) (end, e) not_frequent)

    -- a record names a stop, a group or a zone of the feed
    pub by_spot : ((s : ℕ) × BoardsFrom wanted.feed.now (spot.Stop s) ride)
        ⊎ (((g : ℕ) × (g < length wanted.feed.now.groups) × BoardsFrom wanted.feed.now (spot.Group g) ride)
        ⊎ ((z : ℕ) × (z < length wanted.feed.now.zones) × BoardsFrom wanted.feed.now (spot.Zone z) ride))
    by_spot = by h.0.permitted.boarding.spot refl boarding_sound.«spot»
      where
        here : (at : Spot) → h.0.permitted.boarding.spot ≡ at → BoardsFrom wanted.feed.now at ride
        here at e = (h.0.permitted.trip, h.0.permitted.boarding, h.0.permitted.of_trip, h.0.permitted.at_boarding, e)

        by : (at : Spot) → h.0.permitted.boarding.spot ≡ at → IsSoundSpot wanted.feed.now at → ((s : ℕ) × BoardsFrom wanted.feed.now (spot.Stop s) ride)
            ⊎ (((g : ℕ) × (g < length wanted.feed.now.groups) × BoardsFrom wanted.feed.now (spot.Group g) ride)
            ⊎ ((z : ℕ) × (z < length wanted.feed.now.zones) × BoardsFrom wanted.feed.now (spot.Zone z) ride))
        by (spot.Stop s) e ok = inl (s, here (spot.Stop s) e)
        by (spot.Group g) e ok = inr (inl (g, ok, here (spot.Group g) e))
        by (spot.Zone z) e ok = inr (inr (z, ok, here (spot.Zone z) e))

  -- ---- the rides from stops, groups and zones

  abbrev pub FromStops : Ride → Deadline → Type 0
  FromStops ride deadline = IsWindowRide wanted ride deadline × ((s : ℕ) × BoardsFrom wanted.feed.now (spot.Stop s) ride)

  abbrev pub FromGroups : ℕ → Ride → Deadline → Type 0
  FromGroups n ride deadline = IsWindowRide wanted ride deadline × ((g : ℕ) × (g < n) × BoardsFrom wanted.feed.now (spot.Group g) ride)

  abbrev pub FromZones : ℕ → Ride → Deadline → Type 0
  FromZones n ride deadline = IsWindowRide wanted ride deadline × ((z : ℕ) × (z < n) × BoardsFrom wanted.feed.now (spot.Zone z) ride)

  pub gains_stops : (beside windows : List Departure) (stop : ℕ) (before found after : List OfferedRun) → HasDepartures wanted.feed.now BesideWindow beside → HasDepartures wanted.feed.now StopWindow windows
      → wanted.place ≡ place.Stop stop
      → GainsOffersOf (λ ride deadline. IsWindowRide wanted ride deadline × BoardsWith beside stop ride) before found
      → GainsOffersOf (λ ride deadline. IsWindowRide wanted ride deadline × BoardsWith windows stop ride) found after → GainsOffersOf FromStops before after
  gains_stops beside windows stop before found after has_beside has_windows here first second =
      gains_both (λ ride deadline. IsWindowRide wanted ride deadline × BoardsWith beside stop ride) (λ ride deadline. IsWindowRide wanted ride deadline × BoardsWith windows stop ride) FromStops before found after first second
      (λ x d. (
        λ h. elim h [
          | inl a ↦ (a.0, (stop, boards_from wanted.feed.now BesideWindow beside stop x has_beside a.1))
          | inr b ↦ (b.0, (stop, boards_from wanted.feed.now StopWindow windows stop x has_windows b.1))
        ],
        λ h.
            let at : wanted.place ≡ place.Stop h.1.0 = served (spot.Stop h.1.0) x d h.0.0 h.1.1 in
            let same : place.Stop h.1.0 ≡ place.Stop stop = sym at ∙ here in
            let e : h.1.0 ≡ stop = cc in
            elim (with_stop x d h.0 beside windows stop has_beside has_windows (subst (λ s. BoardsFrom wanted.feed.now (spot.Stop s) x) e h.1.1)) [
              | inl a ↦ inl (h.0, a)
              | inr b ↦ inr (h.0, b)
            ],
      ))

  pub gains_group : (list : List Departure) (g : ℕ) (before after : List OfferedRun) → HasDepartures wanted.feed.now GroupWindow list
      → GainsOffersOf (λ ride deadline. IsWindowRide wanted ride deadline × BoardsWith list g ride) before after
      → GainsOffersOf (λ ride deadline. IsWindowRide wanted ride deadline × BoardsFrom wanted.feed.now (spot.Group g) ride) before after
  gains_group list g before after has =
      gains_same (λ ride deadline. IsWindowRide wanted ride deadline × BoardsWith list g ride) (λ ride deadline. IsWindowRide wanted ride deadline × BoardsFrom wanted.feed.now (spot.Group g) ride) before after
      (λ x d. (λ h. (h.0, boards_from wanted.feed.now GroupWindow list g x has h.1), λ h. (h.0, with_group x d h.0 list g has h.1)))

  pub gains_zone : (list : List Departure) (z : ℕ) (before after : List OfferedRun) → HasDepartures wanted.feed.now ZoneWindow list
      → GainsOffersOf (λ ride deadline. IsWindowRide wanted ride deadline × BoardsWith list z ride) before after
      → GainsOffersOf (λ ride deadline. IsWindowRide wanted ride deadline × BoardsFrom wanted.feed.now (spot.Zone z) ride) before after
  gains_zone list z before after has =
      gains_same (λ ride deadline. IsWindowRide wanted ride deadline × BoardsWith list z ride) (λ ride deadline. IsWindowRide wanted ride deadline × BoardsFrom wanted.feed.now (spot.Zone z) ride) before after
      (λ x d. (λ h. (h.0, boards_from wanted.feed.now ZoneWindow list z x has h.1), λ h. (h.0, with_zone x d h.0 list z has h.1)))

  pub next_zone : (n : ℕ) (before found after : List OfferedRun) → GainsOffersOf (FromZones n) before found
      → GainsOffersOf (λ ride deadline. IsWindowRide wanted ride deadline × BoardsFrom wanted.feed.now (spot.Zone n) ride) found after → GainsOffersOf (FromZones (n + 1)) before after
  next_zone n before found after so_far new =
      gains_both (FromZones n) (λ ride deadline. IsWindowRide wanted ride deadline × BoardsFrom wanted.feed.now (spot.Zone n) ride) (FromZones (n + 1)) before found after so_far new
      (λ x d. (
        λ h. elim h [ inl p ↦ (let lt = p.1.1 in (p.0, (p.1.0, omega (arith, lt), p.1.2))) | inr q ↦ (q.0, (n, omega arith, q.1)) ],
        λ h. elim (cases_order h.1.0 n) [
          | inl e ↦ inr (h.0, subst (λ z. BoardsFrom wanted.feed.now (spot.Zone z) x) e h.1.2)
          | inr (inl less) ↦ inl (h.0, (h.1.0, less, h.1.2))
          | inr (inr more) ↦ absurd (let lt = h.1.1 in omega (arith, lt, more))
        ],
      ))

  -- ---- the rides from the groups or zones that have the stop

  abbrev pub FromMembers : (ℕ → Spot) → List Member → Ride → Deadline → Type 0
  FromMembers name members ride deadline = IsWindowRide wanted ride deadline × ((m : Member) × Contains members m × BoardsFrom wanted.feed.now (name m.named) ride)

  pub next_member : (name : ℕ → Spot) (members : List Member) (n : ℕ) (default : Member) (before found after : List OfferedRun) → n < length members → GainsOffersOf (FromMembers name (take n members)) before found
      → GainsOffersOf (λ ride deadline. IsWindowRide wanted ride deadline × BoardsFrom wanted.feed.now (name (get_or members n default).named) ride) found after
      → GainsOffersOf (FromMembers name (take (n + 1) members)) before after
  next_member name members n default before found after lt so_far new =
      let one = get_or members n default in
      let more : take (n + 1) members ≡ take n members ++ one ∷ [] = take_more members n default lt in
      gains_both (FromMembers name (take n members)) (λ ride deadline. IsWindowRide wanted ride deadline × BoardsFrom wanted.feed.now (name one.named) ride) (FromMembers name (take (n + 1) members)) before found after so_far new
      (λ x d. (
        λ h. elim h [
          | inl old ↦ (old.0, (old.1.0, subst (λ xs. Contains xs old.1.0) (sym more) (Contains-append_left (take n members) (one ∷ []) old.1.0 old.1.1), old.1.2))
          | inr here ↦ (here.0, (one, subst (λ xs. Contains xs one) (sym more) (Contains-push (take n members) one), here.1))
        ],
        λ h. elim (Contains-push_cases (take n members) one h.1.0 (subst (λ xs. Contains xs h.1.0) more h.1.1)) [
          | inl old ↦ inl (h.0, (h.1.0, old, h.1.2))
          | inr same ↦ inr (h.0, subst (λ m. BoardsFrom wanted.feed.now (name m.named) x) (sym same) h.1.2)
        ],
      ))

  -- groups serve stops alone
  member_stop : (group : Group) (p : Place) → IsMember wanted.feed.now group p → (s : ℕ) × (p ≡ place.Stop s)
  member_stop group (place.Stop s) h = (s, refl)
  member_stop group (place.Point q) h = absurd h

  pub grouped_at_stop : (n : ℕ) (ride : Ride) (deadline : Deadline) → FromGroups n ride deadline → (s : ℕ) × (wanted.place ≡ place.Stop s)
  grouped_at_stop n ride deadline h =
      let s = served (spot.Group h.1.0) ride deadline h.0.0 h.1.2 in
      member_stop s.0 wanted.place s.2

  module _ (members slice : List Member) (stop : ℕ) (before after : List OfferedRun) (listed : (m : Member) → Contains slice m ↔ (Contains members m × (m.stop ≡ stop))) (here : wanted.place ≡ place.Stop stop) where
    pub gains_groups : HasMembers (HasGroupStops wanted.feed.now) members → GainsOffersOf (FromMembers (λ g. spot.Group g) slice) before after → GainsOffersOf (FromGroups (length wanted.feed.now.groups)) before after
    gains_groups has =
        gains_same (FromMembers (λ g. spot.Group g) slice) (FromGroups (length wanted.feed.now.groups)) before after
        (λ x d. (
          λ h.
              let m = h.1.0 in
              let its = ((has m).0 ((listed m).0 h.1.1).0).1 in
              (h.0, (m.named, slice_get_within wanted.feed.now.groups m.named its.0 its.1, h.1.2)),
          λ h.
              let g = h.1.0 in
              let m : Member = record { stop = stop; named = g } in
              let s = served (spot.Group g) x d h.0.0 h.1.2 in
              let in_group = subst (IsMember wanted.feed.now s.0) here s.2 in
              (h.0, (m, (listed m).1 ((has m).1 (s.0.members, (s.0, s.1, refl), in_group.0), refl), h.1.2)),
        ))

    pub gains_zones : HasMembers (HasZoneStops wanted.feed.now) members → GainsOffersOf (FromMembers (λ z. spot.Zone z) slice) before after → GainsOffersOf (FromZones (length wanted.feed.now.zones)) before after
    gains_zones has =
        gains_same (FromMembers (λ z. spot.Zone z) slice) (FromZones (length wanted.feed.now.zones)) before after
        (λ x d. (
          λ h.
              let m = h.1.0 in
              let its = ((has m).0 ((listed m).0 h.1.1).0).1 in
              (h.0, (m.named, slice_get_within wanted.feed.now.zones m.named its.0 its.1, h.1.2)),
          λ h.
              let z = h.1.0 in
              let m : Member = record { stop = stop; named = z } in
              let s = subst (Serves wanted.feed.now wanted.times.now (spot.Zone z)) here (served (spot.Zone z) x d h.0.0 h.1.2) in
              let zone = s.0 in
              let of : IsSoundZone wanted.feed.now zone = All-at (IsSoundZone wanted.feed.now) wanted.feed.now.zones z zone sound.feed.each_zone s.2 in
              let lies = s.3 in
              let inside = (of.stops stop).1 (lies.0, lies.1, lies.2, subst (λ q. IsTrue (is_in_zone zone.polygons q)) lies.3 s.4) in
              (h.0, (m, (listed m).1 ((has m).1 (zone.stops, (zone, s.2, refl), inside), refl), h.1.2)),
        ))

  -- ---- the rides between times

  -- they board at stops alone
  pub timed_at_stop : (ride : Ride) (deadline : Deadline) → IsTimedOffer wanted ride deadline → (s : ℕ) × (wanted.place ≡ place.Stop s)
  timed_at_stop ride deadline h =
      let r = h.1 in
      let named = names_stop wanted.feed.now ride.trip ride.from_row r.0 r.1 sound.feed (record { of_trip = r.2; at_row = r.3; timed = r.4 }) in
      (named.0, served (spot.Stop named.0) ride deadline h.0 (r.0, r.1, r.2, r.3, named.1))

  pub timed_reachable : (stop : ℕ) (ride : Ride) → wanted.place ≡ place.Stop stop → IsTimedRide wanted.feed.now wanted.times.now wanted.days.now stop wanted.earliest wanted.limit ride → IsReachable wanted ride
  timed_reachable stop ride here t = record { permitted = t.permitted; boards = t.at_stop ∙ sym here; leaves = t.leaves; arrives = t.arrives }

  -- both records have times, or one has a window
  pub by_timings : (ride : Ride) (deadline : Deadline) (w : IsWantedRide wanted ride deadline) → IsTimedOffer wanted ride deadline ⊎ IsWindowRide wanted ride deadline
  by_timings ride deadline w = by w.permitted.boarding.timing w.permitted.alighting.timing refl refl
    where
      timed : (t r : ℕ) (trip : Trip) (row : Row) (a b : ℕ) → slice_get wanted.feed.now.trips t ≡ Some trip → slice_get trip.rows r ≡ Some row → row.timing ≡ timing.Times a b → HasTimedRow wanted.feed.now t r
      timed t r trip row a b of at e = (trip, row, of, at, subst HasTimes (sym e) tt)

      window : (HasTimes w.permitted.boarding.timing × HasTimes w.permitted.alighting.timing → ⊥) → HasWindowRow wanted.feed.now ride.trip ride.from_row ride.to_row
      window never = record {
        trip = w.permitted.trip;
        of_trip = w.permitted.of_trip;
        boarding = w.permitted.boarding;
        at_boarding = w.permitted.at_boarding;
        alighting = w.permitted.alighting;
        at_alighting = w.permitted.at_alighting;
        window = never;
      }

      by : (a b : Timing) → w.permitted.boarding.timing ≡ a → w.permitted.alighting.timing ≡ b → IsTimedOffer wanted ride deadline ⊎ IsWindowRide wanted ride deadline
      by (timing.Times x y) (timing.Times z v) e f =
          inl (w, timed ride.trip ride.from_row w.permitted.trip w.permitted.boarding x y w.permitted.of_trip w.permitted.at_boarding e, timed ride.trip ride.to_row w.permitted.trip w.permitted.alighting z v w.permitted.of_trip w.permitted.at_alighting f)
      by (timing.Window x y) b e f = inr (w, window (λ both. subst HasTimes e both.0))
      by (timing.Times x y) (timing.Window z v) e f = inr (w, window (λ both. subst HasTimes f both.1))
