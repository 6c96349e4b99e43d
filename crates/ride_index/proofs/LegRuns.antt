-- The rides of a leg as runs.
use Rattle.std.proofs.Common.{◌≡◌, ◌↔◌, ℕ, ◌-◌, ◌*◌, ◌<◌, ℤ, pos, ◌+ℤ◌, ◌≤ℤ◌, min, None, Some, [], ◌∷◌, refl, sym, ◌∙◌, ap, subst, arith}
use Rattle.std.proofs.lemmas.Int.{ints}
use Rattle.flex_model.specs.declared.moment.Deadline.{Deadline}
use Rattle.flex_model.specs.declared.ride.Arrives.{Arrives}
use Rattle.flex_model.specs.declared.ride.Arrives.TheVariants.{After, At}
use Rattle.flex_model.specs.declared.ride.Ride.{Ride}
use Rattle.flex_model.specs.declared.ride.Run.{Run}
use Rattle.flex_model.specs.Booking.{IsBookable, IsDeadline}
use Rattle.flex_model.specs.Deadline.{IsNoLater}
use Rattle.flex_model.specs.Ride.{IsPermittedRide}
use Rattle.flex_model.specs.Run.{IsArrival, IsInRun, IsRunOf, Leg, ride_of}
use Rattle.flex_model.proofs.Bookings.{IsDeadline_unique}
use Rattle.flex_model.proofs.Found.{Contains-first, only_contained}
use Rattle.booking_rules.specs.Departures.{IsKept, IsOpenUntil, LeavesInRange, nth_departure, ride_at}
use Rattle.booking_rules.proofs.LaterRides.{deadline_between}
use Rattle.booking_rules.proofs.PermittedDepartures.{departs_in_range}
use Rattle.ride_index.specs.declared.offered_run.OfferedRun.{OfferedRun}
use Rattle.ride_index.specs.declared.wanted.Wanted.{Wanted}
use Rattle.ride_index.specs.Legs.{IsInTime, IsKeptRun, IsLegOf, IsLegRide, arrival_then}
use Rattle.ride_index.specs.OfferedRuns.{AreOffersOf, IsReachable, IsSoundWanted, nth_deadline, nth_ride}

pub is_arrival : (how : Arrives) (departs : ℤ) → IsArrival how departs (arrival_then how departs)
is_arrival (After seconds) departs = refl
is_arrival (At moment) departs = refl

pub arrival_is : (how : Arrives) (departs arrives : ℤ) → IsArrival how departs arrives → arrives ≡ arrival_then how departs
arrival_is (After seconds) departs arrives is = is
arrival_is (At moment) departs arrives is = is

-- a run has its departures
pub nth_in_run : (run : Run) (k : ℕ) → k < run.count → IsInRun run (nth_departure run k) (arrival_then run.arrives (nth_departure run k))
nth_in_run run k lt = (k, lt, refl, is_arrival run.arrives (nth_departure run k))

-- ---- the rides that arrive in time

pub cut_is : (run : Run) (limit : ℤ) (most count : ℕ) → count ≡ min run.count most
    → ((k : ℕ) → k < run.count → (k < most) ↔ (arrival_then run.arrives (nth_departure run k) ≤ℤ limit))
    → (departs arrives : ℤ) → IsInRun (record run { count = count }) departs arrives ↔ IsInTime run limit departs arrives
cut_is run limit most count is by departs arrives = (
  λ h.
      let few : h.0 < count = h.1 in
      let within : h.0 < run.count = omega arith in
      let then : departs ≡ nth_departure run h.0 = h.2 in
      let at : arrives ≡ arrival_then run.arrives (nth_departure run h.0) = arrival_is run.arrives departs arrives h.3 ∙ ap (arrival_then run.arrives) then in
      ((h.0, within, h.2, h.3), subst (λ m. m ≤ℤ limit) (sym at) ((by h.0 within).0 (omega arith))),
  λ h.
      let r = h.0 in
      let within : r.0 < run.count = r.1 in
      let then : departs ≡ nth_departure run r.0 = r.2 in
      let at : arrives ≡ arrival_then run.arrives (nth_departure run r.0) = arrival_is run.arrives departs arrives r.3 ∙ ap (arrival_then run.arrives) then in
      let low = (by r.0 within).1 (subst (λ m. m ≤ℤ limit) at h.1) in
      (r.0, omega (arith, low), r.2, r.3),
)

pub none_in_time : (run : Run) (limit : ℤ) (most count : ℕ) → count ≡ min run.count most → count ≡ 0
    → ((k : ℕ) → k < run.count → (k < most) ↔ (arrival_then run.arrives (nth_departure run k) ≤ℤ limit))
    → (departs arrives : ℤ) → IsInTime run limit departs arrives → ⊥
none_in_time run limit most count is nothing by departs arrives h =
    let c = (cut_is run limit most count is by departs arrives).1 h in
    let few = c.1 in
    omega (arith, few, nothing)

-- where each ride arrives after the same time, so do those in time
pub count_after : (run : Run) (seconds : ℕ) (limit from : ℤ) (most : ℕ) → run.arrives ≡ After seconds → from ≡ run.first +ℤ pos seconds → run.count < 4294967296
    → ((k : ℕ) → k < 4294967295 → (k < most) ↔ ((from +ℤ pos (60 * k)) ≤ℤ limit))
    → (k : ℕ) → k < run.count → (k < most) ↔ (arrival_then run.arrives (nth_departure run k) ≤ℤ limit)
count_after run seconds limit from most how is few by k lt =
    let at : from +ℤ pos (60 * k) ≡ nth_departure run k +ℤ pos seconds = omega (arith, ints) in
    let same : from +ℤ pos (60 * k) ≡ arrival_then run.arrives (nth_departure run k) = at ∙ sym (ap (λ a. arrival_then a (nth_departure run k)) how) in
    subst (λ m. (k < most) ↔ (m ≤ℤ limit)) same (by k (omega arith))

-- the ride of a leg that the code makes
pub leg_ride_is : (leg : Ride) (day d a d' a' : ℤ) → day ≡ leg.day → d ≡ d' → a ≡ a'
    → record {
      trip = leg.trip;
      day = day;
      start = leg.start;
      from_row = leg.from_row;
      to_row = leg.to_row;
      board = leg.board;
      alight = leg.alight;
      departs = d;
      arrives = a;
    } ≡ ride_at leg d' a'
leg_ride_is leg day d a d' a' on p q = λ i. record {
  trip = leg.trip;
  day = on i;
  start = leg.start;
  from_row = leg.from_row;
  to_row = leg.to_row;
  board = leg.board;
  alight = leg.alight;
  departs = p i;
  arrives = q i;
}

-- ---- the offer of a run

ride_as : (leg : Ride) (d a d' a' : ℤ) → d ≡ d' → a ≡ a' → ride_at leg d a ≡ ride_at leg d' a'
ride_as leg d a d' a' p q = λ i. ride_at leg (p i) (q i)

module _ (wanted : Wanted) (leg : Ride) (kept : Run) (of : IsLegOf wanted leg) (is : IsKeptRun wanted leg kept) (closes latest : Deadline)
    (opens : IsDeadline wanted.feed.now wanted.days.now (ride_at leg (nth_departure kept 0) (arrival_then kept.arrives (nth_departure kept 0))) closes)
    (ends : IsDeadline wanted.feed.now wanted.days.now (ride_at leg (nth_departure kept (kept.count - 1)) (arrival_then kept.arrives (nth_departure kept (kept.count - 1)))) latest) where
  abbrev pub first : Ride
  first = ride_at leg (nth_departure kept 0) (arrival_then kept.arrives (nth_departure kept 0))

  abbrev pub offered : OfferedRun
  offered = record { ride = first; count = kept.count; closes = closes; latest = latest }

  -- each arrives a minute after the one before it
  arrival_of_nth : (how : Arrives) → kept.arrives ≡ how → (k : ℕ) → k < kept.count → arrival_then how (nth_departure kept 0) +ℤ pos (60 * k) ≡ arrival_then how (nth_departure kept k)
  arrival_of_nth (After seconds) e k lt = omega (arith, ints)
  arrival_of_nth (At moment) e k lt =
      let one : kept.count ≡ 1 = is.single moment e in
      let zeroth : k ≡ 0 = omega (arith, one, lt) in
      omega (arith, ints, zeroth)

  nth_is : (k : ℕ) → k < kept.count → nth_ride offered k ≡ ride_at leg (nth_departure kept k) (arrival_then kept.arrives (nth_departure kept k))
  nth_is k lt =
      let departs : nth_departure kept 0 +ℤ pos (60 * k) ≡ nth_departure kept k = omega (arith, ints) in
      ride_as leg (nth_departure kept 0 +ℤ pos (60 * k)) (arrival_then kept.arrives (nth_departure kept 0) +ℤ pos (60 * k)) (nth_departure kept k) (arrival_then kept.arrives (nth_departure kept k))
      departs (arrival_of_nth kept.arrives refl k lt)

  deadline_is : (k : ℕ) → k < kept.count → IsDeadline wanted.feed.now wanted.days.now (nth_ride offered k) (nth_deadline offered k)
  deadline_is k lt =
      let last : nth_departure kept 0 +ℤ pos (60 * (kept.count - 1)) ≡ nth_departure kept (kept.count - 1) = omega (arith, ints) in
      deadline_between wanted.feed.now wanted.days.now first closes latest (60 * k) (60 * (kept.count - 1)) (arrival_then kept.arrives (nth_departure kept 0) +ℤ pos (60 * k)) (arrival_then kept.arrives (nth_departure kept (kept.count - 1)))
      (let some = is.some in omega arith) opens
      (subst (λ d. IsDeadline wanted.feed.now wanted.days.now (ride_at leg d (arrival_then kept.arrives (nth_departure kept (kept.count - 1)))) latest) (sym last) ends)

  each_offered : (k : ℕ) → k < kept.count → IsLegRide wanted leg (nth_ride offered k) (nth_deadline offered k)
  each_offered k lt =
      let e = nth_is k lt in
      let both = is.each (nth_departure kept k) (arrival_then kept.arrives (nth_departure kept k)) (nth_in_run kept k lt) in
      let r = subst (IsReachable wanted) (sym e) both.0 in (
        record {
          permitted = r.permitted;
          bookable = subst (λ x. IsBookable wanted.feed.now wanted.days.now x wanted.asked) (sym e) both.1;
          booked = deadline_is k lt;
          boards = r.boards;
          alights = of.alights;
          leaves = r.leaves;
          arrives = r.arrives;
        },
        refl,
      )

  pub kept_offer : AreOffersOf (IsLegRide wanted leg) (offered ∷ [])
  kept_offer = record {
    each = λ run k c lt.
        let e : run ≡ offered = only_contained offered run c in
        subst (λ r. IsLegRide wanted leg (nth_ride r k) (nth_deadline r k)) (sym e) (each_offered k (subst (λ r. k < r.count) e lt));
    whole = λ ride deadline h.
        let c = is.covers ride deadline h in
        let k = c.in_run.0 in
        let lt : k < kept.count = c.in_run.1 in
        let then : c.departs ≡ nth_departure kept k = c.in_run.2 in
        let arrives : c.then_arrives ≡ arrival_then kept.arrives (nth_departure kept k) = arrival_is kept.arrives c.departs c.then_arrives c.in_run.3 ∙ ap (arrival_then kept.arrives) then in
        let same : ride_at leg c.departs c.then_arrives ≡ nth_ride offered k =
        ride_as leg c.departs c.then_arrives (nth_departure kept k) (arrival_then kept.arrives (nth_departure kept k)) then arrives ∙ sym (nth_is k lt) in
        let until : c.until ≡ nth_deadline offered k =
        IsDeadline_unique wanted.feed.now wanted.days.now (nth_ride offered k) c.until (nth_deadline offered k) (subst (λ x. IsDeadline wanted.feed.now wanted.days.now x c.until) same c.closes) (deadline_is k lt) in
        record {
          run = offered;
          among = Contains-first offered [];
          at = k;
          low = lt;
          alights = ap (λ r. r.alight) (sym h.1);
          booked = subst (IsNoLater deadline) until c.covers.deadline;
          arrives = subst (λ m. m ≤ℤ ride.arrives) (ap (λ r. r.arrives) same) c.covers.arrival;
        };
  }

-- ---- from the run of the leg to what is kept of it

-- the leg of a ride that has no start
abbrev pub leg_on : Ride → ℤ → Leg
leg_on leg day = record { trip = leg.trip; day = day; start = None; from_row = leg.from_row; to_row = leg.to_row; board = leg.board; alight = leg.alight }

module _ (wanted : Wanted) (leg : Ride) (day : ℤ) (run : Run) (sound : IsSoundWanted wanted) (of : IsLegOf wanted leg) (on : day ≡ leg.day)
    (runs : IsRunOf wanted.feed.now wanted.times.now wanted.days.now (leg_on leg day) (Some run)) where
  same_ride : (departs arrives : ℤ) → ride_of (leg_on leg day) departs arrives ≡ ride_at leg departs arrives
  same_ride departs arrives =
      let start = of.no_start in
      λ i. record {
        trip = leg.trip;
        day = on i;
        start = sym start i;
        from_row = leg.from_row;
        to_row = leg.to_row;
        board = leg.board;
        alight = leg.alight;
        departs = departs;
        arrives = arrives;
      }

  pub permitted_in_run : (departs arrives : ℤ) → IsInRun run departs arrives → IsPermittedRide wanted.feed.now wanted.times.now wanted.days.now (ride_at leg departs arrives)
  permitted_in_run departs arrives h =
      subst (IsPermittedRide wanted.feed.now wanted.times.now wanted.days.now) (same_ride departs arrives) ((runs.rides departs arrives).0 h)

  pub run_in_range : LeavesInRange run
  run_in_range k lt =
      let p = permitted_in_run (nth_departure run k) (arrival_then run.arrives (nth_departure run k)) (nth_in_run run k lt) in
      departs_in_range wanted.feed.now wanted.times.now wanted.days.now (ride_at leg (nth_departure run k) (arrival_then run.arrives (nth_departure run k))) p sound.feed sound.days

  -- a wanted ride of the leg is in the run, in time
  pub wanted_in_run : (ride : Ride) (deadline : Deadline) → IsLegRide wanted leg ride deadline → IsInTime run wanted.limit ride.departs ride.arrives
  wanted_in_run ride deadline h =
      let p = subst (IsPermittedRide wanted.feed.now wanted.times.now wanted.days.now) (h.1 ∙ sym (same_ride ride.departs ride.arrives)) h.0.permitted in
      ((runs.rides ride.departs ride.arrives).1 p, h.0.arrives)

  module _ (cut : Run) (in_time : (departs arrives : ℤ) → IsInRun cut departs arrives ↔ IsInTime run wanted.limit departs arrives) where
    pub wanted_open : (ride : Ride) (deadline : Deadline) → IsLegRide wanted leg ride deadline → IsOpenUntil wanted.feed.now wanted.days.now leg cut wanted.asked wanted.earliest ride.departs ride.arrives deadline
    wanted_open ride deadline h = record {
      is_open = record {
        in_run = (in_time ride.departs ride.arrives).1 (wanted_in_run ride deadline h);
        not_before = h.0.leaves;
        bookable = subst (λ x. IsBookable wanted.feed.now wanted.days.now x wanted.asked) h.1 h.0.bookable;
      };
      until = subst (λ x. IsDeadline wanted.feed.now wanted.days.now x deadline) h.1 h.0.booked;
    }

    pub kept_reachable : (departs arrives : ℤ) → IsKept wanted.feed.now wanted.days.now leg cut wanted.asked wanted.earliest departs arrives
        → IsReachable wanted (ride_at leg departs arrives) × IsBookable wanted.feed.now wanted.days.now (ride_at leg departs arrives) wanted.asked
    kept_reachable departs arrives k =
        let its = k.counts.open_until.is_open in
        let there = (in_time departs arrives).0 its.in_run in
        (record { permitted = permitted_in_run departs arrives there.0; boards = of.boards; leaves = its.not_before; arrives = there.1 }, its.bookable)

-- where the leg has no run, no ride of it is wanted
pub none_of_leg : (wanted : Wanted) (leg : Ride) (day : ℤ) → IsLegOf wanted leg → day ≡ leg.day → IsRunOf wanted.feed.now wanted.times.now wanted.days.now (leg_on leg day) None
    → (ride : Ride) (deadline : Deadline) → IsLegRide wanted leg ride deadline → ⊥
none_of_leg wanted leg day of on runs ride deadline h =
    let start = of.no_start in
    let same : ride_at leg ride.departs ride.arrives ≡ ride_of (leg_on leg day) ride.departs ride.arrives = λ i. record {
      trip = leg.trip;
      day = sym on i;
      start = start i;
      from_row = leg.from_row;
      to_row = leg.to_row;
      board = leg.board;
      alight = leg.alight;
      departs = ride.departs;
      arrives = ride.arrives;
    } in
    (runs.rides ride.departs ride.arrives).1 (subst (IsPermittedRide wanted.feed.now wanted.times.now wanted.days.now) (h.1 ∙ same) h.0.permitted)

-- a ride of what is kept, as the code makes it
pub ride_of_kept : (wanted : Wanted) (leg : Ride) (kept : Run) → IsKeptRun wanted leg kept → (k : ℕ) → k < kept.count → (made : Ride)
    → made ≡ ride_at leg (nth_departure kept k) (arrival_then kept.arrives (nth_departure kept k))
    → IsReachable wanted made × IsBookable wanted.feed.now wanted.days.now made wanted.asked
ride_of_kept wanted leg kept is k lt made e =
    subst (λ x. IsReachable wanted x × IsBookable wanted.feed.now wanted.days.now x wanted.asked) (sym e)
    (is.each (nth_departure kept k) (arrival_then kept.arrives (nth_departure kept k)) (nth_in_run kept k lt))
