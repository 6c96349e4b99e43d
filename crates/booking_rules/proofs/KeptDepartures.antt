-- The departures of a run that count are those while the deadline rises, or the last of these.
use Rattle.std.proofs.Common.{◌≡◌, ◌↔◌, inl, inr, ℕ, ◌+◌, ◌-◌, ◌*◌, ◌<◌, ◌≤◌, ℤ, pos, ◌+ℤ◌, ◌≤ℤ◌, refl, sym, ◌∙◌, ap, subst, arith}
use Rattle.std.proofs.lemmas.Bool.{cases_lt}
use Rattle.std.proofs.lemmas.Int.{clamps, ints}
use Rattle.std.specs.Int.{int_min}
use Rattle.flex_model.specs.declared.feed.Feed.{Feed}
use Rattle.flex_model.specs.declared.moment.DayTable.{DayTable}
use Rattle.flex_model.specs.declared.moment.Deadline.{Deadline}
use Rattle.flex_model.specs.declared.moment.Deadline.TheVariants.{At, Never}
use Rattle.flex_model.specs.declared.ride.Arrives.{Arrives}
use Rattle.flex_model.specs.declared.ride.Arrives.TheVariants.{After}
use Rattle.flex_model.specs.declared.ride.Arrives.TheVariants as arrival
use Rattle.flex_model.specs.declared.ride.Ride.{Ride}
use Rattle.flex_model.specs.declared.ride.Run.{Run}
use Rattle.flex_model.specs.Booking.{IsBookable, IsDeadline}
use Rattle.flex_model.specs.Deadline.{IsNoLater, lesser}
use Rattle.flex_model.specs.Run.{IsArrival, IsInRun}
use Rattle.flex_model.specs.Triple.{CoversPair}
use Rattle.flex_model.proofs.Bookings.{IsDeadline_unique}
use Rattle.flex_model.proofs.Orders.{IsNoLater_antisym, IsNoLater_refl, lesser_left, lesser_right}
use Rattle.booking_rules.specs.Departures.{Counts, IsCoveredBy, IsKept, IsOpen, IsOpenUntil, LeavesInRange, later, nth_departure, pair_of, ride_at}
use Rattle.booking_rules.specs.Narrowing.{IsNthOpen, RisesFor, kept_of, last_number, nth_ride}
use Rattle.booking_rules.specs.Openings.{IsInRange}
use Rattle.booking_rules.proofs.LaterRides.{deadline_between}

-- the arrival of the ride that leaves then
abbrev arrival_of : Arrives → ℤ → ℤ
arrival_of (After seconds) departs = departs +ℤ pos seconds
arrival_of (arrival.At moment) departs = moment

is_arrival : (arrives : Arrives) (departs : ℤ) → IsArrival arrives departs (arrival_of arrives departs)
is_arrival (After seconds) departs = refl
is_arrival (arrival.At moment) departs = refl

arrival_is : (arrives : Arrives) (departs a : ℤ) → IsArrival arrives departs a → a ≡ arrival_of arrives departs
arrival_is (After seconds) departs a is = is
arrival_is (arrival.At moment) departs a is = is

same_pair : (a b : Deadline) (m n : ℤ) → a ≡ b → m ≡ n → pair_of a m ≡ pair_of b n
same_pair a b m n p q = λ i. pair_of (p i) (q i)

-- the deadline after some minutes, which is no later than the latest one
abbrev value : Deadline → Deadline → ℕ → Deadline
value deadline latest k = lesser (later deadline (60 * k)) latest

-- where it's no later after fewer minutes, it's the latest one by then
risen : (deadline latest : Deadline) (i j : ℕ) → i < j → IsNoLater (value deadline latest j) (value deadline latest i) → IsNoLater latest (later deadline (60 * i))
risen Never latest i j lt h = tt
risen (At x) Never i j lt h = let le : (x +ℤ pos (60 * j)) ≤ℤ (x +ℤ pos (60 * i)) = h in absurd (omega (arith, ints))
risen (At x) (At z) i j lt h = let le : int_min (x +ℤ pos (60 * j)) z ≤ℤ int_min (x +ℤ pos (60 * i)) z = h in omega (arith, ints, clamps)

lesser_is_right : (a b : Deadline) → IsNoLater b a → lesser a b ≡ b
lesser_is_right a b le = IsNoLater_antisym (lesser a b) b (lesser_right a b) (first_no_later a b le) where
  first_no_later : (a b : Deadline) → IsNoLater b a → IsNoLater b (lesser a b)
  first_no_later Never b le = IsNoLater_refl b
  first_no_later (At x) Never le = le
  first_no_later (At x) (At z) le = omega (arith, ints, clamps)

-- an open departure is open by its number
nth_open : (feed : Feed) (days : DayTable) (ride : Ride) (run : Run) (now earliest departs arrives : ℤ) (k : ℕ) → departs ≡ nth_departure run k
    → IsOpen feed days ride run now earliest departs arrives → IsNthOpen feed days ride run now earliest k
nth_open feed days ride run now earliest departs arrives k is h = record {
  not_before = subst (λ d. earliest ≤ℤ d) is h.not_before;
  bookable = subst (λ d. IsBookable feed days (ride_at ride d arrives) now) is h.bookable;
}

-- no departure is open where none is by its number
pub none_open : (feed : Feed) (days : DayTable) (ride : Ride) (run : Run) (now earliest : ℤ)
    → ((k : ℕ) → k < run.count → IsNthOpen feed days ride run now earliest k → ⊥)
    → (departs arrives : ℤ) → IsOpen feed days ride run now earliest departs arrives → ⊥
none_open feed days ride run now earliest none departs arrives h =
    none h.in_run.0 h.in_run.1 (nth_open feed days ride run now earliest departs arrives h.in_run.0 h.in_run.2 h)

module _ (feed : Feed) (days : DayTable) (ride : Ride) (run : Run) (now earliest : ℤ) (latest : Deadline) (first minutes : ℕ) (some : first < run.count)
    (each : (k : ℕ) → k < run.count → (first ≤ k) ↔ IsNthOpen feed days ride run now earliest k)
    (of_last : IsDeadline feed days (nth_ride ride run (last_number run)) latest) (rises : RisesFor feed days ride run latest first minutes) where
  -- the departure and the arrival some minutes after the first open departure, and the deadline then
  abbrev leaves : ℕ → ℤ
  leaves j = nth_departure run (first + j)

  abbrev arrives_at : ℕ → ℤ
  arrives_at j = arrival_of run.arrives (leaves j)

  abbrev closes : ℕ → Deadline
  closes j = value rises.deadline latest j

  deadline_then : (j : ℕ) (arrives : ℤ) → first + j < run.count → IsDeadline feed days (ride_at ride (leaves j) arrives) (closes j)
  deadline_then j arrives lt =
      let rest = run.count - 1 - first in
      let at_last : nth_departure run (run.count - 1) ≡ nth_departure run first +ℤ pos (60 * rest) = omega (arith, ints) in
      let last = subst (λ d. IsDeadline feed days (ride_at ride d ride.arrives) latest) at_last of_last in
      let at_then : nth_departure run first +ℤ pos (60 * j) ≡ leaves j = omega (arith, ints) in
      subst (λ d. IsDeadline feed days (ride_at ride d arrives) (closes j)) at_then
      (deadline_between feed days (nth_ride ride run first) rises.deadline latest (60 * j) (60 * rest) arrives ride.arrives (omega arith) rises.of_first last)

  -- the deadline rises within the run
  pub within_run : first + minutes < run.count
  within_run =
      let rest = run.count - 1 - first in
      let at_last : first + rest ≡ run.count - 1 = omega arith in
      let then_ = subst (λ k. IsDeadline feed days (nth_ride ride run k) (closes rest)) at_last (deadline_then rest ride.arrives (omega arith)) in
      let same : latest ≡ closes rest = IsDeadline_unique feed days (nth_ride ride run (run.count - 1)) latest (closes rest) of_last then_ in
      let le : minutes ≤ rest = (rises.reached rest).1 (subst (λ d. IsNoLater d (later rises.deadline (60 * rest))) (sym same) (lesser_left (later rises.deadline (60 * rest)) latest)) in
      omega arith

  -- it's the latest one after the minutes for which it rises, and not before
  latest_then : closes minutes ≡ latest
  latest_then = lesser_is_right (later rises.deadline (60 * minutes)) latest ((rises.reached minutes).0 (omega arith))

  no_later : (j : ℕ) → IsNoLater (closes j) (closes minutes)
  no_later j = subst (IsNoLater (closes j)) (sym latest_then) (lesser_right (later rises.deadline (60 * j)) latest)

  latest_from : (j : ℕ) → closes j ≡ closes minutes → minutes ≤ j
  latest_from j same = (rises.reached j).1 (subst (λ d. IsNoLater d (later rises.deadline (60 * j))) (same ∙ latest_then) (lesser_left (later rises.deadline (60 * j)) latest))

  -- each departure from the first open one on is open
  open_then : (j : ℕ) → first + j < run.count → IsOpenUntil feed days ride run now earliest (leaves j) (arrives_at j) (closes j)
  open_then j lt =
      let both = (each (first + j) lt).0 (omega arith) in
      record {
        is_open = record {
          in_run = (first + j, lt, refl, is_arrival run.arrives (leaves j));
          not_before = both.not_before;
          bookable = both.bookable;
        };
        until = deadline_then j (arrives_at j) lt;
      }

  -- what is open is one of these
  record IsThen (departs arrives : ℤ) (deadline : Deadline) : Type 0 where
    j : ℕ
    lt : first + j < run.count
    departs_is : departs ≡ leaves j
    arrives_is : arrives ≡ arrives_at j
    deadline_is : deadline ≡ closes j

  number_then : (departs arrives : ℤ) → IsOpen feed days ride run now earliest departs arrives
      → (j : ℕ) × (first + j < run.count) × (departs ≡ leaves j) × (arrives ≡ arrives_at j)
  number_then departs arrives h =
      let k = h.in_run.0 in
      let lt = h.in_run.1 in
      let is = h.in_run.2 in
      let low : first ≤ k = (each k lt).1 (nth_open feed days ride run now earliest departs arrives k is h) in
      let same : k ≡ first + (k - first) = omega arith in
      let departs_is : departs ≡ leaves (k - first) = is ∙ ap (nth_departure run) same in
      (k - first, subst (λ n. n < run.count) same lt, departs_is, arrival_is run.arrives departs arrives h.in_run.3 ∙ ap (arrival_of run.arrives) departs_is)

  then_open : (departs arrives : ℤ) (deadline : Deadline) → IsOpenUntil feed days ride run now earliest departs arrives deadline → IsThen departs arrives deadline
  then_open departs arrives deadline h =
      let n = number_then departs arrives h.is_open in
      record {
        j = n.0;
        lt = n.1;
        departs_is = n.2;
        arrives_is = n.3;
        deadline_is = IsDeadline_unique feed days (ride_at ride departs arrives) deadline (closes n.0) h.until
            (subst (λ d. IsDeadline feed days (ride_at ride d arrives) (closes n.0)) (sym n.2) (deadline_then n.0 arrives n.1));
      }

  -- where each ride arrives after the same time, those count while the deadline rises
  module _ (seconds : ℕ) (is : run.arrives ≡ After seconds) where
    after : (j : ℕ) → arrives_at j ≡ leaves j +ℤ pos seconds
    after j = ap (λ a. arrival_of a (leaves j)) is

    counts_while : (j : ℕ) → first + j < run.count → j ≤ minutes → Counts feed days ride run now earliest (leaves j) (arrives_at j) (closes j)
    counts_while j lt le = record {
      open_until = open_then j lt;
      uncovered = λ departs arrives other h covers.
          let t = then_open departs arrives other h in
          let arrives_is = t.arrives_is in
          let after_j = after j in
          let after_t = after t.j in
          let early : arrives ≤ℤ arrives_at j = covers.arrival in
          let no_more : t.j ≤ j = omega (arith, ints) in
          let late : IsNoLater (closes j) (closes t.j) = subst (IsNoLater (closes j)) t.deadline_is covers.deadline in
          elim (cases_lt t.j j) [
            | inl fewer ↦ (
                let reached : minutes ≤ t.j = (rises.reached t.j).1 (risen rises.deadline latest t.j j fewer late) in
                absurd (omega arith))
            | inr no_fewer ↦ (
                let same : t.j ≡ j = omega arith in
                same_pair other (closes j) arrives (arrives_at j) (t.deadline_is ∙ ap closes same) (t.arrives_is ∙ ap arrives_at same))
          ];
    }

    kept_then : (j : ℕ) → first + j < run.count → j ≤ minutes → IsKept feed days ride run now earliest (leaves j) (arrives_at j)
    kept_then j lt le = record {
      deadline = closes j;
      counts = counts_while j lt le;
      first = λ other h.
          let t = then_open other (arrives_at j) (closes j) h.open_until in
          let departs_is = t.departs_is in
          let arrives_is = t.arrives_is in
          let after_j = after j in
          let after_t = after t.j in
          omega (arith, ints);
    }

    then_kept : (departs arrives : ℤ) → IsKept feed days ride run now earliest departs arrives → (j : ℕ) × (j ≤ minutes) × (departs ≡ leaves j)
    then_kept departs arrives kept =
        let t = then_open departs arrives kept.deadline kept.counts.open_until in
        let arrives_is = t.arrives_is in
        let after_j = after t.j in
        let after_last = after minutes in
        elim (cases_lt minutes t.j) [
          | inl fewer ↦ (
              let covers : CoversPair (pair_of (closes minutes) (arrives_at minutes)) (pair_of kept.deadline arrives) = record {
                deadline = subst (λ d. IsNoLater d (closes minutes)) (sym t.deadline_is) (no_later t.j);
                arrival = omega (arith, ints);
                walk = omega arith;
              } in
              let same = kept.counts.uncovered (leaves minutes) (arrives_at minutes) (closes minutes) (open_then minutes within_run) covers in
              let at_once : arrives_at minutes ≡ arrives = ap (λ p. p.arrival) same in
              absurd (omega (arith, ints)))
          | inr no_fewer ↦ (t.j, no_fewer, t.departs_is)
        ]

    pub kept_after : (departs arrives : ℤ) → IsInRun (kept_of run first minutes (After seconds)) departs arrives ↔ IsKept feed days ride run now earliest departs arrives
    kept_after departs arrives = (
      λ h.
          let few : h.0 < minutes + 1 = h.1 in
          let within = within_run in
          let leaves_is : departs ≡ nth_departure run first +ℤ pos (60 * h.0) = h.2 in
          let departs_is : leaves h.0 ≡ departs = omega (arith, ints) in
          let arrives_as : arrives ≡ departs +ℤ pos seconds = h.3 in
          let after_j = after h.0 in
          let arrives_is : arrives_at h.0 ≡ arrives = omega (arith, ints) in
          subst (λ a. IsKept feed days ride run now earliest departs a) arrives_is
          (subst (λ d. IsKept feed days ride run now earliest d (arrives_at h.0)) departs_is (kept_then h.0 (omega arith) (omega arith))),
      λ kept.
          let t = then_kept departs arrives kept in
          let le : t.0 ≤ minutes = t.1 in
          let leaves_is : departs ≡ leaves t.0 = t.2 in
          let in_run = kept.counts.open_until.is_open.in_run in
          let arrives_as : arrives ≡ departs +ℤ pos seconds = subst (λ a. IsArrival a departs arrives) is in_run.3 in
          (t.0, omega arith, omega (arith, ints), arrives_as),
    )

  -- where all arrive at one moment, the first of those with the latest deadline counts
  module _ (moment : ℤ) (is : run.arrives ≡ arrival.At moment) where
    at_moment : (j : ℕ) → arrives_at j ≡ moment
    at_moment j = ap (λ a. arrival_of a (leaves j)) is

    counts_latest : Counts feed days ride run now earliest (leaves minutes) moment (closes minutes)
    counts_latest = record {
      open_until = subst (λ a. IsOpenUntil feed days ride run now earliest (leaves minutes) a (closes minutes)) (at_moment minutes) (open_then minutes within_run);
      uncovered = λ departs arrives other h covers.
          let t = then_open departs arrives other h in
          let late : IsNoLater (closes minutes) (closes t.j) = subst (IsNoLater (closes minutes)) t.deadline_is covers.deadline in
          same_pair other (closes minutes) arrives moment
          (t.deadline_is ∙ IsNoLater_antisym (closes t.j) (closes minutes) (no_later t.j) late)
          (t.arrives_is ∙ at_moment t.j);
    }

    kept_latest : IsKept feed days ride run now earliest (leaves minutes) moment
    kept_latest = record {
      deadline = closes minutes;
      counts = counts_latest;
      first = λ other h.
          let t = then_open other moment (closes minutes) h.open_until in
          let departs_is = t.departs_is in
          let least : minutes ≤ t.j = latest_from t.j (sym t.deadline_is) in
          omega (arith, ints);
    }

    latest_kept : (departs arrives : ℤ) → IsKept feed days ride run now earliest departs arrives → (departs ≡ leaves minutes) × (arrives ≡ moment)
    latest_kept departs arrives kept =
        let t = then_open departs arrives kept.deadline kept.counts.open_until in
        let arrives_is : arrives ≡ moment = t.arrives_is ∙ at_moment t.j in
        let last_is = at_moment minutes in
        let covers : CoversPair (pair_of (closes minutes) (arrives_at minutes)) (pair_of kept.deadline arrives) = record {
          deadline = subst (λ d. IsNoLater d (closes minutes)) (sym t.deadline_is) (no_later t.j);
          arrival = omega (arith, ints);
          walk = omega arith;
        } in
        let same = kept.counts.uncovered (leaves minutes) (arrives_at minutes) (closes minutes) (open_then minutes within_run) covers in
        let deadline_is : closes minutes ≡ kept.deadline = ap (λ p. p.deadline) same in
        let counts = subst (λ d. Counts feed days ride run now earliest (leaves minutes) arrives d) deadline_is
        (subst (λ a. Counts feed days ride run now earliest (leaves minutes) a (closes minutes)) (sym arrives_is) counts_latest) in
        let no_more : departs ≤ℤ leaves minutes = kept.first (leaves minutes) counts in
        let departs_is = t.departs_is in
        let no_fewer : minutes ≤ t.j = latest_from t.j (sym t.deadline_is ∙ sym deadline_is) in
        (omega (arith, ints), arrives_is)

    pub kept_at : (departs arrives : ℤ) → IsInRun (kept_of run first minutes (arrival.At moment)) departs arrives ↔ IsKept feed days ride run now earliest departs arrives
    kept_at departs arrives = (
      λ h.
          let few : h.0 < 1 = h.1 in
          let leaves_is : departs ≡ leaves minutes +ℤ pos (60 * h.0) = h.2 in
          let departs_is : leaves minutes ≡ departs = omega (arith, ints) in
          let arrives_is : moment ≡ arrives = sym h.3 in
          subst (λ a. IsKept feed days ride run now earliest departs a) arrives_is
          (subst (λ d. IsKept feed days ride run now earliest d moment) departs_is kept_latest),
      λ kept.
          let both = latest_kept departs arrives kept in
          let departs_is = both.0 in
          (0, omega arith, omega (arith, ints), both.1),
    )

  -- the departures that are kept are those of one run
  kept_by : (how : Arrives) → run.arrives ≡ how → (departs arrives : ℤ)
      → IsInRun (kept_of run first minutes how) departs arrives ↔ IsKept feed days ride run now earliest departs arrives
  kept_by (After seconds) is departs arrives = kept_after seconds is departs arrives
  kept_by (arrival.At moment) is departs arrives = kept_at moment is departs arrives

  pub kept_are : (departs arrives : ℤ) → IsInRun (kept_of run first minutes run.arrives) departs arrives ↔ IsKept feed days ride run now earliest departs arrives
  kept_are = kept_by run.arrives refl

  -- and they are departures of the run they are taken from
  in_range_by : (how : Arrives) → LeavesInRange run → LeavesInRange (kept_of run first minutes how)
  in_range_by (After seconds) in_range k lt =
      let few : k < minutes + 1 = lt in
      let within = within_run in
      let same : nth_departure run (first + k) ≡ nth_departure run first +ℤ pos (60 * k) = omega (arith, ints) in
      subst IsInRange same (in_range (first + k) (omega arith))
  in_range_by (arrival.At moment) in_range k lt =
      let few : k < 1 = lt in
      let same : nth_departure run (first + minutes) ≡ nth_departure run (first + minutes) +ℤ pos (60 * k) = omega (arith, ints) in
      subst IsInRange same (in_range (first + minutes) within_run)

  pub kept_in_range : LeavesInRange run → LeavesInRange (kept_of run first minutes run.arrives)
  kept_in_range = in_range_by run.arrives

  -- what is kept covers each open departure
  covered_at : (how : Arrives) (j : ℕ) → run.arrives ≡ how → IsInRun (kept_of run first minutes how) (leaves j) (arrives_at j)
      → first + j < run.count → (arrives : ℤ) (deadline : Deadline) → IsNoLater deadline (closes j) → arrives_at j ≤ℤ arrives
      → IsCoveredBy feed days ride (kept_of run first minutes how) arrives deadline
  covered_at how j is in_run lt arrives deadline no_earlier no_later_arrival = record {
    departs = leaves j;
    then_arrives = arrives_at j;
    in_run = in_run;
    until = closes j;
    closes = deadline_then j (arrives_at j) lt;
    covers = record { deadline = no_earlier; arrival = no_later_arrival; walk = omega arith };
  }

  covered_by : (how : Arrives) → run.arrives ≡ how → (departs arrives : ℤ) (deadline : Deadline) → IsOpenUntil feed days ride run now earliest departs arrives deadline
      → IsCoveredBy feed days ride (kept_of run first minutes how) arrives deadline
  covered_by (After seconds) is departs arrives deadline h =
      let t = then_open departs arrives deadline h in
      let arrives_is = t.arrives_is in
      let after_j = after seconds is t.j in
      let after_last = after seconds is minutes in
      let same : IsNoLater deadline (closes t.j) = subst (λ d. IsNoLater d (closes t.j)) (sym t.deadline_is) (IsNoLater_refl (closes t.j)) in
      elim (cases_lt minutes t.j) [
        | inl fewer ↦ covered_at (After seconds) minutes is ((kept_after seconds is (leaves minutes) (arrives_at minutes)).1 (kept_then seconds is minutes within_run (omega arith))) within_run
            arrives deadline (subst (λ d. IsNoLater d (closes minutes)) (sym t.deadline_is) (no_later t.j)) (omega (arith, ints))
        | inr no_fewer ↦ covered_at (After seconds) t.j is ((kept_after seconds is (leaves t.j) (arrives_at t.j)).1 (kept_then seconds is t.j t.lt no_fewer)) t.lt
            arrives deadline same (omega (arith, ints))
      ]
  covered_by (arrival.At moment) is departs arrives deadline h =
      let t = then_open departs arrives deadline h in
      let arrives_is = t.arrives_is in
      let at_j = at_moment moment is t.j in
      let at_last = at_moment moment is minutes in
      let kept = subst (IsKept feed days ride run now earliest (leaves minutes)) (sym at_last) (kept_latest moment is) in
      covered_at (arrival.At moment) minutes is ((kept_at moment is (leaves minutes) (arrives_at minutes)).1 kept) within_run
      arrives deadline (subst (λ d. IsNoLater d (closes minutes)) (sym t.deadline_is) (no_later t.j)) (omega (arith, ints))

  pub kept_covers : (departs arrives : ℤ) (deadline : Deadline) → IsOpenUntil feed days ride run now earliest departs arrives deadline
      → IsCoveredBy feed days ride (kept_of run first minutes run.arrives) arrives deadline
  kept_covers = covered_by run.arrives refl
