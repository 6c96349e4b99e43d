-- Rides that are held, and rides that are offered.
use Rattle.std.proofs.Common.{◌≡◌, ◌⊎◌, ◌↔◌, inl, inr, ℕ, ◌+◌, ◌*◌, ◌<◌, ℤ, pos, ◌+ℤ◌, ◌≤ℤ◌, List, Option, Some, None, All, Contains, get_or, length, option_map, sym, ◌∙◌, ap, subst, arith}
use Rattle.std.specs.Borrow.{Bor}
use Rattle.std.proofs.lemmas.Bool.{cases_lt, cases_order}
use Rattle.std.proofs.lemmas.Int.{by_lt_z, ints}
use Rattle.std.proofs.lemmas.Option.{slice_get-get_or, slice_get-map}
use Rattle.std.proofs.lemmas.List.Elements.{All-contains}
use Rattle.bound_cert.specs.declared.cert.CertPart.{CertPart}
use Rattle.cert_check.specs.declared.labels.RoundLabel.{RoundLabel}
use Rattle.cert_check.specs.declared.made.Boarded.{Boarded}
use Rattle.cert_check.specs.declared.task.Task.{Task}
use Rattle.flex_model.specs.declared.answer.Answer.{Answer}
use Rattle.flex_model.specs.declared.answer.Pair.{Pair}
use Rattle.flex_model.specs.declared.answer.Triple.{Triple}
use Rattle.flex_model.specs.declared.moment.Deadline.{Deadline}
use Rattle.flex_model.specs.declared.place.Place.{Place}
use Rattle.flex_model.specs.declared.ride.Ride.{Ride}
use Rattle.booking_rules.specs.Departures.{later}
use Rattle.flex_model.specs.Booking.{IsDeadline}
use Rattle.flex_model.specs.Deadline.{IsNoLater, lesser}
use Rattle.flex_model.specs.Answer.{triples}
use Rattle.flex_model.specs.Journey.{limit}
use Rattle.flex_model.specs.LabelTable.{IsHeld, IsHeldByLabel, Label, pair_of}
use Rattle.flex_model.specs.Triple.{CoversPair, pair_of_triple}
use Rattle.flex_model.proofs.Bounds.{deadlines_in_time}
use Rattle.flex_model.proofs.Certificates.{ride_forwards}
use Rattle.flex_model.proofs.Found.{All-from_contains, Contains-at}
use Rattle.flex_model.proofs.Orders.{CoversPair_trans, IsNoLater-lesser, IsNoLater_trans, lesser_left, lesser_right}
use Rattle.ride_index.specs.declared.active_days.ActiveDays.{ActiveDays}
use Rattle.ride_index.specs.declared.offered_run.OfferedRun.{OfferedRun}
use Rattle.ride_index.specs.OfferedRuns.{AreOfferedFrom, IsWantedRide, nth_deadline, nth_ride}
use Rattle.bound_cert.specs.Parts.{told_label, told_rounds}
use Rattle.cert_check.specs.Labels.{IsHeldAmong, labels_of}
use Rattle.cert_check.specs.Modest.{IsModest}
use Rattle.cert_check.specs.Tasks.{CanBeTaken, CoversLater, IsCoveredFrom, IsHeldIn, IsNthHeld, IsRideHeld, IsSoundTask, IsUnheldFrom, IsUnheldOfAny, pair_after, wanted_from}
use Rattle.cert_check.proofs.LabelTables.{in_table, listed}

-- ---- held pairs

pub held_weaker : (printed : List Triple) (rounds : List (List Label)) (place : Place) (pair other : Pair) (k : ℕ) → CoversPair pair other
    → IsHeld printed rounds place pair k → IsHeld printed rounds place other k
held_weaker printed rounds place pair other k covers (inl held) = inl (record {
  round = held.round;
  label = held.label;
  in_round = held.in_round;
  early = held.early;
  at_place = held.at_place;
  covers = CoversPair_trans (pair_of held.label) pair other held.covers covers;
})
held_weaker printed rounds place pair other k covers (inr held) = inr (record {
  triple = held.triple;
  is_printed = held.is_printed;
  few = held.few;
  covers = CoversPair_trans (pair_of_triple held.triple) pair other held.covers covers;
})

-- what labels hold is what the table holds, if they are the part's
module _ (part : CertPart) (labels : List RoundLabel) (same : (label : RoundLabel) → Contains labels label ↔ Contains (labels_of part) label)
    (place : Place) (pair : Pair) (k : ℕ) where
  pub held_in_table : IsHeldAmong labels place pair k → IsHeldByLabel (told_rounds part) place pair k
  held_in_table held = record {
    round = held.label.round;
    label = told_label held.label.label;
    in_round = in_table part held.label ((same held.label).0 held.among);
    early = held.early;
    at_place = held.at_place;
    covers = held.covers;
  }

  pub held_among : IsHeldByLabel (told_rounds part) place pair k → IsHeldAmong labels place pair k
  held_among held =
      let its = listed part held.round held.label held.in_round in
      record {
        label = its.its;
        among = (same its.its).1 (Contains-at (labels_of part) its.number its.its its.at_number);
        early = (let e = its.round in let le = held.early in omega arith);
        at_place = ap (λ (l : Label). l.place) its.same ∙ held.at_place;
        covers = subst (λ l. CoversPair (pair_of l) pair) (sym its.same) held.covers;
      }

-- ---- offered rides

-- what is asked for stays right where an answer lowers it
pub lowered_again : (answers : List Answer) (boarded : Boarded) (limit before after : ℤ) (i : ℕ) (dummy : Answer) → i < length answers
    → (before ≤ℤ limit) × ((before ≡ limit) ⊎ IsCoveredFrom (triples answers) boarded before) → after ≤ℤ before
    → (after ≡ before) ⊎ (CoversLater (get_or answers i dummy).triple boarded × (get_or answers i dummy).triple.arrival ≤ℤ after)
    → (after ≤ℤ limit) × ((after ≡ limit) ⊎ IsCoveredFrom (triples answers) boarded after)
lowered_again answers boarded limit before after i dummy lt (low, late) le (inl same) =
    subst (λ m. (m ≤ℤ limit) × ((m ≡ limit) ⊎ IsCoveredFrom (triples answers) boarded m)) (sym same) (low, late)
lowered_again answers boarded limit before after i dummy lt (low, late) le (inr (covers, arrives)) = (
  omega (arith, ints),
  inr (record {
    triple = (get_or answers i dummy).triple;
    is_printed = Contains-at (triples answers) i (get_or answers i dummy).triple
        (slice_get-map (λ (a : Answer). a.triple) answers i ∙ ap (option_map (λ (a : Answer). a.triple)) (slice_get-get_or answers i dummy lt));
    covers = covers;
    arrives = arrives;
  }),
)

-- a ride that arrives later than what an answer covers is held
pub held_later : (task : Task) (boarded : Boarded) (latest : ℤ) (ride : Ride) (deadline : Deadline)
    → IsCoveredFrom (triples task.part.now.answers) boarded latest → latest ≤ℤ ride.arrives → IsRideHeld task boarded ride deadline
held_later task boarded latest ride deadline held late = inr (record {
  triple = held.triple;
  is_printed = held.is_printed;
  few = held.covers.transfers;
  covers = record {
    deadline = IsNoLater_trans (lesser boarded.deadline deadline) boarded.deadline held.triple.deadline (lesser_left boarded.deadline deadline) held.covers.deadline;
    arrival = (let a : held.triple.arrival ≤ℤ latest = held.arrives in omega (arith, ints));
    walk = held.covers.walk;
  };
})

-- a ride that can be taken and arrives by the latest moment is wanted
pub wanted_ride : (task : Task) (active : Bor ActiveDays) (place : Place) (earliest latest : ℤ) (ride : Ride) (deadline : Deadline)
    → ride.arrives ≤ℤ latest
    → CanBeTaken task place earliest ride deadline → IsWantedRide (wanted_from task active place earliest latest) ride deadline
wanted_ride task active place earliest latest ride deadline in_time can = record {
  permitted = can.on_the_way.usable.permitted;
  bookable = can.on_the_way.usable.bookable;
  booked = can.on_the_way.booked;
  boards = can.boards;
  alights = can.on_the_way.alights;
  leaves = can.leaves;
  arrives = in_time;
}

pub ride_wanted : (task : Task) (active : Bor ActiveDays) (place : Place) (earliest latest : ℤ) (ride : Ride) (deadline : Deadline)
    → latest ≤ℤ limit task.query.now
    → IsWantedRide (wanted_from task active place earliest latest) ride deadline → CanBeTaken task place earliest ride deadline
ride_wanted task active place earliest latest ride deadline low wanted = record {
  on_the_way = record {
    usable = record { permitted = wanted.permitted; bookable = wanted.bookable };
    booked = wanted.booked;
    alights = wanted.alights;
    arrives = (let a : ride.arrives ≤ℤ latest = wanted.arrives in omega (arith, ints));
  };
  boards = wanted.boards;
  leaves = wanted.leaves;
}

-- the moments of a ride that can be taken can be held by the code's numbers
pub modest : (task : Task) → IsSoundTask task → (place : Place) (earliest : ℤ) (run : OfferedRun) (k : ℕ)
    → CanBeTaken task place earliest (nth_ride run k) (nth_deadline run k) → IsModest run k
modest task sound place earliest run k can =
    let query = task.query.now in
    let way = can.on_the_way in
    let ride : Ride = nth_ride run k in
    let depart = sound.query.depart.high in
    let horizon = sound.query.horizon in
    let arrives : ride.arrives ≤ℤ pos 30000000000 = (let a : ride.arrives ≤ℤ (query.depart +ℤ pos (60 * query.horizon)) = way.arrives in omega (arith, ints)) in
    let forwards : ride.departs ≤ℤ ride.arrives = ride_forwards task.feed.now task.times.now task.days.now ride sound.feed way.usable.permitted in
    let departs : ride.departs ≤ℤ pos 30000000000 = omega (arith, ints) in
    record {
      departs = departs;
      arrives = arrives;
      booked = λ moment e.
          let late = (deadlines_in_time task.feed.now task.days.now ride query.now moment way.usable.bookable
          (subst (IsDeadline task.feed.now task.days.now ride) e way.booked)).1 in
          omega (arith, ints);
    }

-- the first rides of a run and one more are held
pub one_more_held : (task : Task) (boarded : Boarded) (run : OfferedRun) (n : ℕ) → ((k : ℕ) → k < n → IsNthHeld task boarded run k)
    → IsNthHeld task boarded run n → (k : ℕ) → k < n + 1 → IsNthHeld task boarded run k
one_more_held task boarded run n all here k lt = elim (cases_order k n) [
  | inl same ↦ subst (IsNthHeld task boarded run) (sym same) here
  | inr (inl before) ↦ all k before
  | inr (inr after) ↦ absurd (omega arith)
]

-- if no later ride of the run can be booked later, each one is held with the last of these
pub rest_held : (task : Task) (boarded : Boarded) (run : OfferedRun) (n : ℕ) → ((k : ℕ) → k < n → IsNthHeld task boarded run k)
    → IsNthHeld task boarded run n
    → IsNoLater (lesser boarded.deadline run.latest) (lesser boarded.deadline (nth_deadline run n))
    → (k : ℕ) → IsNthHeld task boarded run k
rest_held task boarded run n all here last k = elim (cases_lt k (n + 1)) [
  | inl before ↦ one_more_held task boarded run n all here k before
  | inr after ↦ (
      let least : Deadline = boarded.deadline in
      let late : Deadline = nth_deadline run k in
      held_weaker _ _ run.ride.alight (pair_after boarded (nth_ride run n) (nth_deadline run n)) (pair_after boarded (nth_ride run k) late) boarded.round
      (record {
        deadline = IsNoLater_trans (lesser least late) (lesser least run.latest) (lesser least (nth_deadline run n))
            (IsNoLater-lesser (lesser least late) least run.latest (lesser_left least late)
            (IsNoLater_trans (lesser least late) late run.latest (lesser_right least late) (lesser_right (later run.closes (60 * k)) run.latest)))
            last;
        arrival = omega (arith, ints);
        walk = omega arith;
      })
      here)
]

module _ (task : Task) (sound : IsSoundTask task) (active : Bor ActiveDays) (boarded : Boarded) (place : Place) (earliest latest : ℤ) (runs : List OfferedRun)
    (low : latest ≤ℤ limit task.query.now) (late : (latest ≡ limit task.query.now) ⊎ IsCoveredFrom (triples task.part.now.answers) boarded latest)
    (are : AreOfferedFrom (wanted_from task active place earliest latest) runs) where
  pub runs_modest : All (λ run. (k : ℕ) → k < run.count → IsModest run k) runs
  runs_modest = All-from_contains (λ run. (k : ℕ) → k < run.count → IsModest run k) runs (λ run c k lt.
      modest task sound place earliest run k (ride_wanted task active place earliest latest (nth_ride run k) (nth_deadline run k) low (are.each run k c lt)))

  -- a ride that is covered by a held one is held
  covered_held : All (λ run. (k : ℕ) → k < run.count → IsNthHeld task boarded run k) runs
      → (ride : Ride) (deadline : Deadline) → CanBeTaken task place earliest ride deadline → ride.arrives ≤ℤ latest → IsRideHeld task boarded ride deadline
  covered_held all ride deadline can in_time =
      let found = are.whole ride deadline (wanted_ride task active place earliest latest ride deadline in_time can) in
      let run : OfferedRun = found.run in
      let least : Deadline = boarded.deadline in
      let late : Deadline = nth_deadline run found.at in
      let covers : CoversPair (pair_after boarded (nth_ride run found.at) late) (pair_after boarded ride deadline) = record {
        deadline = IsNoLater-lesser (lesser least deadline) least late (lesser_left least deadline)
            (IsNoLater_trans (lesser least deadline) deadline late (lesser_right least deadline) found.booked);
        arrival = found.arrives;
        walk = omega arith;
      } in
      let held : IsNthHeld task boarded run found.at = All-contains (λ run. (k : ℕ) → k < run.count → IsNthHeld task boarded run k) runs run all found.among found.at found.low in
      subst (λ p. IsHeldIn task p (pair_after boarded ride deadline) boarded.round) found.alights
      (held_weaker _ _ run.ride.alight (pair_after boarded (nth_ride run found.at) late) (pair_after boarded ride deadline) boarded.round covers held)

  ride_held : All (λ run. (k : ℕ) → k < run.count → IsNthHeld task boarded run k) runs
      → (ride : Ride) (deadline : Deadline) → CanBeTaken task place earliest ride deadline → IsRideHeld task boarded ride deadline
  ride_held all ride deadline can = elim late [
    | inl same ↦ covered_held all ride deadline can (subst (λ m. ride.arrives ≤ℤ m) (sym same) can.on_the_way.arrives)
    | inr held ↦ by_lt_z latest ride.arrives
        (λ lt. held_later task boarded latest ride deadline held (omega (arith, ints)))
        (λ le. covered_held all ride deadline can le)
  ]

  pub unheld_of_offers : (found : Option Ride) → IsUnheldOfAny task boarded runs found → IsUnheldFrom task boarded place earliest found
  unheld_of_offers None all = λ ride deadline can. ride_held all ride deadline can
  unheld_of_offers (Some ride) of =
      let run : OfferedRun = of.0 in
      let k : ℕ = of.2.0 in
      let can = ride_wanted task active place earliest latest (nth_ride run k) (nth_deadline run k) low (are.each run k of.1 of.2.1) in (
        nth_deadline run k,
        subst (λ r. CanBeTaken task place earliest r (nth_deadline run k)) (sym of.2.2) can,
        subst (λ r. IsRideHeld task boarded r (nth_deadline run k) → ⊥) (sym of.2.2) of.2.3,
      )
