-- What is checked, and what is looked up for it. This project's own.
use Rattle.std.specs.Prelude.{◌≡◌, ◌↔◌, ℕ, ◌<◌, ◌≤◌, ℤ, ◌≤ℤ◌, false, List, Option, Some, None, All, AllPairs, Contains}
use Rattle.std.specs.Borrow.{Bor}
use Rattle.std.specs.Ordering.{is_lt}
use Rattle.cert_check.specs.declared.labels.RoundLabel.{RoundLabel}
use Rattle.cert_check.specs.declared.made.Boarded.{Boarded}
use Rattle.cert_check.specs.declared.made.Made.{Made}
use Rattle.cert_check.specs.declared.reason.Reason.{Reason}
use Rattle.cert_check.specs.declared.task.Lookups.{Lookups}
use Rattle.cert_check.specs.declared.task.Task.{Task}
use Rattle.flex_model.specs.declared.answer.Pair.{Pair}
use Rattle.flex_model.specs.declared.answer.Triple.{Triple}
use Rattle.flex_model.specs.declared.moment.Deadline.{Deadline}
use Rattle.flex_model.specs.declared.place.Place.{Place}
use Rattle.flex_model.specs.declared.ride.Ride.{Ride}
use Rattle.flex_model.specs.Answer.{triples}
use Rattle.flex_model.specs.Deadline.{IsNoLater, lesser}
use Rattle.flex_model.specs.Journey.{limit}
use Rattle.flex_model.specs.LabelTable.{IsHeld, IsOnTheWay}
use Rattle.flex_model.specs.Place.{place_cmp}
use Rattle.flex_model.specs.SoundFeed.{IsSoundFeed}
use Rattle.flex_model.specs.SoundQuery.{IsSoundDayTable, IsSoundQuery}
use Rattle.flex_model.specs.SoundTimes.{AreSoundTimes}
use Rattle.ride_index.specs.declared.active_days.ActiveDays.{ActiveDays}
use Rattle.ride_index.specs.declared.offered_run.OfferedRun.{OfferedRun}
use Rattle.ride_index.specs.declared.wanted.Wanted.{Wanted}
use Rattle.ride_index.specs.ActiveDays.{AreActiveDays}
use Rattle.ride_index.specs.Index.{IsIndexOf}
use Rattle.ride_index.specs.OfferedRuns.{nth_deadline, nth_ride}
use Rattle.bound_cert.specs.Parts.{told_rounds}
use Rattle.cert_check.specs.Labels.{labels_of}
use Rattle.cert_check.specs.Reasons.{IsFirstOfKind, IsFirstReason, Passes, kind}

-- all that is checked is sound; of the part nothing is asked
pub record IsSoundTask (task : Task) : Type 0 where
  pub feed : IsSoundFeed task.feed.now
  pub times : AreSoundTimes task.feed.now task.times.now
  pub days : IsSoundDayTable task.days.now
  pub query : IsSoundQuery task.feed.now task.times.now task.query.now

-- the first of the tests of the kind that the part fails, if there is one
abbrev pub IsFound : Task → ℕ → Option Reason → Type 0
IsFound task k found =
    IsFirstOfKind task.feed.now task.times.now task.days.now task.query.now task.part.now k found

-- the labels stand in the order of their places
abbrev pub AreByPlace : List RoundLabel → Type 0
AreByPlace labels =
    AllPairs (λ a b. is_lt (place_cmp b.label.place a.label.place) ≡ false) labels

-- what is looked up is that of the task's feed, days and part
pub record AreLookupsOf (task : Task) (lookups : Lookups) : Type 0 where
  pub index : IsIndexOf task.feed.now lookups.index.now
  pub active : AreActiveDays task.feed.now task.days.now lookups.active.now
  pub by_place : AreByPlace lookups.labels.now
  pub labels : (label : RoundLabel) → Contains lookups.labels.now label
      ↔ Contains (labels_of task.part.now) label

-- the pair that is asked for
abbrev pub pair_of_made : Made → Pair
pair_of_made made =
    record { deadline = made.deadline; arrival = made.arrival; walk = made.walk }

-- the pair is held at the place in round k, by a label or an answer of the part
abbrev pub IsHeldIn : Task → Place → Pair → ℕ → Type 0
IsHeldIn task place pair k =
    IsHeld (triples task.part.now.answers) (told_rounds task.part.now) place pair k

-- the pair that a ride with the deadline makes of what is boarded
abbrev pub pair_after : Boarded → Ride → Deadline → Pair
pair_after boarded ride deadline = record {
  deadline = lesser boarded.deadline deadline;
  arrival = ride.arrives;
  walk = boarded.walk;
}

-- what the ride with the deadline makes of what is boarded is held
abbrev pub IsRideHeld : Task → Boarded → Ride → Deadline → Type 0
IsRideHeld task boarded ride deadline =
    IsHeldIn task ride.alight (pair_after boarded ride deadline) boarded.round

-- the ride is on the way, is boarded at the place, and leaves at the moment or later
pub record CanBeTaken (task : Task) (place : Place) (earliest : ℤ) (ride : Ride)
    (deadline : Deadline) : Type 0 where
  pub on_the_way : IsOnTheWay task.feed.now task.times.now task.days.now task.query.now
      ride deadline
  pub boards : ride.board ≡ place
  pub leaves : earliest ≤ℤ ride.departs

-- The triple covers each pair that arrives no earlier than it and that a ride in this round makes of what is boarded.
pub record CoversLater (triple : Triple) (boarded : Boarded) : Type 0 where
  pub deadline : IsNoLater boarded.deadline triple.deadline
  pub walk : triple.walk ≤ boarded.walk
  pub transfers : triple.transfers < boarded.round

-- a printed triple that arrives by the moment covers what arrives at it or later
pub record IsCoveredFrom (printed : List Triple) (boarded : Boarded) (moment : ℤ) : Type 0 where
  pub triple : Triple
  pub is_printed : Contains printed triple
  pub covers : CoversLater triple boarded
  pub arrives : triple.arrival ≤ℤ moment

-- the rides that are wanted from the place, where one can be at the moment, and that arrive by the latest one
abbrev pub wanted_from : Task → Bor ActiveDays → Place → ℤ → ℤ → Wanted
wanted_from task active place earliest latest = record {
  feed = task.feed;
  times = task.times;
  days = task.days;
  active = active;
  asked = task.query.now.now;
  destination = task.query.now.destination;
  place = place;
  earliest = earliest;
  limit = latest;
}

-- the ride of the run with this number, counted from 0, can be taken
abbrev pub IsRunTaken : Task → Place → ℤ → OfferedRun → ℕ → Type 0
IsRunTaken task place earliest run k =
    CanBeTaken task place earliest (nth_ride run k) (nth_deadline run k)

-- what it makes of what is boarded is held
abbrev pub IsNthHeld : Task → Boarded → OfferedRun → ℕ → Type 0
IsNthHeld task boarded run k = IsRideHeld task boarded (nth_ride run k) (nth_deadline run k)

-- the first ride of the run that isn't held, or none where each is held
abbrev pub IsUnheldOf : Task → Boarded → OfferedRun → Option Ride → Type 0
IsUnheldOf task boarded run None = (k : ℕ) → k < run.count → IsNthHeld task boarded run k
IsUnheldOf task boarded run (Some ride) =
    (k : ℕ) × (k < run.count) × (ride ≡ nth_ride run k) × (IsNthHeld task boarded run k → ⊥)

-- a ride that can be taken and isn't held, or none where each is held
abbrev pub IsUnheldFrom : Task → Boarded → Place → ℤ → Option Ride → Type 0
IsUnheldFrom task boarded place earliest None =
    (ride : Ride) (deadline : Deadline) → CanBeTaken task place earliest ride deadline
    → IsRideHeld task boarded ride deadline
IsUnheldFrom task boarded place earliest (Some ride) =
    (deadline : Deadline) × CanBeTaken task place earliest ride deadline
    × (IsRideHeld task boarded ride deadline → ⊥)

-- a ride of one of the runs that isn't held, or none where each is held
abbrev pub IsUnheldOfAny : Task → Boarded → List OfferedRun → Option Ride → Type 0
IsUnheldOfAny task boarded runs None = All (λ run. IsUnheldOf task boarded run None) runs
IsUnheldOfAny task boarded runs (Some ride) =
    (run : OfferedRun) × Contains runs run × IsUnheldOf task boarded run (Some ride)

-- the first of the tests of the kinds below this one that the part fails, if there is one
abbrev pub IsFoundBelow : Task → ℕ → Option Reason → Type 0
IsFoundBelow task k None = (reason : Reason) → kind reason < k
    → Passes task.feed.now task.times.now task.days.now task.query.now task.part.now reason
IsFoundBelow task k (Some reason) =
    IsFirstReason task.feed.now task.times.now task.days.now task.query.now task.part.now reason
