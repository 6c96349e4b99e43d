-- Labels and ends that a search attains, and boardings from which it goes on.
--
-- A label of round k is attained where its rides are k, and are a partial journey that ends at its place
-- with its pair. An end is a label from which the destination is reached in time, with the pair there. A
-- boarding after round k is a place, a moment and a walk with which one can be there, coming from an
-- attained label of round k or, before the first ride, from the origin. This project's own.
use Rattle.std.specs.Prelude.{◌≡◌, ◌⊎◌, ℕ, ◌+◌, ◌*◌, ◌≤◌, ℤ, pos, ◌+ℤ◌, ◌≤ℤ◌, Option, Some, None, List, All, Contains, length}
use Rattle.std.specs.Borrow.{Bor}
use Rattle.flex_model.specs.declared.answer.Pair.{Pair}
use Rattle.flex_model.specs.declared.place.Place.{Place}
use Rattle.flex_model.specs.declared.place.Place.TheVariants.{Stop, Point}
use Rattle.flex_model.specs.declared.query.Query.{Query}
use Rattle.flex_model.specs.Change.{HasAccess, HasChange, HasEgress}
use Rattle.flex_model.specs.Journey.{Reaches, change_walk, counted, limit}
use Rattle.flex_model.specs.LabelTable.{IsOnTheWay}
use Rattle.flex_model.specs.SoundFeed.{IsSoundFeed}
use Rattle.flex_model.specs.SoundQuery.{IsDayTableOf, IsSoundDayTable, IsSoundQuery}
use Rattle.flex_model.specs.SoundTimes.{AreSoundTimes}
use Rattle.round_engine.specs.declared.boarding.Boarding.{Boarding}
use Rattle.round_engine.specs.declared.label.Label.{Label}
use Rattle.round_engine.specs.declared.offer.Offer.{Offer}
use Rattle.round_engine.specs.declared.task.Task.{Task}
use Rattle.round_engine.specs.Bags.{BagsGrow, Entry, GainsAtLast, IsKept, IsKeptByAny, IsKeptInAny, IsPruned, bag_at}
use Rattle.round_engine.specs.Chain.{pair_of, place_of, rides_of, round_of}
use Rattle.round_engine.specs.Offers.{LeavesFrom}

-- the number of a place: that of the stop, and the number of stops for the destination, where it is a point
abbrev pub number_of : ℕ → Place → ℕ
number_of stops (Stop s) = s
number_of stops (Point p) = stops

-- the pair at the destination, so many seconds later: they count as a walk where the query asks for it
abbrev pub ended : Query → Pair → ℕ → Pair
ended query pair seconds = record {
  deadline = pair.deadline;
  arrival = pair.arrival +ℤ pos seconds;
  walk = pair.walk + counted query seconds;
}

-- all that is searched is sound
pub record IsSoundTask (task : Task) : Type 0 where
  pub feed : IsSoundFeed task.feed.now
  pub times : AreSoundTimes task.feed.now task.times.now
  pub days : IsSoundDayTable task.days.now
  pub of_query : IsDayTableOf task.query.now task.days.now
  pub query : IsSoundQuery task.feed.now task.times.now task.query.now

-- sums of the label's moment and walk with seconds can be held by the code's numbers
pub record IsInTime (task : Task) (label : Label) : Type 0 where
  pub arrival : (pair_of label).arrival ≤ℤ limit task.query.now
  pub walk : (pair_of label).walk ≤ 86400 * round_of label

module _ (task : Task) where
  pub record IsLabel (k : ℕ) (label : Label) : Type 0 where
    pub round : round_of label ≡ k
    pub count : length (rides_of label) ≡ k
    pub reaches : Reaches task.feed.now task.times.now task.days.now task.query.now
        (rides_of label) (place_of label) (pair_of label)

  -- a pair with its label of round k, at the number of its place
  pub record IsEntry (k i : ℕ) (entry : Entry) : Type 0 where
    pub label : IsLabel k entry.1.now
    pub pair : pair_of entry.1.now ≡ entry.0
    pub number : number_of (length task.feed.now.stops) (place_of entry.1.now) ≡ i

  -- a pair at the destination with its label of round k
  pub record IsEnd (k : ℕ) (entry : Entry) : Type 0 where
    pub label : IsLabel k entry.1.now
    pub seconds : ℕ
    pub egress : HasEgress task.times.now task.query.now (place_of entry.1.now) seconds
    pub pair : entry.0 ≡ ended task.query.now (pair_of entry.1.now) seconds
    pub in_time : ((pair_of entry.1.now).arrival +ℤ pos seconds) ≤ℤ limit task.query.now

  -- one can be at the place at the moment with this walk, coming from the label of round k or the origin
  abbrev pub ComesFrom : ℕ → Option (Bor Label) → Place → ℤ → ℕ → Type 0
  ComesFrom k None place moment walk =
      (k ≡ 0) × (seconds : ℕ) × HasAccess task.times.now task.query.now place seconds
      × ((task.query.now.depart +ℤ pos seconds) ≤ℤ moment)
      × (walk ≡ counted task.query.now seconds)
  ComesFrom k (Some label) place moment walk =
      IsLabel k label.now × (seconds : ℕ)
      × HasChange task.feed.now (place_of label.now) place seconds
      × (((pair_of label.now).arrival +ℤ pos seconds) ≤ℤ moment)
      × (walk ≡ (pair_of label.now).walk
      + counted task.query.now (change_walk (place_of label.now) place seconds))

  abbrev pub IsBoarding : ℕ → Boarding → Type 0
  IsBoarding k boarding =
      ComesFrom k boarding.parent boarding.place boarding.earliest boarding.walk

  -- the offer is a ride on the way that the boarding reaches
  pub record IsOfferFrom (boarding : Boarding) (offer : Offer) : Type 0 where
    pub on_the_way : IsOnTheWay task.feed.now task.times.now task.days.now task.query.now
        offer.ride offer.deadline
    pub leaves : LeavesFrom boarding.place boarding.earliest offer.ride

  -- What stands while a round goes on: its labels and the ends so far are attained, labels from which the
  -- destination is reached in time have an end that is as good, and none is covered by an end of fewer rides.
  pub record IsRoundState (earlier : List (List (List Entry))) (round ends : List (List Entry))
      : Type 0 where
    pub widths : All (λ these. length these ≡ length task.feed.now.stops + 1) earlier
    pub width : length round ≡ length task.feed.now.stops + 1
    pub count : length ends ≡ length earlier + 1
    pub few : length earlier ≤ task.query.now.transfers
    pub labels : (i : ℕ) (entry : Entry) → Contains (bag_at round i) entry
        → IsEntry (length earlier + 1) i entry
    pub ended_in_time : (i seconds : ℕ) (entry : Entry) → Contains (bag_at round i) entry
        → HasEgress task.times.now task.query.now (place_of entry.1.now) seconds
        → (entry.0.arrival +ℤ pos seconds) ≤ℤ limit task.query.now
        → IsKeptByAny ends (ended task.query.now entry.0 seconds)
    pub ends_are : (t : ℕ) (entry : Entry) → Contains (bag_at ends t) entry → IsEnd (t + 1) entry
    pub pruned : (i : ℕ) → IsPruned (length earlier) (bag_at round i) ends

  -- the state after some work on a round
  pub record IsStep (earlier : List (List (List Entry)))
      (round ends round' ends' : List (List Entry)) : Type 0 where
    pub state : IsRoundState earlier round' ends'
    pub round_grows : BagsGrow round round'
    pub ends_grow : BagsGrow ends ends'
    pub at_last : GainsAtLast ends ends'

-- the pair is held at the place by the round, the ends or an earlier round
abbrev pub IsHeldNow : List (List (List Entry)) → List (List Entry) → List (List Entry) → ℕ
    → Pair → Type 0
IsHeldNow earlier round ends at pair =
    IsKept (bag_at round at) pair ⊎ (IsKeptByAny ends pair ⊎ IsKeptInAny earlier at pair)

-- each end is attained
abbrev pub AreEnds : Task → List (List Entry) → Type 0
AreEnds task ends = (t : ℕ) (entry : Entry) → Contains (bag_at ends t) entry
    → IsEnd task (t + 1) entry

-- where the destination is reached in time from the label, an end is as good
abbrev pub IsEndKept : Task → Label → List (List Entry) → Type 0
IsEndKept task label ends = (seconds : ℕ)
    → HasEgress task.times.now task.query.now (place_of label) seconds
    → ((pair_of label).arrival +ℤ pos seconds) ≤ℤ limit task.query.now
    → IsKeptByAny ends (ended task.query.now (pair_of label) seconds)

-- the pair at the destination, coming from the label, if it is reached in time
abbrev pub IsEndOf : Task → Label → Option Pair → Type 0
IsEndOf task label None = (seconds : ℕ)
    → HasEgress task.times.now task.query.now (place_of label) seconds
    → ((pair_of label).arrival +ℤ pos seconds) ≤ℤ limit task.query.now → ⊥
IsEndOf task label (Some pair) =
    (seconds : ℕ) × HasEgress task.times.now task.query.now (place_of label) seconds
    × (((pair_of label).arrival +ℤ pos seconds) ≤ℤ limit task.query.now)
    × (pair ≡ ended task.query.now (pair_of label) seconds)
    × ((other : ℕ) → HasEgress task.times.now task.query.now (place_of label) other
    → other ≡ seconds)
