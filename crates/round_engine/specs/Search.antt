-- A search by rounds: what stands after some of its rounds, and what one more round adds.
--
-- This project's own.
use Rattle.std.specs.Prelude.{◌≡◌, ◌⊎◌, ◌↔◌, ℕ, ◌+◌, ◌<◌, ◌≤◌, pos, ◌+ℤ◌, ◌≤ℤ◌, List, [], ◌∷◌, ◌++◌, Contains, AllPairs, length, slice_get}
use Rattle.std.specs.Prelude.{Some}
use Rattle.flex_model.specs.declared.answer.Triple.{Triple}
use Rattle.flex_model.specs.declared.feed.Feed.{Feed}
use Rattle.flex_model.specs.declared.moment.DayTable.{DayTable}
use Rattle.flex_model.specs.declared.moment.Deadline.{Deadline}
use Rattle.flex_model.specs.declared.query.Query.{Query}
use Rattle.flex_model.specs.declared.ride.Ride.{Ride}
use Rattle.flex_model.specs.declared.times.Times.{Times}
use Rattle.flex_model.specs.Answer.{IsParetoBest}
use Rattle.flex_model.specs.Change.{HasEgress}
use Rattle.flex_model.specs.Journey.{Attains, StartsOnFoot, limit}
use Rattle.flex_model.specs.LabelTable.{IsAttained, IsClosed, IsHeld, IsInRound, IsOnTheWay, Label, LeadsTo, first_pair, next_pair, triple_of}
use Rattle.flex_model.specs.SoundFeed.{IsSoundFeed}
use Rattle.flex_model.specs.Triple.{Covers, IsTripleBefore}

-- each triple of the one list is covered by one of the other
abbrev pub IsImproved : List Triple → List Triple → Type 0
IsImproved old better = (triple : Triple) → Contains old triple
    → (other : Triple) × Contains better other × Covers other triple

module _ (feed : Feed) (times : Times) (days : DayTable) (query : Query) where
  -- What a search has after some of its rounds, with the finals so far.
  pub record IsSearched (finals : List Triple) (rounds : List (List Label)) : Type 0 where
    -- a ride from the origin is held in round 1
    pub first : (ride : Ride) (deadline : Deadline) (walk : ℕ) → 0 < length rounds
        → IsOnTheWay feed times days query ride deadline → StartsOnFoot times query ride walk
        → IsHeld finals rounds ride.alight (first_pair ride deadline walk) 1
    -- a ride after a label of a round before the last one is held in the next round
    pub next : (k : ℕ) (label : Label) (ride : Ride) (deadline : Deadline) (walk : ℕ)
        → IsInRound rounds k label → k < length rounds
        → IsOnTheWay feed times days query ride deadline → LeadsTo feed query label ride walk
        → IsHeld finals rounds ride.alight (next_pair label ride deadline walk) (k + 1)
    -- a label from which the destination is reached in time is covered by a final
    pub last : (k : ℕ) (label : Label) (seconds : ℕ) → IsInRound rounds k label
        → HasEgress times query label.place seconds
        → (label.arrival +ℤ pos seconds) ≤ℤ limit query
        → (triple : Triple) × Contains finals triple
        × Covers triple (triple_of query label seconds k)
    pub attained : (k : ℕ) (label : Label) → IsInRound rounds k label
        → IsAttained feed times days query k label
    pub journeys : (triple : Triple) → Contains finals triple
        → (rides : List Ride) × Attains feed times days query rides triple

  -- The labels can follow the rounds as one more round: they are attained, and what rides lead to is held.
  pub record IsNextRound (finals : List Triple) (rounds : List (List Label)) (labels : List Label)
      : Type 0 where
    pub first : (ride : Ride) (deadline : Deadline) (walk : ℕ) → length rounds ≡ 0
        → IsOnTheWay feed times days query ride deadline → StartsOnFoot times query ride walk
        → IsHeld finals (rounds ++ labels ∷ []) ride.alight (first_pair ride deadline walk) 1
    pub next : (label : Label) (ride : Ride) (deadline : Deadline) (walk : ℕ)
        → IsInRound rounds (length rounds) label
        → IsOnTheWay feed times days query ride deadline → LeadsTo feed query label ride walk
        → IsHeld finals (rounds ++ labels ∷ []) ride.alight (next_pair label ride deadline walk)
        (length rounds + 1)
    pub attained : (label : Label) → Contains labels label
        → IsAttained feed times days query (length rounds + 1) label

  -- The finals take the labels of round k in: each one that ends in time is covered, and none comes from
  -- elsewhere.
  pub record AreFinalsWith (finals : List Triple) (k : ℕ) (labels : List Label)
      (better : List Triple) : Type 0 where
    pub improved : IsImproved finals better
    pub covered : (label : Label) (seconds : ℕ) → Contains labels label
        → HasEgress times query label.place seconds
        → (label.arrival +ℤ pos seconds) ≤ℤ limit query
        → (triple : Triple) × Contains better triple
        × Covers triple (triple_of query label seconds k)
    pub attained : (triple : Triple) → Contains better triple → Contains finals triple
        ⊎ ((rides : List Ride) × Attains feed times days query rides triple)

-- no triple of the list covers another one
abbrev pub AreTriplesApart : List Triple → Type 0
AreTriplesApart finals = (i j : ℕ) (a b : Triple) → slice_get finals i ≡ Some a
    → slice_get finals j ≡ Some b → Covers a b → i ≡ j

-- A search begins with no rounds.
abbrev pub SearchesBegin : Type 0
SearchesBegin = (feed : Feed) (times : Times) (days : DayTable) (query : Query)
    → IsSearched feed times days query [] []

-- One more round, taken into the finals, keeps a search a search.
abbrev pub SearchesGoOn : Type 0
SearchesGoOn = (feed : Feed) (times : Times) (days : DayTable) (query : Query)
    (finals better : List Triple) (rounds : List (List Label)) (labels : List Label)
    → IsSoundFeed feed → length rounds ≤ query.transfers
    → IsSearched feed times days query finals rounds
    → IsNextRound feed times days query better rounds labels
    → AreFinalsWith feed times days query finals (length rounds + 1) labels better
    → IsSearched feed times days query better (rounds ++ labels ∷ [])

-- After all rounds the table is closed, and the finals are just the Pareto-best triples.
abbrev pub SearchesEnd : Type 0
SearchesEnd = (feed : Feed) (times : Times) (days : DayTable) (query : Query)
    (finals : List Triple) (rounds : List (List Label)) → IsSoundFeed feed
    → length rounds ≡ query.transfers + 1 → IsSearched feed times days query finals rounds
    → AllPairs IsTripleBefore finals → AreTriplesApart finals
    → IsClosed feed times days query finals rounds
    × ((triple : Triple) → Contains finals triple ↔ IsParetoBest feed times days query triple)
