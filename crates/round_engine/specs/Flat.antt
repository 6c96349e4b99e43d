-- Rounds of bags as lists of labels, and ends as lists of triples. This project's own.
use Rattle.std.specs.Prelude.{◌≡◌, ℕ, suc, ◌+◌, ◌≤◌, ℤ, pos, ◌+ℤ◌, ◌≤ℤ◌, List, [], ◌∷◌, ◌++◌, Contains, map}
use Rattle.flex_model.specs.declared.answer.Triple.{Triple}
use Rattle.flex_model.specs.declared.moment.Deadline.{Deadline}
use Rattle.flex_model.specs.declared.moment.Deadline.TheVariants.{Never}
use Rattle.flex_model.specs.declared.place.Place.{Place}
use Rattle.flex_model.specs.Change.{HasAccess, HasChange}
use Rattle.flex_model.specs.Deadline.{IsNoLater}
use Rattle.flex_model.specs.Journey.{change_walk, counted}
use Rattle.flex_model.specs.LabelTable.{Label}
use Rattle.round_engine.specs.declared.boarding.Boarding.{Boarding}
use Rattle.round_engine.specs.declared.task.Task.{Task}
use Rattle.round_engine.specs.Bags.{Entry, bag_at}
use Rattle.round_engine.specs.Chain.{deadline_up_to, place_of}

abbrev pub label_of : Entry → Label
label_of entry = record {
  place = place_of entry.1.now;
  deadline = entry.0.deadline;
  arrival = entry.0.arrival;
  walk = entry.0.walk;
}

-- the labels of a round, place by place
abbrev pub labels_in : List (List Entry) → List Label
labels_in [] = []
labels_in (bag ∷ bags) = map label_of bag ++ labels_in bags

abbrev pub triple_at : ℕ → Entry → Triple
triple_at transfers entry = record {
  deadline = entry.0.deadline;
  arrival = entry.0.arrival;
  transfers = transfers;
  walk = entry.0.walk;
}

-- the triples of the bags, where the first one has so many transfers
abbrev pub triples_from : ℕ → List (List Entry) → List Triple
triples_from transfers [] = []
triples_from transfers (bag ∷ bags) =
    map (triple_at transfers) bag ++ triples_from (suc transfers) bags

-- one can board at the place by the moment, with no earlier a deadline and no longer a walk
pub record IsBoarded (boardings : List Boarding) (place : Place) (moment : ℤ) (deadline : Deadline)
    (walk : ℕ) : Type 0 where
  pub boarding : Boarding
  pub among : Contains boardings boarding
  pub at_place : boarding.place ≡ place
  pub early : boarding.earliest ≤ℤ moment
  pub booked : IsNoLater deadline (deadline_up_to boarding.parent)
  pub short : boarding.walk ≤ walk

-- the boardings are all that one can reach from the origin
abbrev pub AreFirstBoardings : Task → List Boarding → Type 0
AreFirstBoardings task boardings = (place : Place) (seconds : ℕ)
    → HasAccess task.times.now task.query.now place seconds
    → IsBoarded boardings place (task.query.now.depart +ℤ pos seconds) Never
    (counted task.query.now seconds)

-- the boardings are all that one can reach after the labels of the round
abbrev pub AreNextBoardings : Task → List (List Entry) → List Boarding → Type 0
AreNextBoardings task round boardings = (i : ℕ) (entry : Entry) → Contains (bag_at round i) entry
    → (place : Place) (seconds : ℕ) → HasChange task.feed.now (place_of entry.1.now) place seconds
    → IsBoarded boardings place (entry.0.arrival +ℤ pos seconds) entry.0.deadline
    (entry.0.walk + counted task.query.now (change_walk (place_of entry.1.now) place seconds))
