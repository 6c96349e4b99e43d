-- What a search has after some rounds. This project's own.
use Rattle.std.specs.Prelude.{◌≡◌, ℕ, ◌+◌, List, All, Contains, length, map}
use Rattle.round_engine.specs.declared.task.Task.{Task}
use Rattle.round_engine.specs.Attained.{AreEnds, IsEntry}
use Rattle.round_engine.specs.Bags.{Entry, IsPruned, bag_at, round_at}
use Rattle.round_engine.specs.Flat.{labels_in, triples_from}
use Rattle.round_engine.specs.Search.{IsSearched}

-- each label of the rounds is attained
abbrev pub AreEntries : Task → List (List (List Entry)) → Type 0
AreEntries task rounds = (r i : ℕ) (entry : Entry) → Contains (bag_at (round_at rounds r) i) entry
    → IsEntry task (r + 1) i entry

-- no label of a round is covered by an end of fewer rides
abbrev pub ArePruned : List (List (List Entry)) → List (List Entry) → Type 0
ArePruned rounds ends = (r i : ℕ) → IsPruned r (bag_at (round_at rounds r) i) ends

-- The rounds so far are closed but for the last one, all labels and ends are attained, and no label is covered by an end of
-- fewer rides.
pub record IsSearchState (task : Task) (rounds : List (List (List Entry)))
    (ends : List (List Entry)) : Type 0 where
  pub searched : IsSearched task.feed.now task.times.now task.days.now task.query.now
      (triples_from 0 ends) (map labels_in rounds)
  pub widths : All (λ these. length these ≡ length task.feed.now.stops + 1) rounds
  pub count : length ends ≡ length rounds
  pub entries : AreEntries task rounds
  pub ends_are : AreEnds task ends
  pub pruned : ArePruned rounds ends
