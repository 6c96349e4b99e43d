-- Bags of the best pairs of a booking deadline, an arrival and a walk.
--
-- A bag rises by arrival, and then by walk, and none of its pairs covers another one. This
-- project's own.
use Rattle.std.specs.Prelude.{◌≡◌, ◌↔◌, ◌++◌, ◌≤◌, ◌<◌, ℕ, ℤ, ◌≤ℤ◌, ◌<ℤ◌, Bool, IsTrue, Option, Some, None, List, All, AllPairs, Contains, length, slice_index_or, take, drop, filter}
use Rattle.flex_model.specs.declared.answer.Pair.{Pair}
use Rattle.flex_model.specs.declared.moment.Deadline.{Deadline}
use Rattle.flex_model.specs.Deadline.{IsNoLater}
use Rattle.flex_model.specs.Triple.{CoversPair, IsPairBefore}

-- a stands before b, and doesn't cover it
pub record IsApart (a b : Pair) : Type 0 where
  pub before : IsPairBefore a b
  pub uncovered : CoversPair a b → ⊥

-- The pairs rise by arrival, and then by walk, and none covers another one: a later one covers none
-- that stands before it.
abbrev pub IsBag : {T : Type 0} → List (Pair × T) → Type 0
IsBag {T} entries = AllPairs (λ a b. IsApart a.0 b.0) entries

-- no pair walks farther
abbrev pub AreWithin : {T : Type 0} → List (Pair × T) → ℕ → Type 0
AreWithin {T} entries longest = All (λ entry. entry.0.walk ≤ longest) entries

pub record IsBagWithin {T : Type 0} (entries : List (Pair × T)) (longest : ℕ) : Type 0 where
  pub apart : IsBag entries
  pub within : AreWithin entries longest

-- one of the pairs covers this one
abbrev pub HasCovering : {T : Type 0} → List (Pair × T) → Pair → Type 0
HasCovering {T} entries pair =
    (entry : Pair × T) × Contains entries entry × CoversPair entry.0 pair

-- So many of the pairs, the first ones, arrive by then.
pub record IsCountByThen {T : Type 0} (entries : List (Pair × T)) (arrival : ℤ)
    (count : ℕ) : Type 0 where
  pub within : count ≤ length entries
  pub before : (k : ℕ) (d : Pair × T) → k < count
      → (slice_index_or entries k d).0.arrival ≤ℤ arrival
  pub behind : (k : ℕ) (d : Pair × T) → count ≤ k → k < length entries
      → arrival <ℤ (slice_index_or entries k d).0.arrival

-- So many of the pairs, the first ones, stand before this one.
pub record IsIndexFor {T : Type 0} (entries : List (Pair × T)) (pair : Pair) (at : ℕ) : Type 0 where
  pub within : at ≤ length entries
  pub before : (k : ℕ) (d : Pair × T) → k < at → IsPairBefore (slice_index_or entries k d).0 pair
  pub behind : (k : ℕ) (d : Pair × T) → at ≤ k → k < length entries
      → IsPairBefore (slice_index_or entries k d).0 pair → ⊥

-- the pair covers none from the index on
abbrev pub AreUncovered : {T : Type 0} → List (Pair × T) → Pair → ℕ → Type 0
AreUncovered {T} entries pair from =
    (k : ℕ) (d : Pair × T) → from ≤ k → k < length entries
    → CoversPair pair (slice_index_or entries k d).0 → ⊥

-- The entries after those are out that the pair covers, from the index on: a test for those that it
-- doesn't cover keeps the others.
abbrev pub IsWithout : {T : Type 0} → List (Pair × T) → Pair → ℕ → List (Pair × T) → Type 0
IsWithout {T} entries pair from after =
    (stays : Pair × T → Bool)
    → ((entry : Pair × T) → IsTrue (stays entry) ↔ (CoversPair pair entry.0 → ⊥))
    → after ≡ take from entries ++ filter stays (drop from entries)

-- The greatest deadline of the pairs that arrive by then, and none exactly where no pair does.
abbrev pub IsBestBy : {T : Type 0} → List (Pair × T) → ℤ → Option Deadline → Type 0
IsBestBy {T} entries arrival None =
    (entry : Pair × T) → Contains entries entry → entry.0.arrival ≤ℤ arrival → ⊥
IsBestBy {T} entries arrival (Some deadline) =
    ((entry : Pair × T) × Contains entries entry × (entry.0.arrival ≤ℤ arrival)
    × (entry.0.deadline ≡ deadline))
    × ((entry : Pair × T) → Contains entries entry → entry.0.arrival ≤ℤ arrival
    → IsNoLater entry.0.deadline deadline)
