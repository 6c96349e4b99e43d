-- Bags of labels by the number of a place or of transfers, and what they hold.
--
-- A bag keeps a pair where one of its pairs covers it. Bags grow where each keeps what it kept before,
-- also if better pairs take the place of others. This project's own.
use Rattle.std.specs.Prelude.{◌≡◌, ◌⊎◌, ℕ, ◌+◌, ◌<◌, List, [], All, Contains, length, slice_index_or}
use Rattle.std.specs.Borrow.{Bor}
use Rattle.flex_model.specs.declared.answer.Pair.{Pair}
use Rattle.flex_model.specs.Triple.{CoversPair}
use Rattle.round_engine.specs.declared.label.Label.{Label}

-- a pair with its label
abbrev pub Entry : Type 0
Entry = Pair × Bor Label

abbrev pub bag_at : List (List Entry) → ℕ → List Entry
bag_at bags i = slice_index_or bags i []

abbrev pub round_at : List (List (List Entry)) → ℕ → List (List Entry)
round_at rounds r = slice_index_or rounds r []

-- a pair of the bag covers this one
pub record IsKept (bag : List Entry) (pair : Pair) : Type 0 where
  pub entry : Entry
  pub among : Contains bag entry
  pub covers : CoversPair entry.0 pair

-- a pair of one of the bags covers this one
abbrev pub IsKeptByAny : List (List Entry) → Pair → Type 0
IsKeptByAny bags pair = (i : ℕ) × IsKept (bag_at bags i) pair

-- a pair of one of the rounds at the place covers this one
abbrev pub IsKeptInAny : List (List (List Entry)) → ℕ → Pair → Type 0
IsKeptInAny rounds at pair = (r : ℕ) × IsKept (bag_at (round_at rounds r) at) pair

-- each bag keeps what it kept before
pub record BagsGrow (old new : List (List Entry)) : Type 0 where
  pub count : length new ≡ length old
  pub kept : (i : ℕ) (pair : Pair) → IsKept (bag_at old i) pair → IsKept (bag_at new i) pair

-- What bags gain by an offer to one of them: at most the entry.
pub record IsOffer (at : ℕ) (entry : Entry) (old new : List (List Entry)) : Type 0 where
  pub grows : BagsGrow old new
  pub came : (i : ℕ) (other : Entry) → Contains (bag_at new i) other
      → Contains (bag_at old i) other ⊎ ((i ≡ at) × (other ≡ entry))

-- no pair of a later bag is covered by one of an earlier bag
abbrev pub AreApartBags : List (List Entry) → Type 0
AreApartBags bags =
    (t later : ℕ) (a b : Entry) → t < later → Contains (bag_at bags t) a
    → Contains (bag_at bags later) b → CoversPair a.0 b.0 → ⊥

-- what the bags gain is in the last one
abbrev pub GainsAtLast : List (List Entry) → List (List Entry) → Type 0
GainsAtLast old new = (t : ℕ) (entry : Entry) → t + 1 < length old → Contains (bag_at new t) entry
    → Contains (bag_at old t) entry

-- no pair of the bag is covered by one of the first bags, so many of them
abbrev pub IsPruned : ℕ → List Entry → List (List Entry) → Type 0
IsPruned count bag bags = (t : ℕ) (entry over : Entry) → t < count → Contains bag entry
    → Contains (bag_at bags t) over → CoversPair over.0 entry.0 → ⊥

-- the numbers are those of bags, and each bag that has labels is among them
pub record AreMarked (bags : List (List Entry)) (marked : List ℕ) : Type 0 where
  pub within : All (λ at. at < length bags) marked
  pub whole : (i : ℕ) (entry : Entry) → Contains (bag_at bags i) entry → Contains marked i
