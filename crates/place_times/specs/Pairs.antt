-- Pairs of ids that were met.
use Rattle.std.specs.Prelude.{ℕ, Bool, false, if◌then◌else◌, List, [], ◌∷◌, ◌++◌, map, Option, Some, None}
use Rattle.std.specs.Borrow.{Bor}
use Rattle.std.specs.List.{list_any}
use Rattle.std.specs.Str.{bytes_eq}
use Rattle.feed_meaning.specs.Rules.{are_same_pairs}

abbrev pub Pair : Type 0
Pair = List ℕ × List ℕ

abbrev pub same_pair : Pair → Pair → Bool
same_pair p q = are_same_pairs bytes_eq bytes_eq p q

-- the pairs of two texts each
abbrev pub pairs_of : List (Bor (List ℕ) × Bor (List ℕ)) → List Pair
pairs_of keys = map (λ k. (k.0.now, k.1.now)) keys

abbrev pub has_pair : List Pair → Pair → Bool
has_pair met q = list_any (same_pair q) met

-- a pair that is there is among those that were met
abbrev pub has_some_pair : List Pair → Option Pair → Bool
has_some_pair met None = false
has_some_pair met (Some q) = has_pair met q

-- the pairs after one more: it goes last, if it is there and wasn't met
abbrev pub noted_pair : List Pair → Option Pair → List Pair
noted_pair met None = met
noted_pair met (Some q) = if has_pair met q then met else met ++ q ∷ []
