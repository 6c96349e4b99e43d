-- Keys of two parts that were met.
use Rattle.std.specs.Prelude.{ℕ, Bool, false, ◌&&◌, List, Option, Some, None}
use Rattle.std.specs.Borrow.{Bor}
use Rattle.std.specs.List.{list_any}
use Rattle.std.specs.Str.{bytes_eq}

-- a key is among those that were met
abbrev pub has_pair : {T : Type 0} → (T → T → Bool) → List (Bor (List ℕ) × T) → List ℕ × T → Bool
has_pair same met q = list_any (λ k. bytes_eq q.0 k.0.now && same q.1 k.1) met

-- a key that is there is among those that were met
abbrev pub has_some_pair : {T : Type 0} → (T → T → Bool) → List (Bor (List ℕ) × T)
    → Option (List ℕ × T) → Bool
has_some_pair same met None = false
has_some_pair same met (Some q) = has_pair same met q

-- a key that is there is this one
abbrev pub is_pair : {T : Type 0} → (T → T → Bool) → List ℕ × T → Option (List ℕ × T) → Bool
is_pair same q None = false
is_pair same q (Some k) = bytes_eq q.0 k.0 && same q.1 k.1
