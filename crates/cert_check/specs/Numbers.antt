-- Items of lists by numbers that count from 1. This project's own.
use Rattle.std.specs.Prelude.{◌≡◌, ℕ, zero, suc, ◌≤◌, List, Some, slice_get}

-- the item with this number, counted from 1
abbrev pub IsNumber : {A : Type 0} → List A → ℕ → A → Type 0
IsNumber items zero item = ⊥
IsNumber items (suc n) item = slice_get items n ≡ Some item

-- each item with a number up to this one has the property with its number
abbrev pub AllTo : {A : Type 0} → (ℕ → A → Type 0) → List A → ℕ → Type 0
AllTo {A} P items n = (m : ℕ) (item : A) → m ≤ n → IsNumber items m item → P m item
