-- Texts that are printed one after another, each whole but for the last of a print that failed.
use Rattle.std.specs.Prelude.{◌≡◌, ◌⊎◌, ℕ, List, [], ◌∷◌, ◌++◌, take, Result, Ok, Err}
use Rattle.flex_io.specs.Outside.{IsBeginning}
use Rattle.flex_io.specs.declared.error.PutError.{PutError}
use Rattle.flex_io.specs.declared.error.PutError.TheVariants.{Failed, NoMemory}

module _ {Q : Type 0} (IsTextOf : Q → List ℕ → Type 0) where
  -- a text of each item, in order
  abbrev pub Texts : List Q → List ℕ → Type 0
  Texts [] text = text ≡ []
  Texts (item ∷ items) text = (first rest : List ℕ) × IsTextOf item first × Texts items rest
      × (text ≡ first ++ rest)

  -- texts of some of the first items, none cut short
  abbrev pub FirstTexts : List Q → List ℕ → Type 0
  FirstTexts items text = (count : ℕ) × Texts (take count items) text

  -- the beginning of a text of an item
  abbrev pub PartText : Q → List ℕ → Type 0
  PartText item bytes = (text : List ℕ) × IsTextOf item text × IsBeginning text bytes

  -- texts of some of the first items, and then the beginning of one of the next
  abbrev pub PartTexts : List Q → List ℕ → Type 0
  PartTexts [] bytes = ⊥
  PartTexts (item ∷ items) bytes = PartText item bytes
      ⊎ ((first rest : List ℕ) × IsTextOf item first × PartTexts items rest
      × (bytes ≡ first ++ rest))

  -- what is printed of one item
  abbrev pub Prints : Q → Result (Unit {0}) PutError → List ℕ → Type 0
  Prints item (Ok _) bytes = IsTextOf item bytes
  Prints item (Err Failed) bytes = PartText item bytes
  Prints item (Err NoMemory) bytes = bytes ≡ []

  -- what is printed of all items
  abbrev pub PrintsAll : List Q → Result (Unit {0}) PutError → List ℕ → Type 0
  PrintsAll items (Ok _) bytes = Texts items bytes
  PrintsAll items (Err Failed) bytes = PartTexts items bytes
  PrintsAll items (Err NoMemory) bytes = FirstTexts items bytes
