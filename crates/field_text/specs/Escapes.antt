-- How an escape is read.
use Rattle.std.specs.Prelude.{◌≡◌, ℕ, List, ◌++◌}
use Rattle.field_text.specs.Grammars.{IsEscapeOf}

-- the text is the escape of no id
abbrev pub IsNoEscape : List ℕ → Type 0
IsNoEscape text = (id : List ℕ) → ¬ (IsEscapeOf text id)

-- The text is the escape of an id, and that was put at the end of the old text.
pub record Unescapes (text old new : List ℕ) : Type 0 where
  pub id : List ℕ
  pub escaped : IsEscapeOf text id
  pub appended : new ≡ old ++ id
