-- The values that stand in a text.
use Rattle.std.specs.Prelude.{◌≡◌, ℕ, suc, ◌≤◌, Bool, true, List, [], ◌∷◌, Some, slice_get}
use Rattle.json_text.specs.Grammar.{IsJson, text_bytes}
use Rattle.json_text.specs.Node.{Node, text_nodes}
use Rattle.json_text.specs.Syntax.{Text, Value}

-- The bytes are a JSON text, and its value that has the number passes the test.
pub record IsThere (bytes : List ℕ) (test : Value → Bool) (node : ℕ) : Type 0 where
  pub json : IsJson bytes
  pub each : (tree : Text) → text_bytes tree ≡ bytes
      → (is : Node) × (slice_get (text_nodes tree) node ≡ Some is) × (test is.value ≡ true)

abbrev pub is_value : Value → Bool
is_value value = true

-- They are values of the text whose numbers rise, from the least on.
abbrev pub AreThere : List ℕ → ℕ → List ℕ → Type 0
AreThere bytes least [] = Unit {0}
AreThere bytes least (node ∷ more) =
    IsThere bytes is_value node × (least ≤ node) × AreThere bytes (suc node) more
