-- Where the nodes of a text stand among its bytes and among the scanner's rows.
use Rattle.std.specs.Prelude.{◌≡◌, ℕ, zero, suc, ◌+◌, List, [], ◌∷◌, ◌++◌, length, drop}
use Rattle.json_text.specs.Syntax.{Mark}
use Rattle.json_text.specs.Grammar.{mark_bytes, value_bytes}
use Rattle.json_text.specs.Node.{Node, value_nodes}
use Rattle.json_text.specs.Recording.{Shape}
use Rattle.json_text.specs.Shapes.{value_shapes}

-- These are a part of all, and so many stand before them.
pub record IsPart {A : Type 0} (all items : List A) (number : ℕ) : Type 0 where
  pub before : List A
  pub after : List A
  pub whole : all ≡ before ++ (items ++ after)
  pub count : length before ≡ number

-- A production begins at the place.
pub record StandsAt (all : List ℕ) (production : List ℕ → List ℕ) (place : ℕ) : Type 0 where
  pub rest : List ℕ
  pub bytes : drop place all ≡ production rest

-- A string begins at the place with its quotation mark, and its last one stands at the end.
pub record IsQuoted (bytes : List ℕ) (marks : List Mark) (place last : ℕ) : Type 0 where
  pub stands : StandsAt bytes (λ rest. 34 ∷ mark_bytes marks rest) place
  pub end : last ≡ place + length (mark_bytes marks [])

-- The name between the places, or none where the first place is 0.
abbrev pub IsNamed : List ℕ → ℕ → ℕ → Type 0
IsNamed bytes zero to = Unit {0}
IsNamed bytes (suc quote) to = (marks : List Mark) × IsQuoted bytes marks quote to

-- The node has the number, and stands at its place.
pub record IsPlaced (nodes : List Node) (shapes : List Shape) (bytes : List ℕ)
    (number : ℕ) (node : Node) : Type 0 where
  pub name_from : ℕ
  pub name_to : ℕ
  pub within : IsPart nodes (value_nodes node.value node.place) number
  pub part : IsPart shapes (value_shapes node.value number node.place name_from name_to) number
  pub stands : StandsAt bytes (value_bytes node.value) node.place
  pub named : IsNamed bytes name_from name_to
