-- Going from node to node over the rows of a text.
use Rattle.std.specs.Prelude.{◌≡◌, ℕ, zero, suc, ◌-◌, ◌<◌, List, [], ◌∷◌, length, Some, cond, nat_lt, slice_get}
use Rattle.json_text.specs.Node.{MemberNode}
use Rattle.json_text.specs.StringText.{string_text}
use Rattle.json_text.specs.Placed.{IsQuoted}
use Rattle.json_text.specs.Syntax.{Mark}
use Rattle.json_text.specs.declared.row.Row.{Row}

-- the number of the first node that is neither the one given nor within it
abbrev pub next_of : List Row → ℕ → ℕ
next_of [] node = 0
next_of (row ∷ rows) zero = row.next
next_of (row ∷ rows) (suc node) = next_of rows node

-- the nodes from one on that are neither within one another nor past the end, so many at most
abbrev pub walk : List Row → ℕ → ℕ → ℕ → List ℕ
walk rows zero node last = []
walk rows (suc most) node last =
    cond (nat_lt node last) (node ∷ walk rows most (next_of rows node) last) []

-- Each node's next one comes behind it.
abbrev pub Rises : List Row → Type 0
Rises rows = (node : ℕ) → node < length rows → node < next_of rows node

-- The node's name is this.
pub record HasNameAt (rows : List Row) (bytes : List ℕ) (node : ℕ) (name : List ℕ) : Type 0 where
  pub row : Row
  pub is : slice_get rows node ≡ Some row
  pub some : 0 < row.name_from
  pub marks : List Mark
  pub quoted : IsQuoted bytes marks (row.name_from - 1) row.name_to
  pub text : string_text marks ≡ name

-- The members are those of the nodes from one on.
abbrev pub AreMembers : List Row → List ℕ → List MemberNode → ℕ → ℕ → Type 0
AreMembers rows bytes [] node last = node ≡ last
AreMembers rows bytes (member ∷ members) node last =
    (member.number ≡ node) × (node < last) × HasNameAt rows bytes node member.name
    × AreMembers rows bytes members (next_of rows node) last
