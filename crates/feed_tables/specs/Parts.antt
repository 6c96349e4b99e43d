-- Lists that are cut into parts: the bytes of a pool into texts, and its texts into records.
use Rattle.std.specs.Prelude.{ℕ, ◌+◌, ◌-◌, ◌^◌, ◌≤◌, ◌<◌, ◌≡◌, List, [], ◌∷◌, IsUtf8}
use Rattle.std.specs.Prelude.{take, drop, get_or, length}
use Rattle.std.specs.Str.{IsCharBoundary}
use Rattle.flex_model.specs.declared.limits.TheConstants.{MOST_RECORDS}

-- the parts of a list that end at these indices, after a start
unfoldable pub parts : {X : Type 0} → ℕ → List ℕ → List X → List (List X)
parts start [] items = []
parts start (end ∷ ends) items = take (end - start) (drop start items) ∷ parts end ends items

-- the indices rise from a start, and the last one is the size
unfoldable pub EndAt : ℕ → List ℕ → ℕ → Type 0
EndAt start [] size = start ≡ size
EndAt start (end ∷ ends) size = (start ≤ end) × EndAt end ends size

-- these indices cut a text into texts: they rise to its end, and each stands between two characters
pub record IsCut (ends text : List ℕ) : Type 0 where
  pub rising : EndAt 0 ends (length text)
  pub utf8 : IsUtf8 text
  pub between : (k : ℕ) → k < length ends → IsCharBoundary text (get_or ends k 0)

-- these indices cut fields into the records of a table: a header whose columns have numbers of 32
-- bits, and no more rows than the limit
pub record IsTable (ends : List ℕ) (fields : List (List ℕ)) : Type 0 where
  pub some : 0 < length ends
  pub few : length ends ≤ MOST_RECORDS + 1
  pub cut : EndAt 0 ends (length fields)
  pub columns : get_or ends 0 0 ≤ 2 ^ 32
