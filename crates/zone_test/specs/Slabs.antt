-- The slabs of a ring: bands of latitudes, between bounds that rise northwards. An edge is kept in each slab that it reaches
-- into, so that a point is tried against the edges of its own slab alone. This project's own.
use Rattle.std.specs.Prelude.{◌≡◌, ℕ, zero, suc, ◌+◌, ◌-◌, ◌<◌, ◌≤◌, ◌⊎◌, ◌≤ℤ◌, nat_le, Bool, ◌&&◌, if◌then◌else◌, ℤ, pos, int_le, List, [], ◌∷◌, ◌++◌, All, count_by, get_or, length}
use Rattle.std.specs.Int.{int_max, int_min}
use Rattle.std.specs.List.{AllPairs}
use Rattle.flex_model.specs.declared.place.Position.{Position}
use Rattle.flex_model.specs.SoundTimes.{IsOnGlobe}
use Rattle.flex_model.specs.Zone.{Edge}

-- bounds from south to north
abbrev pub AreBounds : List ℤ → Type 0
AreBounds bounds = AllPairs (λ a b. a ≤ℤ b) bounds

-- the number of a latitude's slab: how many bounds aren't north of it
abbrev pub slab_of : List ℤ → ℤ → ℕ
slab_of bounds lat = count_by (λ bound. int_le bound lat) bounds

abbrev pub south : Edge → ℤ
south edge = int_min edge.0.lat edge.1.lat

abbrev pub north : Edge → ℤ
north edge = int_max edge.0.lat edge.1.lat

-- the edge reaches into the slab
abbrev pub reaches : List ℤ → ℕ → Edge → Bool
reaches bounds slab edge =
    nat_le (slab_of bounds (south edge)) slab && nat_le slab (slab_of bounds (north edge))

-- the place that a list gives beyond its end
abbrev pub nowhere : Position
nowhere = record { lon = pos 0; lat = pos 0 }

-- the edge that begins at the corner of this number
abbrev pub edge_from : List Position → ℕ → Edge
edge_from corners at = (get_or corners at nowhere, get_or corners (at + 1) nowhere)

-- the numbers below a limit that pass a test, rising
abbrev pub numbers_below : (ℕ → Bool) → ℕ → List ℕ
numbers_below test zero = []
numbers_below test (suc n) =
    if test n then numbers_below test n ++ n ∷ [] else numbers_below test n

-- the numbers of the edges that reach into a slab, of those that begin before a corner
abbrev pub edges_in : List Position → List ℤ → ℕ → ℕ → List ℕ
edges_in corners bounds limit slab =
    numbers_below (λ at. reaches bounds slab (edge_from corners at)) limit

-- each slab has the edges that reach into it, of those that begin before a corner
pub record AreSlabsBelow (corners : List Position) (bounds : List ℤ) (limit : ℕ)
    (slabs : List (List ℕ)) : Type 0 where
  pub count : length slabs ≡ length bounds + 1
  pub each : (slab : ℕ) → slab < length slabs
      → get_or slabs slab [] ≡ edges_in corners bounds limit slab

-- the corners of a ring with its bounds and slabs
pub record AreIndexed (corners : List Position) (bounds : List ℤ)
    (slabs : List (List ℕ)) : Type 0 where
  pub on_globe : All IsOnGlobe corners
  pub rising : AreBounds bounds
  pub kept : AreSlabsBelow corners bounds (length corners - 1) slabs

-- the number stands at the end of the slabs from the first to the last one as well
pub record IsWithNumber (slabs : List (List ℕ)) (number first last : ℕ)
    (now : List (List ℕ)) : Type 0 where
  pub count : length now ≡ length slabs
  pub added : (slab : ℕ) → slab < length slabs → first ≤ slab → slab ≤ last
      → get_or now slab [] ≡ get_or slabs slab [] ++ number ∷ []
  pub others : (slab : ℕ) → slab < length slabs → (slab < first) ⊎ (last < slab)
      → get_or now slab [] ≡ get_or slabs slab []
