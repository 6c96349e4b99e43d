-- How far a walk over several values has come.
use Rattle.std.specs.Prelude.{◌≡◌, ℕ, List, None, map}
use Rattle.std.specs.List.{flat_map}
use Rattle.feed_meaning.specs.Locations.{Check, Json, corners}
use Rattle.flex_model.specs.declared.place.Ring.{Ring}
use Rattle.geo_json.specs.Walks.{first_fault}

-- The checks of those that were read find nothing, and the values that were made are theirs.
pub record AreRead {T : Type 0} (checks : ℕ → List Check) (value : ℕ → T)
    (read : List ℕ) (made : List T) : Type 0 where
  pub faultless : first_fault (flat_map checks read) ≡ None
  pub values : made ≡ map value read

abbrev pub ring_of : Json → ℕ → Ring
ring_of json ring = record { corners = corners json ring }
