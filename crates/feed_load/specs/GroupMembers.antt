-- Groups of stops with their members as they stand in location_group_stops.txt, and rising.
use Rattle.std.specs.Prelude.{◌≡◌, ℕ, ◌<◌, ◌↔◌, if◌then◌else◌, List, [], ◌∷◌, ◌++◌, AllPairs, Contains, position}
use Rattle.std.specs.List.{flat_map}
use Rattle.std.specs.Option.{option_map_or}
use Rattle.std.specs.Str.{bytes_eq}
use Rattle.flex_model.specs.declared.place.Group.{Group}
use Rattle.feed_meaning.specs.Rules.{Values}

abbrev pub group_by : List ℕ → List ℕ → Group
group_by id members = record { id = id; members = members }

-- the index of the stop that a record pairs with the group, if it does
abbrev pub member_of : List (List ℕ) → List ℕ → Values → List ℕ
member_of stop_ids group pair =
    if bytes_eq group (pair "location_group_id")
    then option_map_or (λ index. index ∷ []) (position (bytes_eq (pair "stop_id")) stop_ids) []
    else []

-- a group with its members as they stand in the file, some of them maybe twice
abbrev pub unordered_group : List (List ℕ) → List Values → Values → Group
unordered_group stop_ids pairs r =
    group_by (r "location_group_id") (flat_map (member_of stop_ids (r "location_group_id")) pairs)

-- a group with one more member
abbrev pub with_member : ℕ → Group → Group
with_member index group = record group { members = group.members ++ index ∷ [] }

-- the group with its members rising, each once
pub record IsRisingGroup (group rising : Group) : Type 0 where
  pub id : rising.id ≡ group.id
  pub rise : AllPairs (λ a b. a < b) rising.members
  pub same : (index : ℕ) → Contains rising.members index ↔ Contains group.members index
