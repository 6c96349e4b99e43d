-- Which groups and zones have a stop, as a list.
--
-- A group has its members, whether or not they can be boarded, and a zone the stops that the feed
-- lists for it. This project's own.
use Rattle.std.specs.Prelude.{◌≡◌, ◌↔◌, ℕ, Some, List, Contains, slice_get}
use Rattle.std.specs.List.Sorted.{IsNonDecreasingBy}
use Rattle.flex_model.specs.declared.feed.Feed.{Feed}
use Rattle.flex_model.specs.declared.place.Group.{Group}
use Rattle.flex_model.specs.declared.place.Zone.{Zone}
use Rattle.ride_index.specs.declared.members.Member.{Member}

-- the feed has a group with this number, and these are its members
abbrev pub HasGroupStops : Feed → ℕ → List ℕ → Type 0
HasGroupStops feed number stops =
    (group : Group) × (slice_get feed.groups number ≡ Some group) × (stops ≡ group.members)

-- the feed has a zone with this number, and these are its stops
abbrev pub HasZoneStops : Feed → ℕ → List ℕ → Type 0
HasZoneStops feed number stops =
    (zone : Zone) × (slice_get feed.zones number ≡ Some zone) × (stops ≡ zone.stops)

-- the list has each stop with the number of each group or zone that has it
abbrev pub HasMembers : (ℕ → List ℕ → Type 0) → List Member → Type 0
HasMembers HasStops members =
    (member : Member) → Contains members member
    ↔ ((stops : List ℕ) × HasStops member.named stops × Contains stops member.stop)

-- by their stops
abbrev pub AreByStop : List Member → Type 0
AreByStop members = IsNonDecreasingBy (λ member. member.stop) members
