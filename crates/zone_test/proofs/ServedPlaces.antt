-- What looking up a group, a zone or a number says of the places that are served.
use Rattle.std.proofs.Common.{◌≡◌, ◌↔◌, inl, inr, ℕ, ◌<◌, ◌≤◌, Bool, false, IsTrue, nat_cmp, Some, Result, Ok, Err, MatchResult, List, Contains, length, slice_get, get_or, refl, sym, ◌∙◌, ap, subst, arith}
use Rattle.std.specs.Prelude.{is_ok}
use Rattle.std.specs.List.Sorted.{IsBinarySearchResult}
use Rattle.std.proofs.lemmas.Bool.{cases_lt, false≢true}
use Rattle.std.proofs.lemmas.List.Elements.{Contains-get_or}
use Rattle.std.proofs.lemmas.List.Sorted.{searched}
use Rattle.flex_model.specs.declared.feed.Feed.{Feed}
use Rattle.flex_model.specs.declared.place.Group.{Group}
use Rattle.flex_model.specs.declared.place.Place.{Place}
use Rattle.flex_model.specs.declared.place.Place.TheVariants as place
use Rattle.flex_model.specs.declared.place.Point.{Point}
use Rattle.flex_model.specs.declared.place.Polygon.{Polygon}
use Rattle.flex_model.specs.declared.place.Position.{Position}
use Rattle.flex_model.specs.declared.place.Zone.{Zone}
use Rattle.flex_model.specs.declared.times.Times.{Times}
use Rattle.flex_model.specs.Place.{HasBoards, IsMember, LiesAt}
use Rattle.flex_model.specs.SoundFeed.{AreRising, IsSoundZone}
use Rattle.flex_model.specs.Zone.{is_in_zone}
use Rattle.flex_model.proofs.Found.{item_of, slice_get_unique}

-- a list of rising numbers has one where the search finds it
pub found_number : (xs : List ℕ) (x : ℕ) → AreRising xs → (r : Result ℕ ℕ) → IsBinarySearchResult (λ y. nat_cmp y x) xs r
    → (test : Bool) → test ≡ is_ok r → IsTrue test ↔ Contains xs x
found_number xs x rising r search_result test is =
    subst (λ t. IsTrue t ↔ Contains xs x) (sym is) (by_result r (searched xs x r search_result never_falls))
  where
    never_falls : (i j : ℕ) → i ≤ j → j < length xs → get_or xs i 0 ≤ get_or xs j 0
    never_falls i j le within = elim (cases_lt i j) [
      | inl lt ↦ (let less = rising i j 0 lt within in omega arith)
      | inr ge ↦ (let same : i ≡ j = omega arith in let at = ap (λ k. get_or xs k 0) same in omega (arith, at))
    ]

    by_result : (r : Result ℕ ℕ)
        → MatchResult r (λ i. (i < length xs) × (get_or xs i 0 ≡ x))
        (λ i. (i ≤ length xs) × ((k : ℕ) → k < i → get_or xs k 0 < x) × ((k : ℕ) → i ≤ k → k < length xs → x < get_or xs k 0))
        → IsTrue (is_ok r) ↔ Contains xs x
    by_result (Ok i) found = (λ t. subst (Contains xs) found.1 (Contains-get_or xs i 0 found.0), λ c. refl)
    by_result (Err i) none = (
      λ t. absurd (false≢true t),
      λ c.
          let at : get_or xs c.0 0 ≡ x = item_of xs x 0 c in
          elim (cases_lt c.0 i) [
            | inl lt ↦ absurd (let less = none.1 c.0 lt in omega (arith, at))
            | inr ge ↦ absurd (let more = none.2 c.0 ge c.1 in omega (arith, at))
          ],
    )

-- the place is a stop of the group with this number that can be boarded
abbrev pub IsInGroup : Feed → ℕ → Place → Type 0
IsInGroup feed g at = (its : Group) × (slice_get feed.groups g ≡ Some its) × IsMember feed its at

-- the place is a stop that can be boarded or a point, and lies in the zone with this number
abbrev pub IsInZone : Feed → Times → ℕ → Place → Type 0
IsInZone feed times z at =
    (its : Zone) × (position : Position) × (slice_get feed.zones z ≡ Some its) × LiesAt feed times at position
    × IsTrue (is_in_zone its.polygons position)

-- the times have the point with this number, and it lies in the zone of these polygons
abbrev pub HasPointIn : Times → List Polygon → ℕ → Type 0
HasPointIn times polygons p =
    (its : Point) × (slice_get times.points p ≡ Some its) × IsTrue (is_in_zone polygons its.at)

-- the place is this stop, and the group with this number is this one
module _ (feed : Feed) (g : ℕ) (its : Group) (found : slice_get feed.groups g ≡ Some its) (s : ℕ) (at : Place) (is : at ≡ place.Stop s)
    (has : Bool) (has_it : IsTrue has ↔ Contains its.members s) where
  pub a_member : has ≡ false → IsTrue has ↔ IsInGroup feed g at
  a_member none = (
    λ t. absurd (false≢true (sym none ∙ t)),
    λ m.
        let one = slice_get_unique feed.groups g m.0 its m.1 found in
        let stop = subst (IsMember feed m.0) is m.2 in
        absurd (false≢true (sym none ∙ has_it.1 (subst (λ group. Contains group.members s) one stop.0))),
  )

  pub a_boarded_member : IsTrue has → (test : Bool) → IsTrue test ↔ HasBoards feed s → IsTrue test ↔ IsInGroup feed g at
  a_boarded_member some test boards = (
    λ t. (its, found, subst (IsMember feed its) (sym is) (has_it.0 some, boards.0 t)),
    λ m. let stop = subst (IsMember feed m.0) is m.2 in boards.1 stop.1,
  )

-- the zone with this number is this one
module _ (feed : Feed) (times : Times) (z : ℕ) (its : Zone) (found : slice_get feed.zones z ≡ Some its) (at : Place) (test : Bool) where
  -- a zone lists the stops that lie in it
  pub a_listed_stop : IsSoundZone feed its → (s : ℕ) → at ≡ place.Stop s → IsTrue test ↔ Contains its.stops s → IsTrue test ↔ IsInZone feed times z at
  a_listed_stop sound s is listed = (
    λ t.
        let stop = (sound.stops s).0 (listed.0 t) in
        (its, stop.0.at, found, subst (λ p. LiesAt feed times p stop.0.at) (sym is) (stop.0, stop.1, stop.2, refl), stop.3),
    λ h.
        let one = slice_get_unique feed.zones z h.0 its h.2 found in
        let lies = subst (λ p. LiesAt feed times p h.1) is h.3 in
        let inside = subst (λ position. IsTrue (is_in_zone its.polygons position)) lies.3 (subst (λ zone. IsTrue (is_in_zone zone.polygons h.1)) one h.4) in
        listed.1 ((sound.stops s).1 (lies.0, lies.1, lies.2, inside)),
  )

  pub a_point_inside : (p : ℕ) → at ≡ place.Point p → IsTrue test ↔ HasPointIn times its.polygons p → IsTrue test ↔ IsInZone feed times z at
  a_point_inside p is has = (
    λ t. let point = has.0 t in (its, point.0.at, found, subst (λ q. LiesAt feed times q point.0.at) (sym is) (point.0, point.1, refl), point.2),
    λ h.
        let one = slice_get_unique feed.zones z h.0 its h.2 found in
        let lies = subst (λ q. LiesAt feed times q h.1) is h.3 in
        let inside = subst (λ position. IsTrue (is_in_zone its.polygons position)) lies.2 (subst (λ zone. IsTrue (is_in_zone zone.polygons h.1)) one h.4) in
        has.1 (lies.0, lies.1, inside),
  )
