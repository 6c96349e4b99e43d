-- The checks of a ring, by what was read of it.
use Rattle.std.proofs.Common.{◌≡◌, ◌∙◌, ℕ, ◌<◌, ◌≤◌, List, [], ◌∷◌, ◌++◌, true, false, None, ap, arith, length, nat_le, sym}
use Rattle.std.proofs.lemmas.Bool.Decides.{nat_tests}
use Rattle.std.proofs.lemmas.List.{length-map}
use Rattle.std.specs.List.{flat_map}
use Rattle.feed_meaning.specs.Locations.{Check, Json, check, closes, corners, position_checks, position_of, ring_checks}
use Rattle.flex_model.specs.declared.fault.FaultCode.TheVariants.{GeoShape, RingOpen, RingShort}
use Rattle.flex_model.specs.declared.place.Position.{Position}
use Rattle.geo_json.specs.Walks.{Refuses, first_fault}
use Rattle.geo_json.specs.declared.refusal.WalkRefusal.{WalkRefusal}
use Rattle.geo_json.specs.declared.refusal.WalkRefusal.TheVariants.{Fault}
use Rattle.geo_json.proofs.Firsts.{clear, clear_both, faulty, first_after, refused, refuses_among}

few : (n m : ℕ) → n ≡ m → n < 4 → nat_le 4 m ≡ false
few n m e l = grind (arith, nat_tests)

enough : (n m : ℕ) → n ≡ m → 4 ≤ n → nat_le 4 m ≡ true
enough n m e l = grind (arith, nat_tests)

module _ (json : Json) (ring : ℕ) where
  abbrev shape : List Check
  shape = check (json.is_array ring) (json.place ring) GeoShape ∷ []

  abbrev positions : List Check
  positions = flat_map (position_checks json) (json.items ring)

  abbrev ends : List Check
  ends = check (nat_le 4 (length (json.items ring))) (json.place ring) RingShort ∷ check (closes (corners json ring)) (json.place ring) RingOpen ∷ []

  pub bad_position : (refusal : WalkRefusal) → json.is_array ring ≡ true → Refuses positions refusal → Refuses (ring_checks json ring) refusal
  bad_position refusal list refuses = refuses_among shape positions ends refusal (clear (json.is_array ring) (json.place ring) GeoShape list) refuses

  before : json.is_array ring ≡ true → first_fault positions ≡ None → first_fault (shape ++ positions) ≡ None
  before list none = clear_both shape positions (clear (json.is_array ring) (json.place ring) GeoShape list) none

  module _ (made : List Position) (is : made ≡ corners json ring) (list : json.is_array ring ≡ true) (none : first_fault positions ≡ None) where
    count : length made ≡ length (json.items ring)
    count = ap length is ∙ length-map (json.items ring) (position_of json)

    pub short_ring : (refusal : WalkRefusal) → length made < 4 → refusal ≡ Fault RingShort (json.place ring) → Refuses (ring_checks json ring) refusal
    short_ring refusal l e =
        refused (ring_checks json ring) (json.place ring) RingShort refusal e
        (first_after (shape ++ positions) ends (before list none)
        ∙ faulty (nat_le 4 (length (json.items ring))) (json.place ring) RingShort (check (closes (corners json ring)) (json.place ring) RingOpen ∷ []) (few (length made) _ count l))

    long : 4 ≤ length made → first_fault (check (nat_le 4 (length (json.items ring))) (json.place ring) RingShort ∷ []) ≡ None
    long l = clear (nat_le 4 (length (json.items ring))) (json.place ring) RingShort (enough (length made) _ count l)

    pub open_ring : (refusal : WalkRefusal) → 4 ≤ length made → closes made ≡ false → refusal ≡ Fault RingOpen (json.place ring) → Refuses (ring_checks json ring) refusal
    open_ring refusal l open_ e =
        refused (ring_checks json ring) (json.place ring) RingOpen refusal e
        (first_after (shape ++ positions) ends (before list none)
        ∙ first_after (check (nat_le 4 (length (json.items ring))) (json.place ring) RingShort ∷ []) (check (closes (corners json ring)) (json.place ring) RingOpen ∷ []) (long l)
        ∙ faulty (closes (corners json ring)) (json.place ring) RingOpen [] (ap closes (sym is) ∙ open_))

    pub good_ring : 4 ≤ length made → closes made ≡ true → first_fault (ring_checks json ring) ≡ None
    good_ring l closed =
        first_after (shape ++ positions) ends (before list none)
        ∙ first_after (check (nat_le 4 (length (json.items ring))) (json.place ring) RingShort ∷ []) (check (closes (corners json ring)) (json.place ring) RingOpen ∷ []) (long l)
        ∙ clear (closes (corners json ring)) (json.place ring) RingOpen (ap closes (sym is) ∙ closed)
