-- The members of a group in rising order are those of the feed.
use Rattle.std.proofs.Common.{◌≡◌, ℕ, ◌<◌, Bool, true, false, ◌&&◌, cond, List, [], ◌∷◌, AllPairs, Contains, Option, Some, None, map, length, get_or, slice_get, refl, sym, ◌∙◌, ap, subst, arith, inl, inr}
use Rattle.std.specs.Prelude.{position}
use Rattle.std.specs.List.{AllZip, flat_map, list_any}
use Rattle.std.specs.Option.{option_map_or}
use Rattle.std.specs.Str.{bytes_eq}
use Rattle.std.proofs.lemmas.Bool.{and_from, and_parts, false≢true, or_cases, or_left, or_right}
use Rattle.std.proofs.lemmas.List.{get_or-map, length-map}
use Rattle.std.proofs.lemmas.List.Elements.{Contains-append_cases, Contains-append_left, Contains-append_right}
use Rattle.std.proofs.lemmas.Option.{get_or_from_slice_get, slice_get-get_or, slice_get_within}
use Rattle.std.proofs.lemmas.Slice.Eq.{bytes_eq-Decides}
use Rattle.flex_model.specs.declared.fault.InputFile.TheVariants.{Stops, LocationGroups, LocationGroupStops}
use Rattle.flex_model.specs.declared.place.Group.{Group}
use Rattle.flex_model.specs.SoundTimes.{AreIds}
use Rattle.flex_model.proofs.Found.{AllPairs-first, AllPairs-rest, Contains-first, Contains-rest, first_or_rest, none_contained, only_contained}
use Rattle.feed_tables.proofs.TableFacts.{position-found}
use Rattle.feed_meaning.specs.FeedLinks.{Tables}
use Rattle.feed_meaning.specs.FeedValue.{group_of, is_paired, indices_where}
use Rattle.feed_meaning.specs.Rules.{Values}
use Rattle.feed_meaning.proofs.Places.{places_are, places_rise}
use Rattle.feed_load.specs.GroupMembers.{IsRisingGroup, group_by, member_of, unordered_group}
use Rattle.feed_load.proofs.Grouping.{equal, found_is, found_low, not_equal}

-- ---- rising lists

abbrev Below : ℕ → ℕ → Type 0
Below a b = a < b

same-first : (x y : ℕ) (xs ys : List ℕ) → AllPairs Below (x ∷ xs) → AllPairs Below (y ∷ ys) → Contains (y ∷ ys) x → Contains (x ∷ xs) y → x ≡ y
same-first x y xs ys up up' to from = elim (first_or_rest y x ys to) [
  | inl h ↦ h
  | inr h ↦ elim (first_or_rest x y xs from) [
    | inl g ↦ sym g
    | inr g ↦ let a : y < x = AllPairs-first Below y x ys up' h in let b : x < y = AllPairs-first Below x y xs up g in absurd (omega (arith, a, b))
  ]
]

among-rest : (x y k : ℕ) (xs ys : List ℕ) → x ≡ y → AllPairs Below (x ∷ xs) → Contains xs k → Contains (y ∷ ys) k → Contains ys k
among-rest x y k xs ys e up c c' = elim (first_or_rest y k ys c') [
  | inl h ↦ let a : x < k = AllPairs-first Below x k xs up c in absurd (omega (arith, a, e, h))
  | inr h ↦ h
]

-- two rising lists with the same items are one
pub rising_lists : (xs ys : List ℕ) → AllPairs (λ a b. a < b) xs → AllPairs (λ a b. a < b) ys → ((k : ℕ) → Contains xs k → Contains ys k) → ((k : ℕ) → Contains ys k → Contains xs k) → xs ≡ ys
rising_lists [] [] up up' to from = refl
rising_lists [] (y ∷ ys) up up' to from = absurd (none_contained y (from y (Contains-first y ys)))
rising_lists (x ∷ xs) [] up up' to from = absurd (none_contained x (to x (Contains-first x xs)))
rising_lists (x ∷ xs) (y ∷ ys) up up' to from =
    let e = same-first x y xs ys up up' (to x (Contains-first x xs)) (from y (Contains-first y ys)) in
    let rest = rising_lists xs ys (AllPairs-rest Below x xs up) (AllPairs-rest Below y ys up')
    (λ k c. among-rest x y k xs ys e up c (to k (Contains-rest x k xs c)))
    (λ k c. among-rest y x k ys xs (sym e) up' c (from k (Contains-rest y k ys c))) in
    ap (λ a. a ∷ xs) e ∙ ap (λ l. y ∷ l) rest

-- ---- members as they stand in the file

module _ (stop_ids : List (List ℕ)) (are : AreIds stop_ids) (group : List ℕ) where
  -- the pair is of the group and the stop at this index
  abbrev pub pairs_with : ℕ → Values → Bool
  pairs_with k p = bytes_eq group (p "location_group_id") && bytes_eq (get_or stop_ids k []) (p "stop_id")

  member-is : (p : Values) (k : ℕ) → Contains (member_of stop_ids group p) k → (k < length stop_ids) × (pairs_with k p ≡ true)
  member-is p k c = by (bytes_eq group (p "location_group_id")) (position (bytes_eq (p "stop_id")) stop_ids) refl refl c
    where
      by : (b : Bool) (o : Option ℕ) → bytes_eq group (p "location_group_id") ≡ b → position (bytes_eq (p "stop_id")) stop_ids ≡ o
          → Contains (cond b (option_map_or (λ (index : ℕ). index ∷ []) o []) []) k → (k < length stop_ids) × (pairs_with k p ≡ true)
      by false o e f c' = absurd (none_contained k c')
      by true None e f c' = absurd (none_contained k c')
      by true (Some j) e f c' =
          let same : k ≡ j = only_contained j k c' in
          let low = found_low stop_ids (p "stop_id") j f in (
            omega (arith, same, low),
            and_from (bytes_eq group (p "location_group_id")) (bytes_eq (get_or stop_ids k []) (p "stop_id")) e
                (equal (get_or stop_ids k []) (p "stop_id") (ap (λ n. get_or stop_ids n []) same ∙ found_is stop_ids (p "stop_id") j [] f)),
          )

  -- the index of the stop
  index-is : (text : List ℕ) (k : ℕ) → k < length stop_ids → get_or stop_ids k [] ≡ text → position (bytes_eq text) stop_ids ≡ Some k
  index-is text k low e =
      sym (position-found (bytes_eq text) stop_ids k low
      (λ j lt. not_equal text (get_or stop_ids j []) (λ h. are.distinct j k [] lt low (sym h ∙ sym e)))
      (equal text (get_or stop_ids k []) (sym e)))

  member-from : (p : Values) (k : ℕ) → k < length stop_ids → pairs_with k p ≡ true → Contains (member_of stop_ids group p) k
  member-from p k low e =
      let parts = and_parts (bytes_eq group (p "location_group_id")) (bytes_eq (get_or stop_ids k []) (p "stop_id")) e in
      let found = index-is (p "stop_id") k low ((bytes_eq-Decides (get_or stop_ids k []) (p "stop_id")).0 parts.1) in
      let is : member_of stop_ids group p ≡ k ∷ [] =
      ap (λ b. cond b (option_map_or (λ (index : ℕ). index ∷ []) (position (bytes_eq (p "stop_id")) stop_ids) []) []) parts.0 ∙ ap (λ o. option_map_or (λ (index : ℕ). index ∷ []) o []) found in
      subst (λ xs. Contains xs k) (sym is) (Contains-first k [])

  pub members_paired : (pairs : List Values) (k : ℕ) → Contains (flat_map (member_of stop_ids group) pairs) k → (k < length stop_ids) × (list_any (pairs_with k) pairs ≡ true)
  members_paired [] k c = absurd (none_contained k c)
  members_paired (p ∷ pairs) k c = elim (Contains-append_cases (member_of stop_ids group p) (flat_map (member_of stop_ids group) pairs) k c) [
    | inl h ↦ let m = member-is p k h in (m.0, or_left (pairs_with k p) (list_any (pairs_with k) pairs) m.1)
    | inr h ↦ let m = members_paired pairs k h in (m.0, or_right (pairs_with k p) (list_any (pairs_with k) pairs) m.1)
  ]

  pub paired_members : (pairs : List Values) (k : ℕ) → k < length stop_ids → list_any (pairs_with k) pairs ≡ true → Contains (flat_map (member_of stop_ids group) pairs) k
  paired_members [] k low e = absurd (false≢true e)
  paired_members (p ∷ pairs) k low e = elim (or_cases (pairs_with k p) (list_any (pairs_with k) pairs) e) [
    | inl h ↦ Contains-append_left (member_of stop_ids group p) (flat_map (member_of stop_ids group) pairs) k (member-from p k low h)
    | inr h ↦ Contains-append_right (member_of stop_ids group p) (flat_map (member_of stop_ids group) pairs) k (paired_members pairs k low h)
  ]

-- ---- the groups of the feed

module _ (tables : Tables) (stop_ids : List (List ℕ)) (are : AreIds stop_ids) (ids_are : map (λ r. r "stop_id") (tables Stops) ≡ stop_ids) where
  id-at : (k : ℕ) (x : Values) → slice_get (tables Stops) k ≡ Some x → get_or stop_ids k [] ≡ x "stop_id"
  id-at k x e =
      ap (λ xs. get_or xs k []) (sym ids_are) ∙ get_or-map (λ (r : Values). r "stop_id") (tables Stops) k x [] (slice_get_within (tables Stops) k x e)
      ∙ ap (λ (v : Values). v "stop_id") (get_or_from_slice_get (tables Stops) k x x e)

  paired-is : (r : Values) (k : ℕ) (x : Values) → slice_get (tables Stops) k ≡ Some x
      → is_paired tables r x ≡ list_any (pairs_with stop_ids are (r "location_group_id") k) (tables LocationGroupStops)
  paired-is r k x e =
      ap (λ t. list_any (λ (p : Values). bytes_eq (r "location_group_id") (p "location_group_id") && bytes_eq t (p "stop_id")) (tables LocationGroupStops)) (sym (id-at k x e))

  count : length stop_ids ≡ length (tables Stops)
  count = ap length (sym ids_are) ∙ length-map (tables Stops) (λ (r : Values). r "stop_id")

  members-are : (r : Values) (g : Group) → IsRisingGroup (unordered_group stop_ids (tables LocationGroupStops) r) g → g.members ≡ indices_where (is_paired tables r) (tables Stops)
  members-are r g o =
      let pairs = tables LocationGroupStops in
      let stops = tables Stops in
      let test = is_paired tables r in
      let dummy : Values = λ name. [] in
      rising_lists g.members (indices_where test stops) o.rise (places_rise test stops)
      (λ k c.
      let m = members_paired stop_ids are (r "location_group_id") pairs k ((o.same k).0 c) in
      let low : k < length stops = omega (arith, m.0, count) in
      let at = slice_get-get_or stops k dummy low in
      (places_are test stops k).1 (get_or stops k dummy, at, paired-is r k (get_or stops k dummy) at ∙ m.1))
      (λ k c.
      let f = (places_are test stops k).0 c in
      let within = slice_get_within stops k f.0 f.1 in
      (o.same k).1 (paired_members stop_ids are (r "location_group_id") pairs k (omega (arith, within, count)) (sym (paired-is r k f.0 f.1) ∙ f.2)))

  one-group : (r : Values) (g : Group) → IsRisingGroup (unordered_group stop_ids (tables LocationGroupStops) r) g → g ≡ group_of tables r
  one-group r g o = ap (λ i. group_by i g.members) o.id ∙ ap (group_by (r "location_group_id")) (members-are r g o)

  groups-among : (rs : List Values) (gs : List Group) → AllZip IsRisingGroup (map (unordered_group stop_ids (tables LocationGroupStops)) rs) gs → gs ≡ map (group_of tables) rs
  groups-among [] [] all = refl
  groups-among [] (g ∷ gs) all = absurd all
  groups-among (r ∷ rs) [] all = absurd all
  groups-among (r ∷ rs) (g ∷ gs) all = ap (λ x. x ∷ gs) (one-group r g all.0) ∙ ap (λ xs. group_of tables r ∷ xs) (groups-among rs gs all.1)

  -- groups with their members in rising order are those of the feed
  pub groups_are : (pairs rs : List Values) (gs : List Group) → tables LocationGroups ≡ rs → tables LocationGroupStops ≡ pairs
      → AllZip IsRisingGroup (map (unordered_group stop_ids pairs) rs) gs → gs ≡ map (group_of tables) (tables LocationGroups)
  groups_are pairs rs gs groups_is pairs_are all =
      groups-among (tables LocationGroups) gs
      (subst (λ xs. AllZip IsRisingGroup (map (unordered_group stop_ids xs) (tables LocationGroups)) gs) (sym pairs_are)
      (subst (λ xs. AllZip IsRisingGroup (map (unordered_group stop_ids pairs) xs) gs) (sym groups_is) all))
