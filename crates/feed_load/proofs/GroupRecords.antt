-- The groups with their members, after one more pair of a group and a stop.
use Rattle.std.proofs.Common.{◌≡◌, ℕ, ◌<◌, Bool, true, false, cond, List, [], ◌∷◌, ◌++◌, Some, None, map, length, get_or, refl, sym, ◌∙◌, ap, arith}
use Rattle.std.specs.Prelude.{position}
use Rattle.std.specs.List.{flat_map}
use Rattle.std.specs.Option.{option_map_or}
use Rattle.std.specs.Str.{bytes_eq}
use Rattle.std.proofs.Math.ListN.{set}
use Rattle.std.proofs.lemmas.Bool.{false≢true}
use Rattle.std.proofs.lemmas.List.{append-nil, get_or-map, length-map}
use Rattle.std.proofs.lemmas.List.Concat.{flat_map-append}
use Rattle.flex_model.specs.declared.place.Group.{Group}
use Rattle.flex_model.specs.SoundTimes.{AreIds}
use Rattle.feed_meaning.specs.Rules.{Values}
use Rattle.feed_meaning.specs.Tables.{values_of}
use Rattle.feed_tables.specs.Records.{RowFields}
use Rattle.feed_load.specs.TableValues.{values_under}
use Rattle.feed_load.specs.GroupMembers.{group_by, member_of, unordered_group, with_member}
use Rattle.feed_load.proofs.Texts.{values_more}
use Rattle.feed_load.proofs.Grouping.{equal, found_is, found_low, ids_differ, not_equal, not_found, one_changed, unchanged}

either-way : (xs : List ℕ) (b : Bool) → cond b xs xs ≡ xs
either-way xs true = refl
either-way xs false = refl

module _ (stop_ids : List (List ℕ)) where
  -- the members that one more pair gives go last
  group-more : (seen : List Values) (p r : Values) → unordered_group stop_ids (seen ++ p ∷ []) r
      ≡ group_by (r "location_group_id") (flat_map (member_of stop_ids (r "location_group_id")) seen ++ member_of stop_ids (r "location_group_id") p)
  group-more seen p r =
      let of = member_of stop_ids (r "location_group_id") in
      ap (group_by (r "location_group_id")) (flat_map-append of seen (p ∷ []) ∙ ap (λ xs. flat_map of seen ++ xs) (append-nil (of p)))

  -- a pair gives no member
  group-stays : (seen : List Values) (p r : Values) → member_of stop_ids (r "location_group_id") p ≡ [] → unordered_group stop_ids (seen ++ p ∷ []) r ≡ unordered_group stop_ids seen r
  group-stays seen p r none =
      let of = member_of stop_ids (r "location_group_id") in
      group-more seen p r ∙ ap (group_by (r "location_group_id")) (ap (λ xs. flat_map of seen ++ xs) none ∙ append-nil (flat_map of seen))

  -- a pair of another group gives none
  other-group : (p : Values) (group : List ℕ) → bytes_eq group (p "location_group_id") ≡ false → member_of stop_ids group p ≡ []
  other-group p group e = ap (λ b. cond b (option_map_or (λ (index : ℕ). index ∷ []) (position (bytes_eq (p "stop_id")) stop_ids) []) []) e

  -- nor does one of a stop that isn't known
  unknown-stop : (p : Values) (group : List ℕ) → position (bytes_eq (p "stop_id")) stop_ids ≡ None → member_of stop_ids group p ≡ []
  unknown-stop p group e = ap (λ o. cond (bytes_eq group (p "location_group_id")) (option_map_or (λ (index : ℕ). index ∷ []) o []) []) e ∙ either-way [] (bytes_eq group (p "location_group_id"))

  -- one of the group with a known stop gives the stop's index
  new-member : (p : Values) (group : List ℕ) (index : ℕ) → bytes_eq group (p "location_group_id") ≡ true → position (bytes_eq (p "stop_id")) stop_ids ≡ Some index
      → member_of stop_ids group p ≡ index ∷ []
  new-member p group index e f =
      ap (λ b. cond b (option_map_or (λ (k : ℕ). k ∷ []) (position (bytes_eq (p "stop_id")) stop_ids) []) []) e ∙ ap (λ o. option_map_or (λ (k : ℕ). k ∷ []) o []) f

  module _ (groups : List Values) (ids : List (List ℕ)) (are_of : ids ≡ map (λ r. r "location_group_id") groups) where
    -- the id of the group at a index
    id-at : (i : ℕ) (d : Values) → i < length groups → get_or ids i [] ≡ get_or groups i d "location_group_id"
    id-at i d low = ap (λ xs. get_or xs i []) are_of ∙ get_or-map (λ (r : Values). r "location_group_id") groups i d [] low

    pub group_count : length ids ≡ length groups
    group_count = ap length are_of ∙ length-map groups (λ (r : Values). r "location_group_id")

    -- the groups after a pair of the group at a index
    groups-more : AreIds ids → (seen : List Values) (p : Values) (k index : ℕ) (d : Group) → position (bytes_eq (p "location_group_id")) ids ≡ Some k
        → position (bytes_eq (p "stop_id")) stop_ids ≡ Some index
        → map (unordered_group stop_ids (seen ++ p ∷ [])) groups
        ≡ set (map (unordered_group stop_ids seen) groups) k (with_member index (get_or (map (unordered_group stop_ids seen) groups) k d))
    groups-more are seen p k index d e f =
        let low_k = found_low ids (p "location_group_id") k e in
        let low : k < length groups = omega (arith, group_count, low_k) in
        let dummy : Values = λ name. [] in
        let here = get_or groups k dummy in
        one_changed (unordered_group stop_ids seen) (unordered_group stop_ids (seen ++ p ∷ [])) (with_member index) groups k d dummy low
        (group-more seen p here
        ∙ ap (λ xs. group_by (here "location_group_id") (flat_map (member_of stop_ids (here "location_group_id")) seen ++ xs))
        (new-member p (here "location_group_id") index (equal (here "location_group_id") (p "location_group_id") (sym (id-at k dummy low) ∙ found_is ids (p "location_group_id") k [] e)) f))
        (λ i g low_i ne. group-stays seen p (get_or groups i g) (other-group p (get_or groups i g "location_group_id") (not_equal (get_or groups i g "location_group_id") (p "location_group_id") (λ h.
        ids_differ ids are i k [] (omega (arith, group_count)) low_k ne (id-at i g low_i ∙ h ∙ sym (found_is ids (p "location_group_id") k [] e))))))

    -- after a pair of none of them
    groups-stay : (seen : List Values) (p : Values) → position (bytes_eq (p "location_group_id")) ids ≡ None
        → map (unordered_group stop_ids (seen ++ p ∷ [])) groups ≡ map (unordered_group stop_ids seen) groups
    groups-stay seen p e =
        unchanged (unordered_group stop_ids seen) (unordered_group stop_ids (seen ++ p ∷ [])) groups
        (λ i g low. group-stays seen p (get_or groups i g) (other-group p (get_or groups i g "location_group_id") (not_equal (get_or groups i g "location_group_id") (p "location_group_id") (λ h.
        false≢true (sym (not_found ids (p "location_group_id") i [] e (omega (arith, group_count))) ∙ equal (p "location_group_id") (get_or ids i []) (sym (id-at i g low ∙ h)))))))

    -- and after one of a stop that isn't known
    groups-pass : (seen : List Values) (p : Values) → position (bytes_eq (p "stop_id")) stop_ids ≡ None
        → map (unordered_group stop_ids (seen ++ p ∷ [])) groups ≡ map (unordered_group stop_ids seen) groups
    groups-pass seen p e =
        unchanged (unordered_group stop_ids seen) (unordered_group stop_ids (seen ++ p ∷ [])) groups
        (λ i g low. group-stays seen p (get_or groups i g) (unknown-stop p (get_or groups i g "location_group_id") e))

    -- ---- a pass over the pairs

    module _ (header : List (List ℕ)) (seen : List RowFields) (row : RowFields) (items : List Group)
        (earlier : items ≡ map (unordered_group stop_ids (values_under header seen)) groups) where
      abbrev p : Values
      p = values_of header row.fields

      later : map (unordered_group stop_ids (values_under header seen ++ p ∷ [])) groups ≡ map (unordered_group stop_ids (values_under header (seen ++ row ∷ []))) groups
      later = ap (λ vs. map (unordered_group stop_ids vs) groups) (sym (values_more header seen row))

      -- one more pair is of the group at a index
      pub member_added : AreIds ids → (id stop : List ℕ) (k index : ℕ) (old new : Group) → id ≡ values_of header row.fields "location_group_id" → stop ≡ values_of header row.fields "stop_id"
          → position (bytes_eq id) ids ≡ Some k → position (bytes_eq stop) stop_ids ≡ Some index
          → old ≡ get_or items k old → new ≡ with_member index old
          → set items k new ≡ map (unordered_group stop_ids (values_under header (seen ++ row ∷ []))) groups
      member_added are id stop k index old new id_is stop_is found found' was becomes =
          ap (set items k) (becomes ∙ ap (with_member index) was)
          ∙ ap (λ xs. set xs k (with_member index (get_or xs k old))) earlier
          ∙ sym (groups-more are (values_under header seen) p k index old (ap (λ t. position (bytes_eq t) ids) (sym id_is) ∙ found) (ap (λ t. position (bytes_eq t) stop_ids) (sym stop_is) ∙ found'))
          ∙ later

      -- of none of them
      pub group_passed : (id : List ℕ) → id ≡ values_of header row.fields "location_group_id" → position (bytes_eq id) ids ≡ None
          → items ≡ map (unordered_group stop_ids (values_under header (seen ++ row ∷ []))) groups
      group_passed id id_is found = earlier ∙ sym (groups-stay (values_under header seen) p (ap (λ t. position (bytes_eq t) ids) (sym id_is) ∙ found)) ∙ later

      -- or of a stop that isn't known
      pub stop_passed : (stop : List ℕ) → stop ≡ values_of header row.fields "stop_id" → position (bytes_eq stop) stop_ids ≡ None
          → items ≡ map (unordered_group stop_ids (values_under header (seen ++ row ∷ []))) groups
      stop_passed stop stop_is found = earlier ∙ sym (groups-pass (values_under header seen) p (ap (λ t. position (bytes_eq t) stop_ids) (sym stop_is) ∙ found)) ∙ later
