-- Zones and their day tables.
use Rattle.std.proofs.Common.{◌≡◌, ℕ, ◌+◌, ◌-◌, ◌<◌, ◌≤◌, ℤ, pos, negsuc, ◌+ℤ◌, ◌-ℤ◌, ◌*ℤ◌, ◌≤ℤ◌, List, [], ◌∷◌, ◌++◌, Some, slice_get, length, get_or, take, drop, refl, ap, sym, ◌∙◌, subst, lit≤, arith}
use Rattle.std.specs.Prelude.{map, unsigned_abs}
use Rattle.std.specs.Int.{int_div_euclid}
use Rattle.std.specs.List.{range_with_len, slice_range}
use Rattle.std.proofs.lemmas.Int.{ints}
use Rattle.std.proofs.lemmas.List.{get_or-drop, get_or-take, length-drop, length-take, length-take-le, take_more}
use Rattle.std.proofs.lemmas.List.FromFn.{get_or-map-range_with_len, length-map-range_with_len}
use Rattle.std.proofs.lemmas.Option.{get_or_from_slice_get, slice_get-get_or, slice_get_within}
use Rattle.flex_model.specs.declared.moment.DayTable.{DayTable}
use Rattle.flex_model.specs.declared.query.Query.{Query}
use Rattle.flex_model.specs.SoundQuery.{IsDayTableOf, IsQueryMoment, IsSoundDayTable}
use Rattle.flex_model.specs.ServiceDay.{BeginsAt}
use Rattle.flex_model.proofs.Found.{slice_get_unique}
use Rattle.service_days.specs.Bases.{IsZone, UtcDaysBeginAtMidnight, base_of_noon, day_count, first_day, table_first, table_of, table_index, utc_bases, utc_bases_from, utc_noon}

-- an item of a part of a list, in the list itself
pub slice_get-slice_range : {X : Type 0} (xs : List X) (a b k : ℕ) (x : X) → slice_get (slice_range xs a b) k ≡ Some x → slice_get xs (a + k) ≡ Some x
slice_get-slice_range xs a b k x e =
    let n = b - a in
    let within : k < length (take n (drop a xs)) = slice_get_within (take n (drop a xs)) k x e in
    let size = length-take n (drop a xs) in
    let rest = length-drop a xs in
    let few : k < n = omega (arith, within, size) in
    let inside : a + k < length xs = omega (arith, within, size, rest) in
    let value : get_or xs (a + k) x ≡ x = sym (get_or-drop a xs k x) ∙ sym (get_or-take n (drop a xs) k x few) ∙ get_or_from_slice_get (take n (drop a xs)) k x x e in
    slice_get-get_or xs (a + k) x inside ∙ ap Some value

utc-length : (day count : ℕ) → length (utc_bases_from day count) ≡ count
unfolding utc_bases_from
utc-length day count = length-map-range_with_len (λ d. base_of_noon (utc_noon (pos d))) day count

-- the base of each day in UTC
pub utc-at : (day count k : ℕ) → k < count → slice_get (utc_bases_from day count) k ≡ Some (base_of_noon (utc_noon (pos (day + k))))
unfolding utc_bases_from
utc-at day count k lt =
    let bases = map (λ d. base_of_noon (utc_noon (pos d))) (range_with_len day count) in
    let size = length-map-range_with_len (λ d. base_of_noon (utc_noon (pos d))) day count in
    slice_get-get_or bases k (pos 0) (omega (arith, lt, size)) ∙ ap Some (get_or-map-range_with_len (λ d. base_of_noon (utc_noon (pos d))) day count k (day + k) (pos 0) lt refl)

utc-base : (day count k : ℕ) (base : ℤ) → slice_get (utc_bases_from day count) k ≡ Some base → base ≡ pos 86400 *ℤ (pos day +ℤ pos k)
utc-base day count k base e =
    let within = slice_get_within (utc_bases_from day count) k base e in
    let size = utc-length day count in
    let same : base ≡ base_of_noon (utc_noon (pos (day + k))) = slice_get_unique (utc_bases_from day count) k _ _ e (utc-at day count k (omega (arith, within, size))) in
    omega (arith, ints, same)

near_itself : (a b : ℤ) → a ≡ b → unsigned_abs (a -ℤ b) ≤ 93599
near_itself a b e =
    let none : a -ℤ b ≡ pos 0 = omega (arith, ints, e) in
    subst (λ z. unsigned_abs z ≤ 93599) (sym none) (lit≤ tt)

pub utc_is_zone : IsZone utc_bases
utc_is_zone = record {
  count = utc-length first_day day_count;
  near = λ k base e. near_itself base _ (utc-base first_day day_count k base e);
}

-- one more base after those from a index on
pub one_more : (bases : List ℤ) (start index : ℕ) (base : ℤ) → start ≤ index → slice_get bases index ≡ Some base
    → take (index + 1 - start) (drop start bases) ≡ take (index - start) (drop start bases) ++ base ∷ []
one_more bases start index base low e =
    let within = slice_get_within bases index base e in
    let size = length-drop start bases in
    let step : index + 1 - start ≡ (index - start) + 1 = omega arith in
    let at : start + (index - start) ≡ index = omega arith in
    let value : get_or (drop start bases) (index - start) (pos 0) ≡ base =
    get_or-drop start bases (index - start) (pos 0) ∙ ap (λ n. get_or bases n (pos 0)) at ∙ get_or_from_slice_get bases index base (pos 0) e in
    ap (λ n. take n (drop start bases)) step ∙ take_more (drop start bases) (index - start) (pos 0) (omega (arith, size, within))
    ∙ ap (λ x. take (index - start) (drop start bases) ++ x ∷ []) value

-- the day of a departure
pub day_bounds : (depart : ℤ) → IsQueryMoment depart → (pos 7305 ≤ℤ int_div_euclid depart (pos 86400)) × (int_div_euclid depart (pos 86400) ≤ℤ pos 84005)
day_bounds (pos d) h =
    let low : pos 631152000 ≤ℤ pos d = h.low in
    let high : pos d ≤ℤ pos 7258118399 = h.high in
    (omega (arith, ints), omega (arith, ints))
day_bounds (negsuc d) h = absurd (let low : pos 631152000 ≤ℤ negsuc d = h.low in omega (arith, ints))

pub place_of : (z : ℤ) (n : ℕ) → pos n ≡ z → first_day ≤ n → unsigned_abs (z -ℤ pos first_day) ≡ n - first_day
place_of z n e low =
    let back : z -ℤ pos first_day ≡ pos (n - first_day) = omega (arith, ints) in
    ap unsigned_abs back

-- the table that was made is the departure's
pub table_made : (bases base : List ℤ) (depart day : ℤ) (first start index : ℕ) → pos first ≡ table_first depart → day ≡ pos first → first_day ≤ first
    → start ≡ first - first_day → base ≡ take (index - start) (drop start bases) → index ≡ start + 1526
    → (let made : DayTable = record { first = day; base = base } in made) ≡ table_of bases depart
unfolding table_of
table_made bases base depart day first start index is same low at taken end =
    let place_is : table_index depart ≡ start = place_of (table_first depart) first is low ∙ sym at in
    let base_is : base ≡ slice_range bases (table_index depart) (table_index depart + 1526) =
    taken ∙ ap (λ p. take (p - start) (drop start bases)) end ∙ ap (λ s. take (s + 1526 - s) (drop s bases)) (sym place_is) in
    let day_is : day ≡ table_first depart = same ∙ is in
    ap (λ d. let t : DayTable = record { first = d; base = base } in t) day_is ∙ ap (λ b. let t : DayTable = record { first = table_first depart; base = b } in t) base_is

natural : (z : ℤ) → pos 0 ≤ℤ z → pos (unsigned_abs z) ≡ z
natural (pos n) low = refl
natural (negsuc n) low = absurd (omega (arith, ints))

-- where a day stands among the days of a zone
place_is : (day : ℤ) → pos first_day ≤ℤ day → pos (unsigned_abs (day -ℤ pos first_day)) ≡ day -ℤ pos first_day
place_is day low = natural (day -ℤ pos first_day) (omega (arith, ints))

-- every zone has a sound table for each departure
pub table_is_sound : (bases : List ℤ) (depart : ℤ) → IsZone bases → IsQueryMoment depart → IsSoundDayTable (table_of bases depart)
unfolding table_of
table_is_sound bases depart zone sound =
    let bounds = day_bounds depart sound in
    let low = bounds.0 in
    let high = bounds.1 in
    let first = table_first depart in
    let start = table_index depart in
    let at : pos start ≡ first -ℤ pos first_day = place_is first (omega (arith, ints)) in
    let size = length-drop start bases in
    let all : length bases ≡ day_count = zone.count in
    let steps : start + 1526 - start ≡ 1526 = omega arith in
    record {
      count = ap (λ n. length (take n (drop start bases))) steps ∙ length-take-le 1526 (drop start bases) (omega (arith, ints, size, all));
      low = omega (arith, ints);
      high = omega (arith, ints);
      near = λ k base e.
          let there = slice_get-slice_range bases start (start + 1526) k base e in
          let same : pos first_day +ℤ pos (start + k) ≡ first +ℤ pos k = omega (arith, ints) in
          subst (λ d. unsigned_abs (base -ℤ (pos 86400 *ℤ d)) ≤ 93599) same (zone.near (start + k) base there);
    }

pub table_is_of_query : (bases : List ℤ) (query : Query) → IsDayTableOf query (table_of bases query.depart)
unfolding table_of
table_is_of_query bases query = omega (arith, ints)

utc_begin : (depart day base : ℤ) → IsQueryMoment depart → BeginsAt (table_of utc_bases depart) day base
    → (table_first depart ≤ℤ day) × (day ≤ℤ (table_first depart +ℤ pos 1525)) × (base ≡ pos 86400 *ℤ day)
unfolding table_of
utc_begin depart day base sound begins =
    let bounds = day_bounds depart sound in
    let low = bounds.0 in
    let first = table_first depart in
    let start = table_index depart in
    let k = begins.0 in
    let at : pos start ≡ first -ℤ pos first_day = place_is first (omega (arith, ints)) in
    let there = slice_get-slice_range utc_bases start (start + 1526) k base begins.1 in
    let value : base ≡ pos 86400 *ℤ (pos first_day +ℤ pos (start + k)) = utc-base first_day day_count (start + k) base there in
    let is : day ≡ first +ℤ pos k = begins.2 in
    let inside = slice_get_within (slice_range utc_bases start (start + 1526)) k base begins.1 in
    let size = length-take (start + 1526 - start) (drop start utc_bases) in
    let few : k < 1526 = omega (arith, inside, size) in
    (omega (arith, ints), omega (arith, ints), omega (arith, ints))

-- the table has a base at each of its places
base_there : (days : DayTable) (k : ℕ) → IsSoundDayTable days → k < 1526 → (base : ℤ) × (slice_get days.base k ≡ Some base)
base_there days k sound few =
    let count : length days.base ≡ 1526 = sound.count in
    (get_or days.base k (pos 0), slice_get-get_or days.base k (pos 0) (omega (arith, count, few)))

first_of_table : (bases : List ℤ) (depart : ℤ) → (table_of bases depart).first ≡ table_first depart
unfolding table_of
first_of_table bases depart = refl

pub utc_days : UtcDaysBeginAtMidnight
utc_days depart day base sound = (utc_begin depart day base sound, back)
  where
    back : (table_first depart ≤ℤ day) × (day ≤ℤ (table_first depart +ℤ pos 1525)) × (base ≡ pos 86400 *ℤ day) → BeginsAt (table_of utc_bases depart) day base
    back h =
        let low : table_first depart ≤ℤ day = h.0 in
        let high : day ≤ℤ (table_first depart +ℤ pos 1525) = h.1 in
        let k = unsigned_abs (day -ℤ table_first depart) in
        let at : pos k ≡ day -ℤ table_first depart = natural (day -ℤ table_first depart) (omega (arith, ints)) in
        let found = base_there (table_of utc_bases depart) k (table_is_sound utc_bases depart utc_is_zone sound) (omega (arith, ints)) in
        let first = first_of_table utc_bases depart in
        let begins : BeginsAt (table_of utc_bases depart) day found.0 = (k, found.1, omega (arith, ints)) in
        let midnight = utc_begin depart day found.0 sound begins in
        let value : found.0 ≡ pos 86400 *ℤ day = midnight.2 in
        subst (BeginsAt (table_of utc_bases depart) day) (value ∙ sym h.2) begins
