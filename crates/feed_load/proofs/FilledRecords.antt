-- The times that are filled of a trip's rows are those of its records.
use Rattle.std.proofs.Common.{◌≡◌, ◌≢◌, ℕ, zero, suc, ◌+◌, ◌-◌, ◌<◌, ◌≤◌, Bool, true, false, cond, not, ◌&&◌, ◌||◌, List, [], ◌∷◌, All, AllPairs, Contains, Option, None, Some, map, take, length, get_or, refl, sym, ◌∙◌, ap, subst, arith, ◌⊎◌, inl, inr}
use Rattle.std.specs.Prelude.{count_by, is_none, is_some, unwrap_or}
use Rattle.std.specs.List.{filter, find, list_any}
use Rattle.std.specs.List.Sorted.{IsPermutation}
use Rattle.std.specs.Str.{bytes_eq}
use Rattle.std.proofs.lemmas.Bool.{and_from, and_left, and_parts, and_right, cases_Bool, cases_lt, cases_order, false_from_ne_true, false≢true, not-true, not_from_false}
use Rattle.std.proofs.lemmas.List.{get_or-map, get_or_default, length-map, take-map, take_all}
use Rattle.std.proofs.lemmas.List.Elements.{All-filter}
use Rattle.std.proofs.lemmas.List.Sorted.{All-permutation, Contains-permutation, IsPermutation-sym, sum_by-IsPermutation}
use Rattle.std.proofs.lemmas.List.Sums.{count_by_more_no, count_by_more_yes, sum_by-cons}
use Rattle.std.proofs.lemmas.Slice.Eq.{bytes_eq-Decides}
use Rattle.feed_tables.specs.Refusals.{is_given}
use Rattle.field_text.specs.Grammars.{time}
use Rattle.feed_meaning.specs.FeedLinks as Link
use Rattle.feed_meaning.specs.FeedLinks.{is_before, nearest_after, nearest_before}
use Rattle.feed_meaning.specs.FeedRules.{has_time, has_window}
use Rattle.feed_meaning.specs.FeedValue.{count_between, filled, filled_between}
use Rattle.feed_meaning.specs.FeedValue as Value
use Rattle.feed_meaning.specs.Rules.{Values, is_bad}
use Rattle.feed_meaning.proofs.Nearest.{any_item, contains_filter, filter_contains, find_item, item_any}
use Rattle.feed_meaning.proofs.TripOrder.{before_irreflexive, before_is, before_transitive}
use Rattle.feed_load.specs.Drafts.{given_of}
use Rattle.feed_load.specs.LinearTimes.{IsBetween, IsFilledAt, arrival, departure, is_timed, is_timed_at, is_untimed, row_at, share, time_between, untimed_before}
use Rattle.feed_load.specs.WholeTrips.{IsTripRecord}
use Rattle.feed_load.specs.declared.linear_times.GivenRow.{GivenRow}
use Rattle.feed_load.proofs.LinearGaps.{blank, timed-low, untimed-low}

-- ---- searches and counts

find-fails : {X : Type 0} (p : X → Bool) (xs : List X) → list_any p xs ≡ false → find p xs ≡ None
find-fails p [] e = refl
find-fails p (x ∷ xs) e = by (λ h. find-fails p xs h) (p x) e
  where
    by : (list_any p xs ≡ false → find p xs ≡ None) → (b : Bool) → (b || list_any p xs) ≡ false → cond b (Some x) (find p xs) ≡ None
    by rest true h = absurd (false≢true (sym h))
    by rest false h = rest h

-- a search finds an item that passes, or none does
abbrev Found : {X : Type 0} → (X → Bool) → List X → Type 0
Found p xs = ((find p xs ≡ None) × (list_any p xs ≡ false)) ⊎ ((x : _) × (find p xs ≡ Some x) × Contains xs x × (p x ≡ true))

found : {X : Type 0} (p : X → Bool) (xs : List X) → Found p xs
found p xs = elim (cases_Bool (list_any p xs)) [
  | inl some ↦ inr (find_item p xs some)
  | inr none ↦ inl (find-fails p xs none, none)
]

-- items that pass are counted among those that pass a weaker test
count-among : {X : Type 0} (p t : X → Bool) (xs : List X) → ((x : X) → p x ≡ true → t x ≡ true) → count_by p (filter t xs) ≡ count_by p xs
count-among p t [] imp = refl
count-among p t (x ∷ xs) imp = by (t x) refl (p x) refl (count-among p t xs imp) ∙ sym (sum_by-cons (λ y. cond (p y) 1 0) x xs)
  where
    by : (b : Bool) → t x ≡ b → (c : Bool) → p x ≡ c → count_by p (filter t xs) ≡ count_by p xs → count_by p (cond b (x ∷ filter t xs) (filter t xs)) ≡ cond (p x) 1 0 + count_by p xs
    by true is c is' rest = sum_by-cons (λ y. cond (p y) 1 0) x (filter t xs) ∙ ap (λ n. cond (p x) 1 0 + n) rest
    by false is true is' rest = absurd (false≢true (sym is ∙ imp x is'))
    by false is false is' rest = rest ∙ sym (Rattle.std.proofs.Common.zero-add (count_by p xs)) ∙ ap (λ b. cond b 1 0 + count_by p xs) (sym is')

-- a count of what is kept
count-kept : {X : Type 0} (p w : X → Bool) (xs : List X) → count_by p (filter w xs) ≡ count_by (λ x. w x && p x) xs
count-kept p w [] = refl
count-kept p w (x ∷ xs) = by (w x) (count-kept p w xs) ∙ sym (sum_by-cons (λ y. cond (w y && p y) 1 0) x xs)
  where
    by : (b : Bool) → count_by p (filter w xs) ≡ count_by (λ x. w x && p x) xs → count_by p (cond b (x ∷ filter w xs) (filter w xs)) ≡ cond (b && p x) 1 0 + count_by (λ x. w x && p x) xs
    by true rest = sum_by-cons (λ y. cond (p y) 1 0) x (filter w xs) ∙ ap (λ n. cond (p x) 1 0 + n) rest
    by false rest = rest ∙ sym (Rattle.std.proofs.Common.zero-add _)

count-map : {X Y : Type 0} (f : X → Y) (p : Y → Bool) (xs : List X) → count_by p (map f xs) ≡ count_by (λ x. p (f x)) xs
count-map f p [] = refl
count-map f p (x ∷ xs) =
    sum_by-cons (λ y. cond (p y) 1 0) (f x) (map f xs) ∙ ap (λ n. cond (p (f x)) 1 0 + n) (count-map f p xs) ∙ sym (sum_by-cons (λ y. cond (p (f y)) 1 0) x xs)

-- a test that is another one after a index and up to a later one, and fails elsewhere
module _ {X : Type 0} (f u : X → Bool) (xs : List X) (d : X) (p q : ℕ) (lt : p < q) (low : q ≤ length xs)
    (early : (j : ℕ) → j < length xs → j ≤ p → f (get_or xs j d) ≡ false)
    (amid : (j : ℕ) → j < length xs → p < j → j < q → f (get_or xs j d) ≡ u (get_or xs j d))
    (late : (j : ℕ) → j < length xs → q ≤ j → f (get_or xs j d) ≡ false)
    (first : u (get_or xs p d) ≡ false) where
  count-early : (n : ℕ) → n ≤ p + 1 → count_by f (take n xs) ≡ 0
  count-early zero le = refl
  count-early (suc n) le =
      let at : n + 1 ≡ suc n = omega arith in
      ap (λ m. count_by f (take m xs)) (sym at) ∙ count_by_more_no f xs n d (omega arith) (early n (omega arith) (omega arith)) ∙ count-early n (omega arith)

  one-more : (n : ℕ) (b : Bool) → n < length xs → f (get_or xs n d) ≡ b → u (get_or xs n d) ≡ b → count_by f (take n xs) + count_by u (take p xs) ≡ count_by u (take n xs)
      → count_by f (take (n + 1) xs) + count_by u (take p xs) ≡ count_by u (take (n + 1) xs)
  one-more n true low' is is' rest =
      let left = count_by_more_yes f xs n d low' is in
      let right = count_by_more_yes u xs n d low' is' in
      omega (arith, left, right, rest)
  one-more n false low' is is' rest =
      let left = count_by_more_no f xs n d low' is in
      let right = count_by_more_no u xs n d low' is' in
      omega (arith, left, right, rest)

  count-amid : (m : ℕ) → p + 1 + m ≤ q → count_by f (take (p + 1 + m) xs) + count_by u (take p xs) ≡ count_by u (take (p + 1 + m) xs)
  count-amid zero le =
      let at : p + 1 + 0 ≡ p + 1 = omega arith in
      let left = count-early (p + 1) (omega arith) in
      let right = count_by_more_no u xs p d (omega arith) first in
      let both : count_by f (take (p + 1) xs) + count_by u (take p xs) ≡ count_by u (take (p + 1) xs) = omega (arith, left, right) in
      subst (λ n. count_by f (take n xs) + count_by u (take p xs) ≡ count_by u (take n xs)) (sym at) both
  count-amid (suc m) le =
      let n = p + 1 + m in
      let at : n + 1 ≡ p + 1 + suc m = omega arith in
      let low' : n < length xs = omega arith in
      subst (λ k. count_by f (take k xs) + count_by u (take p xs) ≡ count_by u (take k xs)) at
      (one-more n (u (get_or xs n d)) low' (amid n low' (omega arith) (omega arith)) refl (count-amid m (omega arith)))

  count-late : (m : ℕ) → q + m ≤ length xs → count_by f (take (q + m) xs) + count_by u (take p xs) ≡ count_by u (take q xs)
  count-late zero le =
      let at : p + 1 + (q - (p + 1)) ≡ q = omega arith in
      let at' : q + 0 ≡ q = omega arith in
      let here = subst (λ k. count_by f (take k xs) + count_by u (take p xs) ≡ count_by u (take k xs)) at (count-amid (q - (p + 1)) (omega arith)) in
      ap (λ k. count_by f (take k xs) + count_by u (take p xs)) at' ∙ here
  count-late (suc m) le =
      let n = q + m in
      let at : q + suc m ≡ n + 1 = omega arith in
      let rest = count-late m (omega arith) in
      let step = count_by_more_no f xs n d (omega arith) (late n (omega arith) (omega arith)) in
      ap (λ k. count_by f (take k xs) + count_by u (take p xs)) at ∙ omega (arith, step, rest)

  pub count-between : count_by f xs + count_by u (take p xs) ≡ count_by u (take q xs)
  count-between =
      let at : q + (length xs - q) ≡ length xs = omega arith in
      ap (λ ys. count_by f ys + count_by u (take p xs)) (sym (ap (λ k. take k xs) at ∙ take_all (length xs) xs (omega arith)))
      ∙ count-late (length xs - q) (omega arith)

-- ---- one record

-- a text that is given and not bad has a value, and no other one has
pub time-given : (text : List ℕ) → is_bad time text ≡ false → is_some (time text) ≡ is_given text
time-given [] fine = refl
time-given (x ∷ text) fine = by (time (x ∷ text)) fine
  where
    by : (o : Option ℕ) → is_none o ≡ false → is_some o ≡ true
    by None e = absurd (false≢true (sym e))
    by (Some n) e = refl

pub time-is : (r : Values) → IsTripRecord r → (is_some (time (r "arrival_time")) || is_some (time (r "departure_time"))) ≡ has_time r
time-is r k =
    ap (λ b. b || is_some (time (r "departure_time"))) (time-given (r "arrival_time") k.arrival) ∙ ap (λ b. is_given (r "arrival_time") || b) (time-given (r "departure_time") k.departure)

pub timed-is : (r : Values) → IsTripRecord r → is_timed (given_of r) ≡ Link.is_timed r
timed-is r k = ap (λ b. not (has_window r) && b) (time-is r k)

pub untimed-is : (r : Values) → IsTripRecord r → is_untimed (given_of r) ≡ Link.is_untimed r
untimed-is r k = ap (λ b. not (has_window r) && not b) (time-is r k)

-- a windowless record that isn't timed is untimed
windowless-untimed : (w t : Bool) → (not w && t) ≡ false → not w ≡ (not w && not t)
windowless-untimed true t e = refl
windowless-untimed false true e = absurd (false≢true (sym e))
windowless-untimed false false e = refl

timed-fails : (w t : Bool) → (not w && t) ≡ true → (not w && not t) ≡ false
timed-fails true t e = absurd (false≢true e)
timed-fails false true e = refl
timed-fails false false e = absurd (false≢true e)

-- ---- the records of a trip in their order

module _ (rs zs : List Values) (trip : List ℕ) (moved : IsPermutation (filter (λ s. bytes_eq trip (s "trip_id")) rs) zs)
    (up : AllPairs (λ a b. is_before a b ≡ true) zs) (each : All IsTripRecord rs) where
  abbrev of_trip : Values → Bool
  of_trip s = bytes_eq trip (s "trip_id")

  abbrev at : ℕ → Values
  at i = get_or zs i (λ name. [])

  abbrev gs : List GivenRow
  gs = map given_of zs

  abbrev timed : List Values
  timed = filter Link.is_timed rs

  size : length gs ≡ length zs
  size = length-map zs given_of

  record-at : (i : ℕ) → i < length zs → IsTripRecord (at i)
  record-at i low = All-permutation IsTripRecord (filter of_trip rs) zs moved (All-filter of_trip IsTripRecord rs each) i (λ name. []) low

  pub row-is : (i : ℕ) → i < length zs → row_at gs i ≡ given_of (at i)
  row-is i low = get_or-map given_of zs i (λ name. []) blank low

  there : (i : ℕ) → i < length zs → Contains rs (at i) × (of_trip (at i) ≡ true)
  there i low = contains_filter of_trip rs (at i) (Contains-permutation zs (filter of_trip rs) (at i) (IsPermutation-sym (filter of_trip rs) zs moved) (i, low, get_or_default zs i (at i) (λ name. []) low))

  timed-there : (i : ℕ) → i < length zs → Link.is_timed (at i) ≡ true → Contains timed (at i)
  timed-there i low e = filter_contains Link.is_timed rs (at i) (there i low).0 e

  -- the index of a timed record of the trip
  placed : (s : Values) → Contains timed s → s "trip_id" ≡ trip → (i : ℕ) × (i < length zs) × (at i ≡ s) × (Link.is_timed s ≡ true)
  placed s c same =
      let t = contains_filter Link.is_timed rs s c in
      let z = Contains-permutation (filter of_trip rs) zs s moved (filter_contains of_trip rs s t.0 ((bytes_eq-Decides trip (s "trip_id")).1 (sym same))) in
      (z.0, z.1, get_or_default zs z.0 (λ name. []) s z.1 ∙ z.2, t.1)

  trip-at : (i : ℕ) → i < length zs → at i "trip_id" ≡ trip
  trip-at i low = sym ((bytes_eq-Decides trip (at i "trip_id")).0 (there i low).1)

  earlier : (i j : ℕ) → i < j → j < length zs → is_before (at i) (at j) ≡ true
  earlier i j lt low = up i j (λ name. []) lt low

  not-earlier : (i j : ℕ) → i < length zs → j ≤ i → is_before (at i) (at j) ≡ false
  not-earlier i j low le = false_from_ne_true (is_before (at i) (at j)) (λ e. elim (cases_lt j i) [
    | inl lt ↦ false≢true (sym (before_irreflexive (at i)) ∙ before_transitive (at i) (at j) (at i) e (earlier j i lt low))
    | inr ge ↦ let same : j ≡ i = omega arith in false≢true (sym (before_irreflexive (at i)) ∙ ap (λ k. is_before (at i) (at k)) (sym same) ∙ e)
  ])

  is-earlier : (i j : ℕ) → i < length zs → is_before (at i) (at j) ≡ true → i < j
  is-earlier i j low e = elim (cases_lt i j) [
    | inl lt ↦ lt
    | inr le ↦ absurd (false≢true (sym (not-earlier i j low le) ∙ e))
  ]

  timed-row : (i : ℕ) → i < length zs → is_timed_at gs i ≡ Link.is_timed (at i)
  timed-row i low = ap is_timed (row-is i low) ∙ timed-is (at i) (record-at i low)

  -- ---- counts

  amid-is : (p q j : ℕ) → j < length zs → p < j → j < q → q < length zs → is_timed_at gs j ≡ false
      → (not (has_window (at j)) && (is_before (at p) (at j) && is_before (at j) (at q))) ≡ is_untimed (given_of (at j))
  amid-is p q j low lt lt' high none =
      ap (λ b. not (has_window (at j)) && (b && is_before (at j) (at q))) (earlier p j lt low)
      ∙ ap (λ b. not (has_window (at j)) && b) (earlier j q lt' high)
      ∙ plain (has_window (at j))
      ∙ windowless-untimed (has_window (at j)) (has_time (at j)) (sym (timed-row j low) ∙ none)
      ∙ sym (untimed-is (at j) (record-at j low))
    where
      plain : (w : Bool) → (not w && true) ≡ not w
      plain true = refl
      plain false = refl

  trip-of-between : (p q : ℕ) (s : Values) → p < length zs → (not (has_window s) && (is_before (at p) s && is_before s (at q))) ≡ true → of_trip s ≡ true
  trip-of-between p q s low e =
      let parts = and_parts (not (has_window s)) (is_before (at p) s && is_before s (at q)) e in
      let one = and_parts (is_before (at p) s) (is_before s (at q)) parts.1 in
      (bytes_eq-Decides trip (s "trip_id")).1 (sym (trip-at p low) ∙ (before_is (at p) s one.0).trip)

  untimed-count : (i : ℕ) → untimed_before gs i ≡ count_by (λ r. is_untimed (given_of r)) (take i zs)
  untimed-count i = ap (count_by is_untimed) (take-map given_of i zs) ∙ count-map given_of is_untimed (take i zs)

  -- how many windowless records lie between two places, of which the first is timed and none between is
  pub between-is : (p q : ℕ) → p < q → q < length zs → is_timed_at gs p ≡ true → ((j : ℕ) → p < j → j < q → is_timed_at gs j ≡ false)
      → count_between (filter (λ s. not (has_window s)) rs) (at p) (at q) ≡ untimed_before gs q - untimed_before gs p
  between-is p q lt low first none =
      let test : Values → Bool = λ s. not (has_window s) && (is_before (at p) s && is_before s (at q)) in
      let u : Values → Bool = λ r. is_untimed (given_of r) in
      let fails : u (at p) ≡ false =
      untimed-is (at p) (record-at p (omega arith)) ∙ timed-fails (has_window (at p)) (has_time (at p)) (sym (timed-row p (omega arith)) ∙ first) in
      let all : count_by test zs + count_by u (take p zs) ≡ count_by u (take q zs) =
      count-between test u zs (λ name. []) p q lt (omega arith)
      (λ j low' le. and_right (not (has_window (at j))) (is_before (at p) (at j) && is_before (at j) (at q)) (and_left (is_before (at p) (at j)) (is_before (at j) (at q)) (not-earlier p j (omega arith) le)))
      (λ j low' lt' lt''. amid-is p q j low' lt' lt'' low (none j lt' lt''))
      (λ j low' le. and_right (not (has_window (at j))) (is_before (at p) (at j) && is_before (at j) (at q)) (and_right (is_before (at p) (at j)) (is_before (at j) (at q)) (not-earlier j q low' le)))
      fails in
      let same : count_between (filter (λ s. not (has_window s)) rs) (at p) (at q) ≡ count_by test zs =
      count-kept (λ s. is_before (at p) s && is_before s (at q)) (λ s. not (has_window s)) rs
      ∙ sym (count-among test of_trip rs (λ s e. trip-of-between p q s (omega arith) e))
      ∙ sym (sum_by-IsPermutation (λ s. cond (test s) 1 0) (filter of_trip rs) zs moved) in
      let left = untimed-count p in
      let right = untimed-count q in
      same ∙ omega (arith, all, left, right)

  -- ---- neighbours

  abbrev test_before : ℕ → Values → Bool
  test_before i a = is_before a (at i) && not (list_any (λ b. is_before a b && is_before b (at i)) timed)

  abbrev test_after : ℕ → Values → Bool
  test_after i a = is_before (at i) a && not (list_any (λ b. is_before (at i) b && is_before b a) timed)

  -- the index of the nearest timed record before one
  record IsFormer (i : ℕ) (f : Values) : Type 0 where
    p : ℕ
    is : at p ≡ f
    before : p < i
    timed : is_timed_at gs p ≡ true
    none : (j : ℕ) → p < j → j < i → is_timed_at gs j ≡ false

  former-is : (i : ℕ) (f : Values) → i < length zs → Contains timed f → test_before i f ≡ true → IsFormer i f
  former-is i f low c e =
      let parts = and_parts (is_before f (at i)) (not (list_any (λ b. is_before f b && is_before b (at i)) timed)) e in
      let index = placed f c ((before_is f (at i) parts.0).trip ∙ trip-at i low) in
      let p = index.0 in
      let lt = is-earlier p i index.1 (ap (λ s. is_before s (at i)) index.2 ∙ parts.0) in
      record {
        p = p;
        is = index.2;
        before = lt;
        timed = timed-row p index.1 ∙ ap Link.is_timed index.2 ∙ index.3;
        none = λ j lt' lt''. false_from_ne_true (is_timed_at gs j) (λ t.
            let low_j : j < length zs = omega arith in
            false≢true (sym (not-true (list_any (λ b. is_before f b && is_before b (at i)) timed) parts.1)
            ∙ item_any (λ b. is_before f b && is_before b (at i)) timed (at j) (timed-there j low_j (sym (timed-row j low_j) ∙ t))
            (and_from (is_before f (at j)) (is_before (at j) (at i)) (ap (λ s. is_before s (at j)) (sym index.2) ∙ earlier p j lt' low_j) (earlier j i lt'' low))));
      }

  record IsLatter (i : ℕ) (l : Values) : Type 0 where
    q : ℕ
    low : q < length zs
    is : at q ≡ l
    after : i < q
    timed : is_timed_at gs q ≡ true
    none : (j : ℕ) → i < j → j < q → is_timed_at gs j ≡ false

  latter-is : (i : ℕ) (l : Values) → i < length zs → Contains timed l → test_after i l ≡ true → IsLatter i l
  latter-is i l low c e =
      let parts = and_parts (is_before (at i) l) (not (list_any (λ b. is_before (at i) b && is_before b l) timed)) e in
      let index = placed l c (sym (before_is (at i) l parts.0).trip ∙ trip-at i low) in
      let q = index.0 in
      let lt = is-earlier i q low (ap (is_before (at i)) index.2 ∙ parts.0) in
      record {
        q = q;
        low = index.1;
        is = index.2;
        after = lt;
        timed = timed-row q index.1 ∙ ap Link.is_timed index.2 ∙ index.3;
        none = λ j lt' lt''. false_from_ne_true (is_timed_at gs j) (λ t.
            let high : q < length zs = index.1 in
            let low_j : j < length zs = omega arith in
            false≢true (sym (not-true (list_any (λ b. is_before (at i) b && is_before b l) timed) parts.1)
            ∙ item_any (λ b. is_before (at i) b && is_before b l) timed (at j) (timed-there j low_j (sym (timed-row j low_j) ∙ t))
            (and_from (is_before (at i) (at j)) (is_before (at j) l) (earlier i j lt' low_j) (ap (is_before (at j)) (sym index.2) ∙ earlier j q lt'' high))));
      }

  low-timed : (j : ℕ) → is_timed_at gs j ≡ true → j < length zs
  low-timed j t = let low = timed-low gs j t in omega (arith, low, size)

  -- a row in a gap has a nearest timed record on either side
  no-former : (p i q : ℕ) → IsBetween gs p i q → list_any (test_before i) timed ≡ false → ⊥
  no-former p i q b none =
      let low_i : i < length zs = let lt = b.before in let low = low-timed q b.gap.latter in omega (arith, lt, low) in
      let low_p = low-timed p b.gap.former in
      false≢true (sym none ∙ item_any (test_before i) timed (at p) (timed-there p low_p (sym (timed-row p low_p) ∙ b.gap.former))
      (and_from (is_before (at p) (at i)) (not (list_any (λ s. is_before (at p) s && is_before s (at i)) timed)) (earlier p i b.after low_i)
      (not_from_false (list_any (λ s. is_before (at p) s && is_before s (at i)) timed) (false_from_ne_true (list_any (λ s. is_before (at p) s && is_before s (at i)) timed) (λ e.
      let s = any_item (λ s. is_before (at p) s && is_before s (at i)) timed e in
      let parts = and_parts (is_before (at p) s.0) (is_before s.0 (at i)) s.2 in
      let index = placed s.0 s.1 ((before_is s.0 (at i) parts.1).trip ∙ trip-at i low_i) in
      let lt = is-earlier p index.0 low_p (ap (is_before (at p)) index.2 ∙ parts.0) in
      let lt' = is-earlier index.0 i index.1 (ap (λ x. is_before x (at i)) index.2 ∙ parts.1) in
      let lt'' = b.before in
      false≢true (sym (b.gap.none index.0 lt (omega arith)) ∙ timed-row index.0 index.1 ∙ ap Link.is_timed index.2 ∙ index.3))))))

  no-latter : (p i q : ℕ) → IsBetween gs p i q → list_any (test_after i) timed ≡ false → ⊥
  no-latter p i q b none =
      let low_q = low-timed q b.gap.latter in
      let low_i : i < length zs = let lt = b.before in omega (arith, lt, low_q) in
      false≢true (sym none ∙ item_any (test_after i) timed (at q) (timed-there q low_q (sym (timed-row q low_q) ∙ b.gap.latter))
      (and_from (is_before (at i) (at q)) (not (list_any (λ s. is_before (at i) s && is_before s (at q)) timed)) (earlier i q b.before low_q)
      (not_from_false (list_any (λ s. is_before (at i) s && is_before s (at q)) timed) (false_from_ne_true (list_any (λ s. is_before (at i) s && is_before s (at q)) timed) (λ e.
      let s = any_item (λ s. is_before (at i) s && is_before s (at q)) timed e in
      let parts = and_parts (is_before (at i) s.0) (is_before s.0 (at q)) s.2 in
      let index = placed s.0 s.1 ((before_is s.0 (at q) parts.1).trip ∙ trip-at q low_q) in
      let lt = is-earlier i index.0 low_i (ap (is_before (at i)) index.2 ∙ parts.0) in
      let lt' = is-earlier index.0 q index.1 (ap (λ x. is_before x (at q)) index.2 ∙ parts.1) in
      let lt'' = b.after in
      false≢true (sym (b.gap.none index.0 (omega arith) lt') ∙ timed-row index.0 index.1 ∙ ap Link.is_timed index.2 ∙ index.3))))))

  -- ---- the time of an untimed record

  abbrev windowless : List Values
  windowless = filter (λ s. not (has_window s)) rs

  -- the times of a row are those of its record
  abbrev HasTimes : ℕ → GivenRow → Type 0
  HasTimes i row = (arrival row ≡ filled rs (at i)) × (departure row ≡ filled rs (at i))

  in-gap : (i : ℕ) (row : GivenRow) (f l : Values) → i < length zs → is_untimed (row_at gs i) ≡ true → IsFilledAt gs i row → IsFormer i f → IsLatter i l
      → nearest_before timed (at i) ≡ Some f → nearest_after timed (at i) ≡ Some l → HasTimes i row
  in-gap i row f l low un fill former latter is_former is_latter =
      let p = former.p in
      let q = latter.q in
      let lt = former.before in
      let lt' = latter.after in
      let none : (j : ℕ) → p < j → j < q → is_timed_at gs j ≡ false = λ j a b. elim (cases_order j i) [
        | inl e ↦ ap (λ k. is_timed_at gs k) e ∙ false_from_ne_true (is_timed_at gs i) (λ t. Rattle.feed_load.proofs.LinearGaps.not-both (row_at gs i) t un)
        | inr (inl less) ↦ former.none j a less
        | inr (inr more) ↦ latter.none j more b
      ] in
      let between : IsBetween gs p i q = record { gap = record { former = former.timed; latter = latter.timed; none = none }; untimed = un; after = lt; before = lt' } in
      let is_row = fill.filled p q between in
      let low_p : p < length zs = omega arith in
      let one = between-is p i lt low former.timed former.none in
      let all = between-is p q (omega arith) latter.low former.timed none in
      let leaves : departure (row_at gs p) ≡ unwrap_or (Link.departure (at p)) 0 = ap departure (row-is p low_p) in
      let reaches : arrival (row_at gs q) ≡ unwrap_or (Link.arrival (at q)) 0 = ap arrival (row-is q latter.low) in
      let time : filled rs (at i) ≡ time_between gs p i q =
      ap (λ o. filled_between windowless o (nearest_after timed (at i)) (at i)) is_former
      ∙ ap (λ o. filled_between windowless (Some f) o (at i)) is_latter
      ∙ ap (λ s. Value.time_between windowless s l (at i)) (sym former.is)
      ∙ ap (λ s. Value.time_between windowless (at p) s (at i)) (sym latter.is)
      ∙ ap (λ n. share n (unwrap_or (Link.arrival (at q)) 0) (count_between windowless (at p) (at i) + 1) (count_between windowless (at p) (at q) + 1)) (sym leaves)
      ∙ ap (λ n. share (departure (row_at gs p)) n (count_between windowless (at p) (at i) + 1) (count_between windowless (at p) (at q) + 1)) (sym reaches)
      ∙ ap (λ n. share (departure (row_at gs p)) (arrival (row_at gs q)) (n + 1) (count_between windowless (at p) (at q) + 1)) one
      ∙ ap (λ n. share (departure (row_at gs p)) (arrival (row_at gs q)) (untimed_before gs i - untimed_before gs p + 1) (n + 1)) all in
      (ap arrival is_row ∙ sym time, ap departure is_row ∙ sym time)

  untimed-none : (row : GivenRow) → is_untimed row ≡ true → (arrival row ≡ 0) × (departure row ≡ 0)
  untimed-none row un =
      let some = not-true (is_some row.arrives || is_some row.departs) (and_parts (not row.window) (not (is_some row.arrives || is_some row.departs)) un).1 in
      by row.arrives row.departs some
    where
      by : (a d : Option ℕ) → (is_some a || is_some d) ≡ false → (unwrap_or (Rattle.std.specs.Option.option_or a d) 0 ≡ 0) × (unwrap_or (Rattle.std.specs.Option.option_or d a) 0 ≡ 0)
      by None None e = (refl, refl)
      by None (Some d) e = absurd (false≢true (sym e))
      by (Some a) d e = absurd (false≢true (sym e))

  out-of-gap : (i : ℕ) (row : GivenRow) → is_untimed (row_at gs i) ≡ true → IsFilledAt gs i row → ((p q : ℕ) → IsBetween gs p i q → ⊥) → filled rs (at i) ≡ 0 → HasTimes i row
  out-of-gap i row un fill none time =
      let is_row = fill.kept none in
      let zeros = untimed-none (row_at gs i) un in
      (ap arrival is_row ∙ zeros.0 ∙ sym time, ap departure is_row ∙ zeros.1 ∙ sym time)

  no-latter-time : (o : Option Values) (r : Values) → filled_between windowless o None r ≡ 0
  no-latter-time None r = refl
  no-latter-time (Some f) r = refl

  pub untimed-times : (i : ℕ) (row : GivenRow) → i < length zs → is_untimed (row_at gs i) ≡ true → IsFilledAt gs i row → HasTimes i row
  untimed-times i row low un fill = elim (found (test_before i) timed) [
    | inl none ↦ out-of-gap i row un fill (λ p q b. no-former p i q b none.1) (ap (λ o. filled_between windowless o (nearest_after timed (at i)) (at i)) none.0)
    | inr f ↦ elim (found (test_after i) timed) [
      | inl none ↦
          out-of-gap i row un fill (λ p q b. no-latter p i q b none.1)
          (ap (λ o. filled_between windowless (nearest_before timed (at i)) o (at i)) none.0 ∙ no-latter-time (nearest_before timed (at i)) (at i))
      | inr l ↦ in-gap i row f.0 l.0 low un fill (former-is i f.0 low f.2 f.3) (latter-is i l.0 low l.2 l.3) f.1 l.1
    ]
  ]
