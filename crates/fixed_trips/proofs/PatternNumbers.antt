-- The numbering of patterns, trip by trip.
use Rattle.std.proofs.Common.{◌≡◌, ◌↔◌, ◌⊎◌, inl, inr, ℕ, zero, suc, ◌+◌, ◌<◌, ◌≤◌, Bool, true, false, cond, List, [], ◌∷◌, ◌++◌, Option, Some, None, All, length, length-append, map, slice_get, refl, sym, ◌∙◌, ap, ap₂, subst, arith}
use Rattle.std.specs.BTreeMap.{btree_map_len, insert_entry}
use Rattle.std.specs.Cmp.Lexicographic.{slice_cmp}
use Rattle.std.specs.Global.{Vec}
use Rattle.std.specs.Map.{lookup}
use Rattle.std.specs.Ordering.{bool_cmp, is_eq, match_ordering, nat_cmp, ordering_then}
use Rattle.std.specs.declared.cmp.Ordering.{Ordering}
use Rattle.std.specs.declared.cmp.Ordering.TheVariants.{Less, Equal, Greater}
use Rattle.std.proofs.lemmas.Bool.{cases_lt}
use Rattle.std.proofs.lemmas.Map.Lookups.{exact_unsigned}
use Rattle.std.proofs.lemmas.Option.{none-some, same_Some, slice_get_within}
use Rattle.flex_model.specs.declared.feed.Feed.{Feed}
use Rattle.flex_model.specs.declared.trip.Row.{Row}
use Rattle.flex_model.specs.declared.trip.Spot.{Spot}
use Rattle.flex_model.specs.declared.trip.Spot.TheVariants as spot
use Rattle.flex_model.specs.declared.trip.Timing.TheVariants as timing
use Rattle.flex_model.specs.declared.trip.Trip.{Trip}
use Rattle.flex_model.specs.declared.trip.Way.{Way}
use Rattle.flex_model.specs.declared.trip.Way.TheVariants.{No, Free, Book}
use Rattle.flex_model.proofs.Found.{Contains-at, index_of, slice_get_unique}
use Rattle.fixed_trips.specs.PatternParts.{AreNumbered, Call, IsAdded, IsCountOf, IsKept, IsNoted, IsNumbered, Met, compare_calls, is_offered, key_call, key_of, number_of}
use Rattle.fixed_trips.specs.Patterns.{ArePatternsOf, HasPattern, HaveOnePattern, IsOfPattern, IsPatternRow, NeedsNoBooking, call_of}
use Rattle.fixed_trips.specs.Timed.{NamesStop}

-- ---- calls that compare alike are one

then_equal : (o p : Ordering) → ordering_then o p ≡ Equal → (o ≡ Equal) × (p ≡ Equal)
then_equal Equal p e = (refl, e)
then_equal Less p e = absurd (less≢equal e)
  where
    less≢equal : Less ≡ Equal → ⊥
    less≢equal e = cc
then_equal Greater p e = absurd (greater≢equal e)
  where
    greater≢equal : Greater ≡ Equal → ⊥
    greater≢equal e = cc

exact_bools : (x y : Bool) → bool_cmp x y ≡ Equal → x ≡ y
exact_bools false false e = refl
exact_bools true true e = refl
exact_bools false true e = cc
exact_bools true false e = cc

exact_calls : (x y : Call) → compare_calls x y ≡ Equal → x ≡ y
exact_calls x y e =
    let last = then_equal (ordering_then (nat_cmp x.0 y.0) (bool_cmp x.1 y.1)) (bool_cmp x.2 y.2) e in
    let first = then_equal (nat_cmp x.0 y.0) (bool_cmp x.1 y.1) last.0 in
    let a : x.0 ≡ y.0 = exact_unsigned x.0 y.0 first.0 in
    let b : x.1 ≡ y.1 = exact_bools x.1 y.1 first.1 in
    let c : x.2 ≡ y.2 = exact_bools x.2 y.2 last.1 in
    ap (λ n. (n, x.1, x.2)) a ∙ ap (λ p. (y.0, p, x.2)) b ∙ ap (λ q. (y.0, y.1, q)) c

exact_lists : (xs ys : List Call) → slice_cmp compare_calls xs ys ≡ Equal → xs ≡ ys
exact_lists [] [] e = refl
exact_lists [] (y ∷ ys) e = cc
exact_lists (x ∷ xs) [] e = cc
exact_lists (x ∷ xs) (y ∷ ys) e =
    let parts = then_equal (compare_calls x y) (slice_cmp compare_calls xs ys) e in
    ap₂ (λ z zs. z ∷ zs) (exact_calls x y parts.0) (exact_lists xs ys parts.1)

is_equal : (o : Ordering) → is_eq o ≡ true → o ≡ Equal
is_equal Equal e = refl
is_equal Less e = cc
is_equal Greater e = cc

-- the key has these calls
abbrev is_key : List Call → Vec Call → Bool
is_key calls k = is_eq (slice_cmp compare_calls calls k.items)

is_key-same : (calls : List Call) (k : Vec Call) → is_key calls k ≡ true → calls ≡ k.items
is_key-same calls k e = exact_lists calls k.items (is_equal (slice_cmp compare_calls calls k.items) e)

-- ---- one more pattern

abbrev compare_keys : Vec Call → Vec Call → Ordering
compare_keys x y = slice_cmp compare_calls x.items y.items

passed : (calls : List Call) (k : Vec Call) (v : ℕ) (es : List (Vec Call × ℕ)) → is_key calls k ≡ false
    → lookup (is_key calls) (insert_entry compare_keys es k v) ≡ lookup (is_key calls) es
passed calls k v [] differs = ap (λ b. cond b (Some v) None) differs
passed calls k v (e ∷ es) differs = by (passed calls k v es differs) (compare_keys k e.0) refl
  where
    chosen : (o : Ordering) → compare_keys k e.0 ≡ o
        → lookup (is_key calls) (insert_entry compare_keys (e ∷ es) k v)
        ≡ lookup (is_key calls) (match_ordering o ((k, v) ∷ e ∷ es) ((e.0, v) ∷ es) (e ∷ insert_entry compare_keys es k v))
    chosen o f = ap (λ o. lookup (is_key calls) (match_ordering o ((k, v) ∷ e ∷ es) ((e.0, v) ∷ es) (e ∷ insert_entry compare_keys es k v))) f

    by : lookup (is_key calls) (insert_entry compare_keys es k v) ≡ lookup (is_key calls) es → (o : Ordering) → compare_keys k e.0 ≡ o
        → lookup (is_key calls) (insert_entry compare_keys (e ∷ es) k v) ≡ lookup (is_key calls) (e ∷ es)
    by rest Less f = chosen Less f ∙ ap (λ b. cond b (Some v) (lookup (is_key calls) (e ∷ es))) differs
    by rest Equal f =
        let not : is_key calls e.0 ≡ false = ap (λ xs. is_eq (slice_cmp compare_calls calls xs)) (sym (exact_lists k.items e.0.items f)) ∙ differs in
        chosen Equal f ∙ ap (λ b. cond b (Some v) (lookup (is_key calls) es)) not ∙ sym (ap (λ b. cond b (Some e.1) (lookup (is_key calls) es)) not)
    by rest Greater f = chosen Greater f ∙ ap (λ o. cond (is_key calls e.0) (Some e.1) o) rest

pub added : (old new : Met) (k : Vec Call) (v : ℕ) → v ≡ btree_map_len old → number_of old k.items ≡ None → new.entries ≡ insert_entry compare_keys old.entries k v
    → number_of new k.items ≡ Some v → btree_map_len new ≡ btree_map_len old + 1 → IsNoted k.items old new v
added old new k v next absent entries here size = inr (
  record {
    absent = absent;
    here = here ∙ ap Some next;
    others = λ other. by other (is_key other k) refl;
    size = size;
  },
  next,
)
  where
    by : (other : List Call) (b : Bool) → is_key other k ≡ b → (other ≡ k.items) ⊎ (number_of new other ≡ number_of old other)
    by other true e = inl (is_key-same other k e)
    by other false e = inr (ap (lookup (is_key other)) entries ∙ passed other k v old.entries e)

-- ---- lists with one more item

pushed : {X : Type 0} (xs : List X) (y : X) (t : ℕ) (x : X) → slice_get (xs ++ y ∷ []) t ≡ Some x → (slice_get xs t ≡ Some x) ⊎ ((t ≡ length xs) × (x ≡ y))
pushed [] y zero x e = inr (refl, same_Some x y (sym e))
pushed [] y (suc t) x e = absurd (none-some x e)
pushed (z ∷ xs) y zero x e = inl e
pushed (z ∷ xs) y (suc t) x e = elim (pushed xs y t x e) [ inl old ↦ inl old | inr new ↦ inr (ap suc new.0, new.1) ]

push_old : {X : Type 0} (xs : List X) (y : X) (t : ℕ) (x : X) → slice_get xs t ≡ Some x → slice_get (xs ++ y ∷ []) t ≡ Some x
push_old [] y t x e = absurd (none-some x e)
push_old (z ∷ xs) y zero x e = e
push_old (z ∷ xs) y (suc t) x e = push_old xs y t x e

push_last : {X : Type 0} (xs : List X) (y : X) → slice_get (xs ++ y ∷ []) (length xs) ≡ Some y
push_last [] y = refl
push_last (z ∷ xs) y = push_last xs y

-- there is an item below the length
pub item_at : {X : Type 0} (xs : List X) (k : ℕ) → k < length xs → (x : X) × (slice_get xs k ≡ Some x)
item_at [] k lt = absurd (omega (arith, lt))
item_at (x ∷ xs) zero lt = (x, refl)
item_at (x ∷ xs) (suc k) lt = item_at xs k (omega (arith, lt))

-- ---- one more trip

module _ (trips : List Trip) (met new : Met) (patterns : List (Option ℕ)) (trip : Trip) (at : slice_get trips (length patterns) ≡ Some trip)
    (so_far : AreNumbered trips met patterns) where
  few_more : (number : Option ℕ) → length (patterns ++ number ∷ []) ≤ length trips
  few_more number = (let size : length (patterns ++ number ∷ []) ≡ length patterns + 1 = length-append patterns (number ∷ []) in let lt = slice_get_within trips (length patterns) trip at in omega (arith, size, lt))

  -- the trip has no pattern
  next_without : IsKept met new → (HasPattern trip → ⊥) → AreNumbered trips new (patterns ++ None ∷ [])
  next_without kept lacks = record {
    few = few_more None;
    size = (let a = kept.size in let b = so_far.size in let c = length-append patterns (None ∷ []) in omega (arith, a, b, c));
    has = λ t p x of_trip is. elim (pushed patterns None t (Some p) is) [
      | inl old ↦ (let h = so_far.has t p x of_trip old in (h.0, kept.same (key_of x) ∙ h.1))
      | inr last ↦ absurd (none-some p (sym last.1))
    ];
    some = λ t x of_trip lt has. elim (cases_lt t (length patterns)) [
      | inl less ↦ (let found = so_far.some t x of_trip less has in (found.0, push_old patterns None t (Some found.0) found.1))
      | inr le ↦ absurd (lacks (
          let size = length-append patterns (None ∷ []) in
          let e : t ≡ length patterns = omega (arith, size, lt, le) in
          subst HasPattern (slice_get_unique trips (length patterns) x trip (subst (λ k. slice_get trips k ≡ Some x) e of_trip) at) has))
    ];
    below = λ p calls e. (let lt = so_far.below p calls (sym (kept.same calls) ∙ e) in let s = kept.size in omega (arith, lt, s));
    apart = λ p a b e f. so_far.apart p a b (sym (kept.same a) ∙ e) (sym (kept.same b) ∙ f);
    used = λ p lt. (let found = so_far.used p (let s = kept.size in omega (arith, lt, s)) in (found.0, push_old patterns None found.0 (Some p) found.1));
    by_first = λ t p q is lt. elim (pushed patterns None t (Some p) is) [
      | inl old ↦ (let found = so_far.by_first t p q old lt in (found.0, found.1, push_old patterns None found.0 (Some q) found.2))
      | inr last ↦ absurd (none-some p (sym last.1))
    ];
  }

  module _ (number : ℕ) (has_pattern : HasPattern trip) where
    -- the trip is of the last index, where it isn't among the first ones
    is_last : (t : ℕ) (x : Trip) → slice_get trips t ≡ Some x → t ≡ length patterns → x ≡ trip
    is_last t x of_trip e = slice_get_unique trips (length patterns) x trip (subst (λ k. slice_get trips k ≡ Some x) e of_trip) at

    some_more : (t : ℕ) (x : Trip) → slice_get trips t ≡ Some x → t < length (patterns ++ Some number ∷ []) → HasPattern x
        → (p : ℕ) × IsOfPattern (patterns ++ Some number ∷ []) t p
    some_more t x of_trip lt has = elim (cases_lt t (length patterns)) [
      | inl less ↦ (let found = so_far.some t x of_trip less has in (found.0, push_old patterns (Some number) t (Some found.0) found.1))
      | inr le ↦ (
          let size = length-append patterns (Some number ∷ []) in
          let e : t ≡ length patterns = omega (arith, size, lt, le) in
          (number, subst (λ k. IsOfPattern (patterns ++ Some number ∷ []) k number) (sym e) (push_last patterns (Some number))))
    ]

    first_more : number ≤ btree_map_len met → (t p q : ℕ) → IsOfPattern (patterns ++ Some number ∷ []) t p → q < p
        → (u : ℕ) × (u < t) × IsOfPattern (patterns ++ Some number ∷ []) u q
    first_more low t p q is lt = elim (pushed patterns (Some number) t (Some p) is) [
      | inl old ↦ (let found = so_far.by_first t p q old lt in (found.0, found.1, push_old patterns (Some number) found.0 (Some q) found.2))
      | inr last ↦ (
          let e : p ≡ number = same_Some p number last.1 in
          let found = so_far.used q (omega (arith, e, lt, low)) in
          let within = slice_get_within patterns found.0 (Some q) found.1 in
          let l : t ≡ length patterns = last.0 in
          (found.0, omega (arith, within, l), push_old patterns (Some number) found.0 (Some q) found.1))
    ]

    -- its pattern was met
    next_met : IsKept met new → number_of met (key_of trip) ≡ Some number → AreNumbered trips new (patterns ++ Some number ∷ [])
    next_met kept known = record {
      few = few_more (Some number);
      size = (let a = kept.size in let b = so_far.size in let c = length-append patterns (Some number ∷ []) in omega (arith, a, b, c));
      has = λ t p x of_trip is. elim (pushed patterns (Some number) t (Some p) is) [
        | inl old ↦ (let h = so_far.has t p x of_trip old in (h.0, kept.same (key_of x) ∙ h.1))
        | inr last ↦ (
            let e : x ≡ trip = is_last t x of_trip last.0 in
            (subst HasPattern (sym e) has_pattern, kept.same (key_of x) ∙ ap (λ y. number_of met (key_of y)) e ∙ known ∙ sym last.1))
      ];
      some = some_more;
      below = λ p calls e. (let lt = so_far.below p calls (sym (kept.same calls) ∙ e) in let s = kept.size in omega (arith, lt, s));
      apart = λ p a b e f. so_far.apart p a b (sym (kept.same a) ∙ e) (sym (kept.same b) ∙ f);
      used = λ p lt. (let found = so_far.used p (let s = kept.size in omega (arith, lt, s)) in (found.0, push_old patterns (Some number) found.0 (Some p) found.1));
      by_first = first_more (let lt = so_far.below number (key_of trip) known in omega (arith, lt));
    }

    -- its pattern is new
    next_new : IsAdded (key_of trip) met new → number ≡ btree_map_len met → AreNumbered trips new (patterns ++ Some number ∷ [])
    next_new one next = record {
      few = few_more (Some number);
      size = (let a = one.size in let b = so_far.size in let c = length-append patterns (Some number ∷ []) in omega (arith, a, b, c));
      has = λ t p x of_trip is. elim (pushed patterns (Some number) t (Some p) is) [
        | inl old ↦ (let h = so_far.has t p x of_trip old in (
          h.0,
          elim (one.others (key_of x)) [
            | inl e ↦ absurd (none-some p (sym one.absent ∙ ap (number_of met) (sym e) ∙ h.1))
            | inr same ↦ same ∙ h.1
          ],
        ))
        | inr last ↦ (
            let e : x ≡ trip = is_last t x of_trip last.0 in
            (subst HasPattern (sym e) has_pattern, ap (λ y. number_of new (key_of y)) e ∙ one.here ∙ ap Some (sym next) ∙ sym last.1))
      ];
      some = some_more;
      below = λ p calls e. elim (one.others calls) [
        | inl same ↦ (
            let is : p ≡ btree_map_len met = same_Some p (btree_map_len met) (sym e ∙ ap (number_of new) same ∙ one.here) in
            let s = one.size in
            omega (arith, is, s))
        | inr same ↦ (let lt = so_far.below p calls (sym same ∙ e) in let s = one.size in omega (arith, lt, s))
      ];
      apart = λ p a b e f. elim (one.others a) [
        | inl x ↦ elim (one.others b) [
          | inl y ↦ x ∙ sym y
          | inr y ↦ absurd (fresh p a b x e y f)
        ]
        | inr x ↦ elim (one.others b) [
          | inl y ↦ absurd (fresh p b a y f x e)
          | inr y ↦ so_far.apart p a b (sym x ∙ e) (sym y ∙ f)
        ]
      ];
      used = λ p lt. elim (cases_lt p (btree_map_len met)) [
        | inl less ↦ (let found = so_far.used p less in (found.0, push_old patterns (Some number) found.0 (Some p) found.1))
        | inr le ↦ (
            let s = one.size in
            let e : number ≡ p = omega (arith, s, lt, le, next) in
            (length patterns, push_last patterns (Some number) ∙ ap (λ n. Some (Some n)) e))
      ];
      by_first = first_more (omega (arith, next));
    }
      where
        -- no earlier pattern has the next number
        fresh : (p : ℕ) (a b : List Call) → a ≡ key_of trip → number_of new a ≡ Some p → number_of new b ≡ number_of met b → number_of new b ≡ Some p → ⊥
        fresh p a b x e y f =
            let is : p ≡ btree_map_len met = same_Some p (btree_map_len met) (sym e ∙ ap (number_of new) x ∙ one.here) in
            let lt = so_far.below p b (sym y ∙ f) in
            omega (arith, is, lt)

  pub next_trip : (number : Option ℕ) → IsNumbered trip met new number → AreNumbered trips new (patterns ++ number ∷ [])
  next_trip None h = next_without h.0 h.1
  next_trip (Some number) h = elim h.1 [
    | inl known ↦ next_met number h.0 known.0 known.1
    | inr added ↦ next_new number h.0 added.0 added.1
  ]

pub none_numbered : (trips : List Trip) (met : Met) → met.entries ≡ [] → AreNumbered trips met []
none_numbered trips met empty = record {
  few = omega arith;
  size = (let e = ap length empty in omega (arith, e));
  has = λ t p x of_trip is. absurd (none-some (Some p) is);
  some = λ t x of_trip lt has. absurd (omega (arith, lt));
  below = λ p calls e. absurd (none-some p (sym (ap (lookup (is_key calls)) empty) ∙ e));
  apart = λ p a b e f. absurd (none-some p (sym (ap (lookup (is_key a)) empty) ∙ e));
  used = λ p lt. absurd (let e = ap length empty in omega (arith, e, lt));
  by_first = λ t p q is lt. absurd (none-some (Some p) is);
}

-- ---- all trips

-- what a pattern's call was read from
abbrev way_of : Bool → Way
way_of false = No
way_of true = Free

abbrev read_back : Call → Spot × Way × Way
read_back c = (spot.Stop c.0, way_of c.1, way_of c.2)

way-back : (way : Way) → NeedsNoBooking way → way_of (is_offered way) ≡ way
way-back No h = refl
way-back Free h = refl
way-back (Book rule) h = absurd h

spot-back : (at : Spot) (h : NamesStop at) → spot.Stop (key_call (record { sequence = 0; «spot» = at; timing = timing.Times 0 0; pickup = No; drop_off = No })).0 ≡ at
spot-back (spot.Stop number) h = refl
spot-back (spot.Group number) h = cc
spot-back (spot.Zone number) h = cc

call-back : (row : Row) → IsPatternRow row → call_of row ≡ read_back (key_call row)
call-back row h =
    ap (λ s. (s, row.pickup, row.drop_off)) (sym (spot-back row.spot h.at_stop))
    ∙ ap (λ w. (spot.Stop (key_call row).0, w, row.drop_off)) (sym (way-back row.pickup h.pickup))
    ∙ ap (λ w. (spot.Stop (key_call row).0, way_of (is_offered row.pickup), w)) (sym (way-back row.drop_off h.drop_off))

calls-back : (rows : List Row) → All IsPatternRow rows → map call_of rows ≡ map read_back (map key_call rows)
calls-back [] all = refl
calls-back (row ∷ rows) all =
    ap₂ (λ z zs. z ∷ zs) (call-back row (all 0 row (omega arith))) (calls-back rows (λ k d lt. all (suc k) d (omega (arith, lt))))

-- and the call from it
abbrev number_named_there : Spot × Way × Way → Call
number_named_there c = key_call (record { sequence = 0; «spot» = c.0; timing = timing.Times 0 0; pickup = c.1; drop_off = c.2 })

key-from : (rows : List Row) → map key_call rows ≡ map number_named_there (map call_of rows)
key-from [] = refl
key-from (row ∷ rows) = ap (λ zs. key_call row ∷ zs) (key-from rows)

one_pattern : (a b : Trip) → HasPattern a → HasPattern b → (key_of a ≡ key_of b) ↔ HaveOnePattern a b
one_pattern a b ha hb = (
  λ e. calls-back a.rows ha.rows ∙ ap (map read_back) e ∙ sym (calls-back b.rows hb.rows),
  λ e. key-from a.rows ∙ ap (map number_named_there) e ∙ sym (key-from b.rows),
)

pub all_numbered : (feed : Feed) (met : Met) (patterns : List (Option ℕ)) → length patterns ≡ length feed.trips → AreNumbered feed.trips met patterns → ArePatternsOf feed patterns
all_numbered feed met patterns size all = record {
  size = size;
  some = λ t trip at. (
    λ h. (all.has t h.0 trip at h.1).0,
    λ has. all.some t trip at (let lt = slice_get_within feed.trips t trip at in omega (arith, lt, size)) has,
  );
  same = λ t u p q a b at bt is js.
      let ha = all.has t p a at is in
      let hb = all.has u q b bt js in
      let one = one_pattern a b ha.0 hb.0 in (
        λ e. one.0 (all.apart p (key_of a) (key_of b) ha.1 (hb.1 ∙ ap Some (sym e))),
        λ e. same_Some p q (sym ha.1 ∙ ap (number_of met) (one.1 e) ∙ hb.1),
      );
  by_first = all.by_first;
}

pub count_numbered : (trips : List Trip) (met : Met) (patterns : List (Option ℕ)) → length patterns ≡ length trips → AreNumbered trips met patterns → IsCountOf patterns (btree_map_len met)
count_numbered trips met patterns size all p = (
  λ lt. (let found = all.used p lt in Contains-at patterns found.0 (Some p) found.1),
  λ c.
      let found = index_of patterns (Some p) c in
      let within = slice_get_within patterns found.0 (Some p) found.1 in
      let trip = item_at trips found.0 (omega (arith, within, size)) in
      all.below p (key_of trip.0) (all.has found.0 p trip.0 trip.1 found.1).1,
)
