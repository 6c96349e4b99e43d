-- Neighbours by stop_sequence are the nearest records of a trip.
use Rattle.std.proofs.Common.{◌≡◌, ℕ, ◌<◌, ◌≤◌, Bool, true, false, not, ◌&&◌, cond, List, [], ◌∷◌, ◌++◌, Contains, Option, Some, None, refl, sym, ◌∙◌, ap, subst, arith, inl, inr}
use Rattle.std.specs.Prelude.{nat_eq, nat_lt}
use Rattle.std.specs.Borrow.{Bor}
use Rattle.std.specs.List.{find, list_any}
use Rattle.std.specs.Option.{option_or}
use Rattle.std.specs.Ordering.{is_eq, is_gt, nat_cmp, ordering_then, ordering_reverse}
use Rattle.std.specs.Cmp.Lexicographic.{slice_cmp}
use Rattle.std.specs.Str.{bytes_eq}
use Rattle.std.specs.declared.cmp.Ordering.{Ordering}
use Rattle.std.specs.declared.cmp.Ordering.TheVariants.{Less, Equal, Greater}
use Rattle.std.proofs.lemmas.Bool.{and_from, and_parts, cases_order, eq-eqb, eqb-true, false_from_ne_true, false≢true, lt-ltb, ltb-true, not-true, not_from_false, true≢false}
use Rattle.std.proofs.lemmas.Cmp.{nat_list_cmp_total}
use Rattle.std.proofs.lemmas.Map.Lookups.{exact_bytes}
use Rattle.std.proofs.lemmas.Map.Text.{is_eq-slice_cmp}
use Rattle.std.proofs.lemmas.Slice.Eq.{bytes_eq-Decides}
use Rattle.flex_model.proofs.Found.{Contains-first, Contains-rest, first_or_rest, none_contained}
use Rattle.feed_meaning.specs.FeedLinks.{is_before, nearest_before}
use Rattle.feed_meaning.specs.FeedRules.{sequence}
use Rattle.feed_meaning.specs.Rules.{Values, stand}
use Rattle.feed_meaning.proofs.FieldBounds.{count_is}
use Rattle.feed_meaning.proofs.Nearest.{any_item, item_any, none_passes}
use Rattle.feed_meaning.proofs.TripOrder.{before_is, is_before-from}
use Rattle.feed_rules.specs.Sequences.{Key, has_key, key_cmp}

-- ---- the order of keys

is_eq-then : (o p : Ordering) → is_eq (ordering_then o p) ≡ (is_eq o && is_eq p)
is_eq-then Less p = refl
is_eq-then Equal p = refl
is_eq-then Greater p = refl

is_eq-nat_cmp : (m n : ℕ) → is_eq (nat_cmp m n) ≡ nat_eq m n
is_eq-nat_cmp m n = grind arith

pub key_cmp-is_eq : (x y : Key) → is_eq (key_cmp x y) ≡ (bytes_eq x.0.now y.0.now && nat_eq x.1 y.1)
key_cmp-is_eq x y =
    is_eq-then (slice_cmp nat_cmp x.0.now y.0.now) (nat_cmp x.1 y.1)
    ∙ ap (λ b. b && is_eq (nat_cmp x.1 y.1)) (is_eq-slice_cmp x.0.now y.0.now)
    ∙ ap (λ b. bytes_eq x.0.now y.0.now && b) (is_eq-nat_cmp x.1 y.1)

pub nat_cmp-less : (m n : ℕ) → nat_cmp m n ≡ Less → m < n
nat_cmp-less m n e = by (nat_lt m n) refl e
  where
    by : (b : Bool) → nat_lt m n ≡ b → cond b Less (cond (nat_eq m n) Equal Greater) ≡ Less → m < n
    by true is e' = ltb-true m n is
    by false is e' = other (nat_eq m n) e'
      where
        other : (c : Bool) → cond c Equal Greater ≡ Less → m < n
        other true e'' = cc
        other false e'' = cc

pub less-nat_cmp : (m n : ℕ) → m < n → nat_cmp m n ≡ Less
less-nat_cmp m n lt = ap (λ b. cond b Less (cond (nat_eq m n) Equal Greater)) (lt-ltb m n lt)

pub equal-texts : (t : List ℕ) → slice_cmp nat_cmp t t ≡ Equal
equal-texts t = by (slice_cmp nat_cmp t t) (is_eq-slice_cmp t t ∙ (bytes_eq-Decides t t).1 refl)
  where
    by : (o : Ordering) → is_eq o ≡ true → o ≡ Equal
    by Less e = absurd (false≢true e)
    by Equal e = refl
    by Greater e = absurd (false≢true e)

-- a text between two bounds of one text is that text
pub between : (t u : List ℕ) (a b : Ordering) → is_gt (ordering_then (slice_cmp nat_cmp t u) a) ≡ false → is_gt (ordering_then (slice_cmp nat_cmp u t) b) ≡ false → u ≡ t
between t u a b low high = by (slice_cmp nat_cmp u t) refl (nat_list_cmp_total.antisymm t u) high
  where
    by : (o : Ordering) → slice_cmp nat_cmp u t ≡ o → slice_cmp nat_cmp t u ≡ ordering_reverse (slice_cmp nat_cmp u t) → is_gt (ordering_then o b) ≡ false → u ≡ t
    by Less is back h = absurd (true≢false (sym (ap (λ o. is_gt (ordering_then o a)) (back ∙ ap ordering_reverse is)) ∙ low))
    by Equal is back h = exact_bytes u t is
    by Greater is back h = absurd (true≢false h)

-- ---- searches

find-same : {X : Type 0} (p q : X → Bool) (xs : List X) → ((x : X) → Contains xs x → p x ≡ q x) → find p xs ≡ find q xs
find-same p q [] h = refl
find-same p q (x ∷ xs) h =
    ap (λ b. cond b (Some x) (find p xs)) (h x (Contains-first x xs)) ∙ ap (λ o. cond (q x) (Some x) o) (find-same p q xs (λ y c. h y (Contains-rest x y xs c)))

find-nothing : {X : Type 0} (xs : List X) → find (λ (x : X). false) xs ≡ None
find-nothing [] = refl
find-nothing (x ∷ xs) = find-nothing xs

pub find-none : {X : Type 0} (p : X → Bool) (xs : List X) → ((x : X) → Contains xs x → p x ≡ true → ⊥) → find p xs ≡ None
find-none p xs h = find-same p (λ x. false) xs (λ x c. false_from_ne_true (p x) (h x c)) ∙ find-nothing xs

pub found_is : {X : Type 0} (p : X → Bool) (xs : List X) (a : X) → find p xs ≡ Some a → Contains xs a × (p a ≡ true)
found_is p [] a e = cc
found_is {X = X} p (x ∷ xs) a e = by (λ h. found_is p xs a h) (p x) refl e
  where
    by : (find p xs ≡ Some a → Contains xs a × (p a ≡ true)) → (b : Bool) → p x ≡ b → cond b (Some x) (find p xs) ≡ Some a → Contains (x ∷ xs) a × (p a ≡ true)
    by rest true is h = let same : x ≡ a = cc in (subst (λ z. Contains (x ∷ xs) z) same (Contains-first x xs), ap p (sym same) ∙ is)
    by rest false is h = let r = rest h in (Contains-rest x a xs r.0, r.1)

pub none_found : {X : Type 0} (p : X → Bool) (xs : List X) (x : X) → find p xs ≡ None → Contains xs x → p x ≡ true → ⊥
none_found p [] x e c is = none_contained x c
none_found {X = X} p (y ∷ xs) x e c is = by (λ e' rest. none_found p xs x e' rest is) (p y) refl e
  where
    by : (find p xs ≡ None → Contains xs x → ⊥) → (b : Bool) → p y ≡ b → cond b (Some y) (find p xs) ≡ None → ⊥
    by later true h e' = cc
    by later false h e' = elim (first_or_rest y x xs c) [
      | inl same ↦ false≢true (sym h ∙ ap p (sym same) ∙ is)
      | inr rest ↦ later e' rest
    ]

pub find-more : {X : Type 0} (p : X → Bool) (xs : List X) (x : X) → find p (xs ++ x ∷ []) ≡ option_or (find p xs) (cond (p x) (Some x) None)
find-more p [] x = refl
find-more p (y ∷ xs) x = by (find-more p xs x) (p y)
  where
    by : find p (xs ++ x ∷ []) ≡ option_or (find p xs) (cond (p x) (Some x) None)
        → (b : Bool) → cond b (Some y) (find p (xs ++ x ∷ [])) ≡ option_or (cond b (Some y) (find p xs)) (cond (p x) (Some x) None)
    by rest true = refl
    by rest false = rest

bool_iff : (b c : Bool) → (b ≡ true → c ≡ true) → (c ≡ true → b ≡ true) → b ≡ c
bool_iff true c f g = sym (f refl)
bool_iff false true f g = g refl
bool_iff false false f g = refl

-- ---- records with a key

number_is : (o : Option ℕ) (n : ℕ) → stand nat_eq o (Some n) ≡ true → o ≡ Some n
number_is None n e = absurd (false≢true e)
number_is (Some m) n e = ap Some (eqb-true m n e)

one-number : (o : Option ℕ) (m n : ℕ) → o ≡ Some m → o ≡ Some n → m ≡ n
one-number o m n e f = cc

pub key_is : (q : Key) (a : Values) → has_key q a ≡ true → (a "trip_id" ≡ q.0.now) × (sequence (a "stop_sequence") ≡ Some q.1)
key_is q a e =
    let parts = and_parts (bytes_eq (a "trip_id") q.0.now) (stand nat_eq (sequence (a "stop_sequence")) (Some q.1)) e in
    ((bytes_eq-Decides (a "trip_id") q.0.now).0 parts.0, number_is (sequence (a "stop_sequence")) q.1 parts.1)

pub has_key-from : (q : Key) (a : Values) → a "trip_id" ≡ q.0.now → sequence (a "stop_sequence") ≡ Some q.1 → has_key q a ≡ true
has_key-from q a trip number =
    and_from (bytes_eq (a "trip_id") q.0.now) (stand nat_eq (sequence (a "stop_sequence")) (Some q.1)) ((bytes_eq-Decides (a "trip_id") q.0.now).1 trip)
    (ap (λ o. stand nat_eq o (Some q.1)) number ∙ eq-eqb q.1 q.1 refl)

module _ (records : List Values) (r : Values) where
  -- a record without a number has no neighbours
  pub unnumbered-before : sequence (r "stop_sequence") ≡ None → list_any (λ s. is_before s r) records ≡ false
  unnumbered-before e = false_from_ne_true (list_any (λ s. is_before s r) records) (λ h.
      let x = any_item (λ s. is_before s r) records h in
      let b = before_is x.0 r x.2 in
      no_number (sequence (r "stop_sequence")) b.second e b.is_second)
    where
      no_number : (o : Option ℕ) (n : ℕ) → o ≡ None → o ≡ Some n → ⊥
      no_number o n e f = cc

  pub unnumbered-after : sequence (r "stop_sequence") ≡ None → list_any (λ s. is_before r s) records ≡ false
  unnumbered-after e = false_from_ne_true (list_any (λ s. is_before r s) records) (λ h.
      let x = any_item (λ s. is_before r s) records h in
      let b = before_is r x.0 x.2 in
      no_number (sequence (r "stop_sequence")) b.first e b.is_first)
    where
      no_number : (o : Option ℕ) (n : ℕ) → o ≡ None → o ≡ Some n → ⊥
      no_number o n e f = cc

  -- where none is before there is no nearest one
  pub nearest-none : list_any (λ s. is_before s r) records ≡ false → nearest_before records r ≡ None
  nearest-none none = find-none (λ a. is_before a r && not (list_any (λ b. is_before a b && is_before b r) records)) records
      (λ x c e. none_passes (λ s. is_before s r) records x none c (and_parts (is_before x r) (not (list_any (λ b. is_before x b && is_before b r) records)) e).0)

  module _ (t : Bor (List ℕ)) (n : ℕ) (same : t.now ≡ r "trip_id") (is : sequence (r "stop_sequence") ≡ Some n) where
    pub none-before : ((k : ℕ) → k < n → find (has_key (t, k)) records ≡ None) → list_any (λ s. is_before s r) records ≡ false
    none-before none = false_from_ne_true (list_any (λ s. is_before s r) records) (λ h.
        let x = any_item (λ s. is_before s r) records h in
        let b = before_is x.0 r x.2 in
        let end = one-number (sequence (r "stop_sequence")) b.second n b.is_second is in
        let less = b.less in
        none_found (has_key (t, b.first)) records x.0 (none b.first (omega (arith, end, less))) x.1 (has_key-from (t, b.first) x.0 (b.trip ∙ sym same) b.is_first))

    pub none-after : ((k : ℕ) → n < k → k ≤ 4294967295 → find (has_key (t, k)) records ≡ None) → list_any (λ s. is_before r s) records ≡ false
    none-after none = false_from_ne_true (list_any (λ s. is_before r s) records) (λ h.
        let x = any_item (λ s. is_before r s) records h in
        let b = before_is r x.0 x.2 in
        let start = one-number (sequence (r "stop_sequence")) b.first n b.is_first is in
        let less = b.less in
        let low = (count_is 4294967294 (x.0 "stop_sequence") b.second b.is_second).0 in
        none_found (has_key (t, b.second)) records x.0 (none b.second (omega (arith, start, less)) (omega (arith, low))) x.1 (has_key-from (t, b.second) x.0 (sym b.trip ∙ sym same) b.is_second))

    pub some-after : (m : ℕ) (a : Values) → n < m → find (has_key (t, m)) records ≡ Some a → list_any (λ s. is_before r s) records ≡ true
    some-after m a lt found =
        let f = found_is (has_key (t, m)) records a found in
        let k = key_is (t, m) a f.1 in
        item_any (λ s. is_before r s) records a f.0 (is_before-from r a n m (sym same ∙ sym k.0) is k.1 lt)

    module _ (m : ℕ) (a : Values) (lt : m < n) (found : find (has_key (t, m)) records ≡ Some a) where
      pub some-before : list_any (λ s. is_before s r) records ≡ true
      some-before =
          let f = found_is (has_key (t, m)) records a found in
          let k = key_is (t, m) a f.1 in
          item_any (λ s. is_before s r) records a f.0 (is_before-from a r m n (k.0 ∙ same) k.1 is lt)

      pub nearest-is : ((k : ℕ) → m < k → k < n → find (has_key (t, k)) records ≡ None) → nearest_before records r ≡ Some a
      nearest-is none = find-same (λ x. is_before x r && not (list_any (λ b. is_before x b && is_before b r) records)) (has_key (t, m)) records
          (λ x c. bool_iff (is_before x r && not (list_any (λ b. is_before x b && is_before b r) records)) (has_key (t, m) x) (forth x c) (back x)) ∙ found
        where
          f : Contains records a × (has_key (t, m) a ≡ true)
          f = found_is (has_key (t, m)) records a found

          k : (a "trip_id" ≡ t.now) × (sequence (a "stop_sequence") ≡ Some m)
          k = key_is (t, m) a f.1

          forth : (x : Values) → Contains records x → (is_before x r && not (list_any (λ b. is_before x b && is_before b r) records)) ≡ true → has_key (t, m) x ≡ true
          forth x c e =
              let parts = and_parts (is_before x r) (not (list_any (λ b. is_before x b && is_before b r) records)) e in
              let b = before_is x r parts.0 in
              let end = one-number (sequence (r "stop_sequence")) b.second n b.is_second is in
              let less = b.less in
              let trip : x "trip_id" ≡ t.now = b.trip ∙ sym same in
              elim (cases_order b.first m) [
                | inl equal ↦ has_key-from (t, m) x trip (b.is_first ∙ ap Some equal)
                | inr (inl before) ↦ absurd (none_passes (λ u. is_before x u && is_before u r) records a (not-true (list_any (λ u. is_before x u && is_before u r) records) parts.1) f.0
                    (and_from (is_before x a) (is_before a r) (is_before-from x a b.first m (trip ∙ sym k.0) b.is_first k.1 before) (is_before-from a r m n (k.0 ∙ same) k.1 is lt)))
                | inr (inr after) ↦ absurd (none_found (has_key (t, b.first)) records x (none b.first after (omega (arith, end, less))) c (has_key-from (t, b.first) x trip b.is_first))
              ]

          back : (x : Values) → has_key (t, m) x ≡ true → (is_before x r && not (list_any (λ b. is_before x b && is_before b r) records)) ≡ true
          back x e =
              let kx = key_is (t, m) x e in
              and_from (is_before x r) (not (list_any (λ b. is_before x b && is_before b r) records)) (is_before-from x r m n (kx.0 ∙ same) kx.1 is lt)
              (not_from_false (list_any (λ b. is_before x b && is_before b r) records) (false_from_ne_true (list_any (λ b. is_before x b && is_before b r) records) (λ h.
              let u = any_item (λ b. is_before x b && is_before b r) records h in
              let parts = and_parts (is_before x u.0) (is_before u.0 r) u.2 in
              let b = before_is x u.0 parts.0 in
              let d = before_is u.0 r parts.1 in
              let start = one-number (sequence (x "stop_sequence")) b.first m b.is_first kx.1 in
              let middle = one-number (sequence (u.0 "stop_sequence")) b.second d.first b.is_second d.is_first in
              let end = one-number (sequence (r "stop_sequence")) d.second n d.is_second is in
              let less = b.less in
              let less' = d.less in
              none_found (has_key (t, b.second)) records u.0 (none b.second (omega (arith, start, less)) (omega (arith, middle, end, less'))) u.1 (has_key-from (t, b.second) u.0 (sym b.trip ∙ kx.0) b.is_second))))
