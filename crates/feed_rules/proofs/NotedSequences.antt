-- An ordered map of the records of trips: one more record, and the neighbours that a range finds.
use Rattle.std.proofs.Common.{◌≡◌, ℕ, ◌<◌, ◌≤◌, Bool, true, false, ◌&&◌, cond, List, [], ◌∷◌, ◌++◌, Option, Some, None, IsSome, refl, sym, ◌∙◌, ap, arith}
use Rattle.std.specs.Prelude.{is_some, nat_eq}
use Rattle.std.specs.BTreeMap.{BTreeMap, get}
use Rattle.std.specs.BTreeMap.Range.{IsInRange, IsRangeOf}
use Rattle.std.specs.Borrow.{Bor}
use Rattle.std.specs.List.{find, list_any}
use Rattle.std.specs.Map.Iter.{TakesLast, deref_pair}
use Rattle.std.specs.Option.{option_map, option_or}
use Rattle.std.specs.Ordering.{is_eq, is_gt, is_lt, nat_cmp, ordering_then}
use Rattle.std.specs.Cmp.Lexicographic.{slice_cmp}
use Rattle.std.specs.Str.{bytes_eq}
use Rattle.std.specs.declared.cmp.Ordering.TheVariants.{Less}
use Rattle.std.specs.declared.ops.Bound.TheVariants.{Included, Excluded}
use Rattle.std.proofs.lemmas.Bool.{false≢true, true≢false}
use Rattle.feed_meaning.specs.FeedLinks.{departure, is_before, nearest_before}
use Rattle.feed_meaning.specs.FeedRules.{sequence}
use Rattle.feed_meaning.specs.Rules.{Values, stand}
use Rattle.feed_rules.specs.Sequences.{HoldsFirst, Key, has_key, key_cmp}
use Rattle.feed_rules.proofs.SequenceFacts.{between, equal-texts, find-more, key_cmp-is_eq, key_is, less-nat_cmp, nat_cmp-less, nearest-is, nearest-none, none-after, none-before, some-after, some-before}

or_none : {X : Type 0} (o : Option X) → option_or o None ≡ o
or_none None = refl
or_none (Some x) = refl

pub some_of : {X : Type 0} (o : Option X) → is_some o ≡ true → (x : X) × (o ≡ Some x)
some_of None e = absurd (false≢true e)
some_of (Some x) e = (x, refl)

pub none_of : {X : Type 0} (o : Option X) → is_some o ≡ false → o ≡ None
none_of None e = refl
none_of (Some x) e = absurd (true≢false e)

-- the first record with a key depends on the text and the number alone
pub find_key : (q k : Key) (records : List Values) → q.0.now ≡ k.0.now → q.1 ≡ k.1 → find (has_key q) records ≡ find (has_key k) records
find_key q k records text number =
    ap (λ t. find (λ r. bytes_eq (r "trip_id") t && stand nat_eq (sequence (r "stop_sequence")) (Some q.1)) records) text
    ∙ ap (λ n. find (λ r. bytes_eq (r "trip_id") k.0.now && stand nat_eq (sequence (r "stop_sequence")) (Some n)) records) number

-- a record that hasn't the key changes nothing
passed : (q : Key) (records : List Values) (r : Values) → has_key q r ≡ false → find (has_key q) (records ++ r ∷ []) ≡ find (has_key q) records
passed q records r e =
    find-more (has_key q) records r ∙ ap (λ b. option_or (find (has_key q) records) (cond b (Some r) None)) e ∙ or_none (find (has_key q) records)

unnumbered : (q : Key) (r : Values) → sequence (r "stop_sequence") ≡ None → has_key q r ≡ false
unnumbered q r e = ap (λ o. bytes_eq (r "trip_id") q.0.now && stand nat_eq o (Some q.1)) e ∙ by (bytes_eq (r "trip_id") q.0.now)
  where
    by : (b : Bool) → (b && false) ≡ false
    by true = refl
    by false = refl

module _ (order : BTreeMap Key (Option ℕ)) (records : List Values) (r : Values) (holds : HoldsFirst order records) where
  pub unnumbered-noted : sequence (r "stop_sequence") ≡ None → HoldsFirst order (records ++ r ∷ [])
  unnumbered-noted e q = holds q ∙ ap (option_map departure) (sym (passed q records r (unnumbered q r e)))

  module _ (k : Key) (text : k.0.now ≡ r "trip_id") (number : sequence (r "stop_sequence") ≡ Some k.1) where
    same-key : (q : Key) → has_key q r ≡ true → (q.0.now ≡ k.0.now) × (q.1 ≡ k.1)
    same-key q e = let i = key_is q r e in (sym i.0 ∙ sym text, one (sequence (r "stop_sequence")) q.1 k.1 i.1 number)
      where
        one : (o : Option ℕ) (m n : ℕ) → o ≡ Some m → o ≡ Some n → m ≡ n
        one o m n e f = cc

    -- an earlier record has the key
    pub repeated-noted : (d : Option ℕ) → get key_cmp order k ≡ Some d → HoldsFirst order (records ++ r ∷ [])
    repeated-noted d there q = by (has_key q r) refl
      where
        stays : (o : Option Values) → option_map departure o ≡ Some d → (x : Option Values) → option_or o x ≡ o
        stays None e x = cc
        stays (Some a) e x = refl

        by : (b : Bool) → has_key q r ≡ b → get key_cmp order q ≡ option_map departure (find (has_key q) (records ++ r ∷ []))
        by false e = holds q ∙ ap (option_map departure) (sym (passed q records r e))
        by true e =
            let s = same-key q e in
            let first : option_map departure (find (has_key q) records) ≡ Some d = ap (option_map departure) (find_key q k records s.0 s.1) ∙ sym (holds k) ∙ there in
            holds q ∙ ap (option_map departure) (sym (stays (find (has_key q) records) first (cond (has_key q r) (Some r) None)) ∙ sym (find-more (has_key q) records r))

    -- the key is new
    pub new-noted : (order' : BTreeMap Key (Option ℕ)) (d : Option ℕ) → get key_cmp order k ≡ None
        → ((q : Key) → get key_cmp order' q ≡ cond (is_eq (key_cmp k q)) (Some d) (get key_cmp order q)) → d ≡ departure r → HoldsFirst order' (records ++ r ∷ [])
    new-noted order' d absent updates is q = updates q ∙ by (is_eq (key_cmp k q)) refl
      where
        none : (o : Option Values) → None ≡ option_map departure o → o ≡ None
        none None e = refl
        none (Some a) e = cc

        test : is_eq (key_cmp k q) ≡ has_key q r
        test =
            key_cmp-is_eq k q ∙ ap (λ t. bytes_eq t q.0.now && nat_eq k.1 q.1) text
            ∙ ap (λ o. bytes_eq (r "trip_id") q.0.now && stand nat_eq o (Some q.1)) (sym number)

        by : (b : Bool) → is_eq (key_cmp k q) ≡ b → cond b (Some d) (get key_cmp order q) ≡ option_map departure (find (has_key q) (records ++ r ∷ []))
        by true e =
            let has : has_key q r ≡ true = sym test ∙ e in
            let s = same-key q has in
            let first : find (has_key q) records ≡ None = find_key q k records s.0 s.1 ∙ none (find (has_key k) records) (sym absent ∙ holds k) in
            ap Some is ∙ ap (option_map departure) (ap (λ b. option_or None (cond b (Some r) None)) (sym has) ∙ ap (λ o. option_or o (cond (has_key q r) (Some r) None)) (sym first) ∙ sym (find-more (has_key q) records r))
        by false e = holds q ∙ ap (option_map departure) (sym (passed q records r (sym test ∙ e)))

-- ---- ranges of one trip

is_gt-le : (m n : ℕ) → m ≤ n → is_gt (nat_cmp m n) ≡ false
is_gt-le m n le = grind arith

le-key : (t : Bor (List ℕ)) (m n : ℕ) → m ≤ n → is_gt (key_cmp (t, m) (t, n)) ≡ false
le-key t m n le = ap (λ o. is_gt (ordering_then o (nat_cmp m n))) (equal-texts t.now) ∙ is_gt-le m n le

lt-key : (t : Bor (List ℕ)) (m n : ℕ) → m < n → key_cmp (t, m) (t, n) ≡ Less
lt-key t m n lt = ap (λ o. ordering_then o (nat_cmp m n)) (equal-texts t.now) ∙ less-nat_cmp m n lt

-- a range can't run backwards
pub range-forward : (t : Bor (List ℕ)) (n : ℕ) → is_gt (key_cmp (t, 0) (t, n)) ≡ false
range-forward t n = le-key t 0 n (omega arith)

pub after-forward : (t : Bor (List ℕ)) (n : ℕ) → n ≤ 4294967295 → is_gt (key_cmp (t, n) (t, 4294967295)) ≡ false
after-forward t n le = le-key t n 4294967295 le

less_is_not_gt : (x y : Key) → key_cmp x y ≡ Less → is_gt (key_cmp x y) ≡ false
less_is_not_gt x y e = ap is_gt e

found-some : (o : Option Values) (d : Option ℕ) → option_map departure o ≡ Some d → (a : Values) × (o ≡ Some a) × (departure a ≡ d)
found-some None d e = cc
found-some (Some a) d e = (a, refl, let h : departure a ≡ d = cc in h)

module _ (order : BTreeMap Key (Option ℕ)) (records : List Values) (r : Values) (holds : HoldsFirst order records) (t : Bor (List ℕ)) (n : ℕ)
    (same : t.now ≡ r "trip_id") (is : sequence (r "stop_sequence") ≡ Some n) where
  abbrev pub IsHere : Key → Type 0
  IsHere q = IsInRange key_cmp (Included (t, 0)) (Excluded (t, n)) q

  here-low : (k : ℕ) → k < n → IsHere (t, k)
  here-low k lt = (le-key t 0 k (omega arith), lt-key t k n lt)

  here-is : (q : Key) → IsHere q → (q.0.now ≡ t.now) × (q.1 < n)
  here-is q h =
      let text = between t.now q.0.now (nat_cmp 0 q.1) (nat_cmp q.1 n) h.0 (less_is_not_gt q (t, n) h.1) in
      (text, nat_cmp-less q.1 n (sym (ap (λ o. ordering_then o (nat_cmp q.1 n)) (ap (λ x. slice_cmp nat_cmp x t.now) text ∙ equal-texts t.now)) ∙ h.1))

  none-found : (k : ℕ) → get key_cmp order (t, k) ≡ None → find (has_key (t, k)) records ≡ None
  none-found k e = none (find (has_key (t, k)) records) (sym e ∙ holds (t, k))
    where
      none : (o : Option Values) → None ≡ option_map departure o → o ≡ None
      none None e = refl
      none (Some a) e = cc

  -- no key of the trip is before
  empty-nearest : ((q : Key) → IsHere q → get key_cmp order q ≡ None)
      → (None ≡ option_map departure (nearest_before records r)) × (false ≡ list_any (λ s. is_before s r) records)
  empty-nearest none =
      let none-here = none-before records r t n same is (λ k lt. none-found k (none (t, k) (here-low k lt))) in
      (ap (option_map departure) (sym (nearest-none records r none-here)), sym none-here)

  -- the last key of the trip before
  last-nearest : (q : Key) (d : Option ℕ) → IsHere q → get key_cmp order q ≡ Some d
      → ((q' : Key) → IsHere q' → IsSome (get key_cmp order q') → is_lt (key_cmp q q') ≡ false)
      → (Some d ≡ option_map departure (nearest_before records r)) × (true ≡ list_any (λ s. is_before s r) records)
  last-nearest q d here there last =
      let place = here-is q here in
      let first = found-some (find (has_key q) records) d (sym (holds q) ∙ there) in
      let found : find (has_key (t, q.1)) records ≡ Some first.0 = find_key (t, q.1) q records (sym place.0) refl ∙ first.1 in
      let none : (k : ℕ) → q.1 < k → k < n → find (has_key (t, k)) records ≡ None = λ k after before. none-found k (absent (t, k) (get key_cmp order (t, k)) refl (here-low k before)
      (ap (λ x. ordering_then (slice_cmp nat_cmp x t.now) (nat_cmp q.1 k)) place.0 ∙ lt-key t q.1 k after)) in
      (ap Some (sym first.2) ∙ ap (option_map departure) (sym (nearest-is records r t n same is q.1 first.0 place.1 found none)), sym (some-before records r t n same is q.1 first.0 place.1 found))
    where
      absent : (q' : Key) (o : Option (Option ℕ)) → get key_cmp order q' ≡ o → IsHere q' → key_cmp q q' ≡ Less → get key_cmp order q' ≡ None
      absent q' None e h less = e
      absent q' (Some x) e h less = absurd (true≢false (sym (ap is_lt less) ∙ last q' h (ap is_some e)))

  -- the range before has no last entry
  pub untaken-nearest : (part : List (Key × Option ℕ)) → IsRangeOf key_cmp (Included (t, 0)) (Excluded (t, n)) order part → part ≡ []
      → (None ≡ option_map departure (nearest_before records r)) × (false ≡ list_any (λ s. is_before s r) records)
  untaken-nearest part range none = empty-nearest (range.5 none)

  -- the last entry of the range before
  pub taken-nearest : (part left : List (Key × Option ℕ)) (q : Key) (d : Option ℕ) → IsRangeOf key_cmp (Included (t, 0)) (Excluded (t, n)) order part
      → part ≡ left ++ (q, d) ∷ [] → (Some d ≡ option_map departure (nearest_before records r)) × (true ≡ list_any (λ s. is_before s r) records)
  taken-nearest part left q d range taken =
      let entry = range.3 (q, d) left taken in
      last-nearest q d entry.0 entry.1 (range.4 (q, d) left taken)

  -- ---- the keys of the trip after

  abbrev pub IsAfter : Key → Type 0
  IsAfter q = IsInRange key_cmp (Excluded (t, n)) (Included (t, 4294967295)) q

  after-key : (k : ℕ) → n < k → k ≤ 4294967295 → IsAfter (t, k)
  after-key k lt le = (lt-key t n k lt, le-key t k 4294967295 le)

  after-is : (q : Key) → IsAfter q → (q.0.now ≡ t.now) × (n < q.1)
  after-is q h =
      let text = between t.now q.0.now (nat_cmp n q.1) (nat_cmp q.1 4294967295) (less_is_not_gt (t, n) q h.0) h.1 in
      (text, nat_cmp-less n q.1 (sym (ap (λ o. ordering_then o (nat_cmp n q.1)) (ap (λ x. slice_cmp nat_cmp t.now x) text ∙ equal-texts t.now)) ∙ h.0))

  empty-after : ((q : Key) → IsAfter q → get key_cmp order q ≡ None) → list_any (λ s. is_before r s) records ≡ false
  empty-after none = none-after records r t n same is (λ k lt le. none-found k (none (t, k) (after-key k lt le)))

  known-after : (q : Key) (d : Option ℕ) → IsAfter q → get key_cmp order q ≡ Some d → list_any (λ s. is_before r s) records ≡ true
  known-after q d here there =
      let place = after-is q here in
      let first = found-some (find (has_key q) records) d (sym (holds q) ∙ there) in
      some-after records r t n same is q.1 first.0 place.1 (find_key (t, q.1) q records (sym place.0) refl ∙ first.1)

  -- whether the range after has a last entry
  pub taken-after : (part left : List (Key × Option ℕ)) (last : Option (Bor Key × Bor (Option ℕ))) (b : Bool)
      → IsRangeOf key_cmp (Excluded (t, n)) (Included (t, 4294967295)) order part → TakesLast deref_pair part last left → b ≡ is_some last
      → b ≡ list_any (λ s. is_before r s) records
  taken-after part left None b range taken answer = answer ∙ sym (empty-after (range.5 taken.0))
  taken-after part left (Some x) b range taken answer =
      let entry = range.3 (deref_pair x) left taken in
      answer ∙ sym (known-after x.0.now x.1.now entry.0 entry.1)
