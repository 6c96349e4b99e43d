-- The records of a trip in the order of their stop_sequence.
use Rattle.std.proofs.Common.{◌≡◌, ℕ, ◌<◌, Bool, true, false, ◌&&◌, List, [], ◌∷◌, AllPairs, Option, None, Some, take, length, get_or, nat_lt, refl, sym, ◌∙◌, ap, arith, lit<, inl, inr}
use Rattle.std.specs.Prelude.{nat_eq, is_none}
use Rattle.std.specs.List.{filter, list_any}
use Rattle.std.specs.Str.{bytes_eq}
use Rattle.std.proofs.lemmas.Bool.{and_from, and_parts, cases_order, eq-eqb, false_from_ne_true, false≢true, lt-ltb, ltb-true}
use Rattle.std.proofs.lemmas.List.{get_or-take, length-take-le}
use Rattle.std.proofs.lemmas.List.Elements.{filter_passes}
use Rattle.std.proofs.lemmas.List.Folds.{list_any_at}
use Rattle.std.proofs.lemmas.List.Kept.{AllPairs-filter}
use Rattle.std.proofs.lemmas.Slice.Eq.{bytes_eq-Decides}
use Rattle.flex_model.specs.declared.fault.FaultCode.TheVariants as code
use Rattle.feed_tables.specs.Refusals.{is_given}
use Rattle.field_text.specs.Grammars.{id, number}
use Rattle.feed_meaning.specs.FeedLinks.{is_before}
use Rattle.feed_meaning.specs.FeedRules.{sequence, stop_time_rules}
use Rattle.feed_meaning.specs.FeedValue.{rising}
use Rattle.feed_meaning.specs.Rules.{Values, are_same_pairs, both, is_bad, is_empty, repeats, stand}
use Rattle.feed_meaning.proofs.FieldBounds.{count_is}
use Rattle.feed_meaning.proofs.Kept.{ObeysRules, is_kept}
use Rattle.feed_meaning.proofs.NamedLists.{filled_is_given}
use Rattle.feed_meaning.proofs.RisingItems.{IsOrdered, rising_rises}

-- a is a record of the trip of b, with a lesser number
pub record ComesBefore (a b : Values) : Type 0 where
  pub trip : a "trip_id" ≡ b "trip_id"
  pub first : ℕ
  pub second : ℕ
  pub is_first : sequence (a "stop_sequence") ≡ Some first
  pub is_second : sequence (b "stop_sequence") ≡ Some second
  pub less : first < second

numbers-stand : (o o' : Option ℕ) → stand nat_lt o o' ≡ true → (m : ℕ) × (n : ℕ) × (o ≡ Some m) × (o' ≡ Some n) × (m < n)
numbers-stand None o' e = absurd (false≢true e)
numbers-stand (Some m) None e = absurd (false≢true e)
numbers-stand (Some m) (Some n) e = (m, n, refl, refl, ltb-true m n e)

pub before_is : (a b : Values) → is_before a b ≡ true → ComesBefore a b
before_is a b e =
    let p = and_parts (bytes_eq (a "trip_id") (b "trip_id")) (stand nat_lt (sequence (a "stop_sequence")) (sequence (b "stop_sequence"))) e in
    let n = numbers-stand (sequence (a "stop_sequence")) (sequence (b "stop_sequence")) p.1 in
    record { trip = (bytes_eq-Decides (a "trip_id") (b "trip_id")).0 p.0; first = n.0; second = n.1; is_first = n.2; is_second = n.3; less = n.4 }

pub is_before-from : (a b : Values) (m n : ℕ) → a "trip_id" ≡ b "trip_id" → sequence (a "stop_sequence") ≡ Some m → sequence (b "stop_sequence") ≡ Some n → m < n → is_before a b ≡ true
is_before-from a b m n trip is_m is_n lt =
    and_from (bytes_eq (a "trip_id") (b "trip_id")) (stand nat_lt (sequence (a "stop_sequence")) (sequence (b "stop_sequence")))
    ((bytes_eq-Decides (a "trip_id") (b "trip_id")).1 trip)
    (ap (λ o. stand nat_lt o (sequence (b "stop_sequence"))) is_m ∙ ap (stand nat_lt (Some m)) is_n ∙ lt-ltb m n lt)

one-number : (o : Option ℕ) (m n : ℕ) → o ≡ Some m → o ≡ Some n → m ≡ n
one-number o m n e f = cc

pub before_irreflexive : (a : Values) → is_before a a ≡ false
before_irreflexive a = false_from_ne_true (is_before a a) (λ e.
    let b = before_is a a e in
    let same = one-number (sequence (a "stop_sequence")) b.first b.second b.is_first b.is_second in
    let lt = b.less in
    omega (arith, same, lt))

pub before_transitive : (a b c : Values) → is_before a b ≡ true → is_before b c ≡ true → is_before a c ≡ true
before_transitive a b c e f =
    let x = before_is a b e in
    let y = before_is b c f in
    let same = one-number (sequence (b "stop_sequence")) x.second y.first x.is_second y.is_first in
    let lt = x.less in
    let lt' = y.less in
    is_before-from a c x.first y.second (x.trip ∙ y.trip) x.is_first y.is_second (omega (arith, same, lt, lt'))

abbrev pub AreOrdered : Values → Values → Type 0
AreOrdered a b = IsOrdered is_before before_irreflexive before_transitive a b

-- ---- records that keep the rules

-- the number of a record, and that it fits
pub record HasNumber (r : Values) : Type 0 where
  pub n : ℕ
  pub is : sequence (r "stop_sequence") ≡ Some n
  pub low : n < 4294967295

numbered : (text : List ℕ) (o : Option ℕ) → sequence text ≡ o → is_given text ≡ true → (is_given text && is_none o) ≡ false → (n : ℕ) × (o ≡ Some n) × (n < 4294967295)
numbered text (Some n) is given kept = (n, refl, let c = count_is 4294967294 text n is in let low = c.0 in omega (arith, low))
numbered text None is given kept = absurd (false≢true (sym kept ∙ ap (λ g. g && true) given))

module _ (rs : List Values) (kept : ObeysRules stop_time_rules rs) where
  pub trip_given : (i : ℕ) (d : Values) → i < length rs → is_given (get_or rs i d "trip_id") ≡ true
  trip_given i d low = filled_is_given (get_or rs i d "trip_id") (is_kept code.EmptyField (is_empty (get_or rs i d "trip_id")) (kept.at i d low 0 None (lit< tt)))

  pub has_number : (i : ℕ) (d : Values) → i < length rs → HasNumber (get_or rs i d)
  has_number i d low =
      let r = get_or rs i d in
      let given = filled_is_given (r "stop_sequence") (is_kept code.EmptyField (is_empty (r "stop_sequence")) (kept.at i d low 1 None (lit< tt))) in
      let n = numbered (r "stop_sequence") (sequence (r "stop_sequence")) refl given (is_kept code.BadNumber (is_bad sequence (r "stop_sequence")) (kept.at i d low 2 None (lit< tt))) in
      record { n = n.0; is = n.1; low = n.2 }

  same-keys : (a b : List ℕ) (o o' : Option ℕ) (n : ℕ) → is_given a ≡ true → a ≡ b → o ≡ Some n → o' ≡ Some n → stand (are_same_pairs bytes_eq nat_eq) (both (id a) o) (both (id b) o') ≡ true
  same-keys [] b o o' n given e is is' = absurd (false≢true given)
  same-keys (x ∷ a) [] o o' n given e is is' = cc
  same-keys (x ∷ a) (y ∷ b) o o' n given e is is' =
      ap (λ k. stand (are_same_pairs bytes_eq nat_eq) (both (Some (x ∷ a)) k) (both (Some (y ∷ b)) o')) is
      ∙ ap (λ k. stand (are_same_pairs bytes_eq nat_eq) (Some (x ∷ a, n)) (both (Some (y ∷ b)) k)) is'
      ∙ and_from (bytes_eq (x ∷ a) (y ∷ b)) (nat_eq n n) ((bytes_eq-Decides (x ∷ a) (y ∷ b)).1 e) (eq-eqb n n refl)

  -- two records of one trip have different numbers
  numbers-differ : (i j : ℕ) (d : Values) (n : ℕ) → i < j → j < length rs → get_or rs j d "trip_id" ≡ get_or rs i d "trip_id"
      → sequence (get_or rs j d "stop_sequence") ≡ Some n → sequence (get_or rs i d "stop_sequence") ≡ Some n → ⊥
  numbers-differ i j d n lt low trip is is' =
      let r = get_or rs j d in
      let key : Values → Option (List ℕ × ℕ) = λ s. both (id (s "trip_id")) (sequence (s "stop_sequence")) in
      let test : Values → Bool = λ e. stand (are_same_pairs bytes_eq nat_eq) (key r) (key e) in
      let fresh : list_any test (take j rs) ≡ false = is_kept code.DuplicateKey (repeats (are_same_pairs bytes_eq nat_eq) key (take j rs) r) (kept.at j d low 3 None (lit< tt)) in
      let there : get_or (take j rs) i d ≡ get_or rs i d = get_or-take j rs i d lt in
      false≢true (sym fresh ∙ list_any_at test (take j rs) i d (omega (arith, length-take-le j rs (omega (arith, low))))
      (ap test there ∙ same-keys (r "trip_id") (get_or rs i d "trip_id") (sequence (r "stop_sequence")) (sequence (get_or rs i d "stop_sequence")) n (trip_given j d low) trip is is'))

  -- of two records of one trip one comes before the other
  abbrev OfOneTrip : List ℕ → Values → Values → Type 0
  OfOneTrip trip a b = bytes_eq trip (a "trip_id") ≡ true → bytes_eq trip (b "trip_id") ≡ true → AreOrdered a b

  all-ordered : (trip : List ℕ) → AllPairs (OfOneTrip trip) rs
  all-ordered trip i j d lt low of_a of_b =
      let a = get_or rs i d in
      let b = get_or rs j d in
      let same : b "trip_id" ≡ a "trip_id" = sym ((bytes_eq-Decides trip (b "trip_id")).0 of_b) ∙ (bytes_eq-Decides trip (a "trip_id")).0 of_a in
      let m = has_number i d (omega arith) in
      let n = has_number j d low in
      elim (cases_order m.n n.n) [
        | inl e ↦ absurd (numbers-differ i j d m.n lt low same (n.is ∙ ap Some (sym e)) m.is)
        | inr (inl less) ↦ inl (is_before-from a b m.n n.n (sym same) m.is n.is less)
        | inr (inr less) ↦ inr (is_before-from b a n.n m.n same n.is m.is less)
      ]

  -- the records of a trip
  abbrev pub records_of : List ℕ → List Values
  records_of trip = filter (λ s. bytes_eq trip (s "trip_id")) rs

  pub records_ordered : (trip : List ℕ) → AllPairs AreOrdered (records_of trip)
  records_ordered trip i j d lt low =
      AllPairs-filter (OfOneTrip trip) (λ s. bytes_eq trip (s "trip_id")) rs (all-ordered trip) i j d lt low
      (filter_passes (λ s. bytes_eq trip (s "trip_id")) rs i d (omega arith)) (filter_passes (λ s. bytes_eq trip (s "trip_id")) rs j d low)

  -- in rising order each comes before the later ones
  pub records_rise : (trip : List ℕ) → AllPairs (λ a b. is_before a b ≡ true) (rising is_before (records_of trip))
  records_rise trip = rising_rises is_before before_irreflexive before_transitive (records_of trip) (records_ordered trip)

-- by their numbers
pub number_rises : (a b : Values) → is_before a b ≡ true → number (a "stop_sequence") < number (b "stop_sequence")
number_rises a b e =
    let x = before_is a b e in
    let m = count_is 4294967294 (a "stop_sequence") x.first x.is_first in
    let n = count_is 4294967294 (b "stop_sequence") x.second x.is_second in
    let em = m.1 in
    let en = n.1 in
    let lt = x.less in
    omega (arith, em, en, lt)
