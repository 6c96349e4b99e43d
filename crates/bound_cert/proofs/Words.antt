-- The words of lines: what is read is what is printed, and what is printed is read.
use Rattle.std.proofs.Common.{◌≡◌, ◌≢◌, ℕ, ◌^◌, ◌<◌, ◌≤◌, Bool, true, false, cond, ◌&&◌, eqb, ltb, nat_le, ℤ, List, length, map, get_or, slice_get, All, AllPairs, IsUtf8, Option, Some, None, refl, sym, ap, subst, ◌∙◌, arith, rules, inl, inr, lit<}
use Rattle.std.specs.Prelude.{codes, decimal, position}
use Rattle.std.specs.Char.{is_ascii_digit}
use Rattle.std.specs.List.{list_all, position_or_len}
use Rattle.std.specs.Option.{option_map}
use Rattle.std.specs.Str.{bytes_eq}
use Rattle.std.proofs.lemmas.Bool.{and_from, and_parts, cases_lt, eq-eqb, eqb-true, false≢true, false_from_ne_true, leb-true, lt-ltb, ltb-false}
use Rattle.std.proofs.lemmas.Fmt.{decimal-digits_value, decimal_digit, first_decimal}
use Rattle.std.proofs.lemmas.List.Quantifiers.{position-Some}
use Rattle.std.proofs.lemmas.List.Sums.{position_or_len_is}
use Rattle.std.proofs.lemmas.Option.{get_or_from_slice_get, slice_get-get_or, slice_get-map, slice_get_within}
use Rattle.std.proofs.lemmas.Slice.Eq.{bytes_eq-Decides}
use Rattle.std.proofs.lemmas.Str.Parse.{IsNumeralModel, numerals_by_fold}
use Rattle.bound_cert.proofs.EscapedIds.{escape_injective}
use Rattle.bound_cert.proofs.LineReaders.{is_graphic}
use Rattle.field_text.specs.Grammars.{count, date, escape, is_shaped, moment, number, number_after}
use Rattle.field_text.specs.Texts.{IsPrintableDay, IsPrintableMoment, date_text, moment_text}
use Rattle.field_text.proofs.CivilDays.{dates_are_read_back}
use Rattle.field_text.proofs.DateLemmas.{dates_have_one_spelling}
use Rattle.field_text.proofs.DecimalLemmas.{numbers_are_read_back}
use Rattle.field_text.proofs.MomentRanges.{moments_are_read_back}
use Rattle.field_text.proofs.MomentSpelling.{moments_have_one_spelling}
use Rattle.field_text.proofs.NumberLemmas.{some_if-passed}
use Rattle.field_text.proofs.WordLemmas.{date_text-graphic, decimal-graphic, moment_text-graphic}
use Rattle.flex_model.specs.declared.moment.Deadline.{Deadline}
use Rattle.flex_model.specs.declared.moment.Deadline.TheVariants.{At, Never}
use Rattle.flex_model.proofs.Found.{All-at, AllPairs-at}
use Rattle.query_io.specs.AnswerText.{deadline_text}
use Rattle.query_io.specs.Lines.{deadline_in, has_leading_zero, number_in}
use Rattle.query_io.specs.Printable.{IsPrintableDeadline}

-- How a value stands in a word.
pub record IsWord {A : Type 0} (text : A → List ℕ) (Valid : A → Type 0) (value : List ℕ → Option A) : Type 0 where
  pub sound : (w : List ℕ) (a : A) → value w ≡ Some a → Valid a × (w ≡ text a)
  pub complete : (a : A) → Valid a → value (text a) ≡ Some a
  pub graphic : (a : A) → Valid a → list_all is_graphic (text a) ≡ true

-- ---- options

abbrev some : {A : Type 0} → A → Option A
some x = Some x

pub some_is : {A : Type 0} (x y : A) → some x ≡ some y → x ≡ y
some_is x y e = cc

pub none_some : {A : Type 0} (x : A) → None ≡ some x → ⊥
none_some x e = cc

pub else_some : {A : Type 0} (b : Bool) (o : Option A) (x : A) → cond b None o ≡ Some x → (b ≡ false) × (o ≡ Some x)
else_some true o x e = absurd (none_some x e)
else_some false o x e = (refl, e)

pub then_some : {A : Type 0} (b : Bool) (o : Option A) (x : A) → cond b o None ≡ Some x → (b ≡ true) × (o ≡ Some x)
then_some true o x e = (refl, e)
then_some false o x e = absurd (none_some x e)

-- ---- numbers

own : IsNumeralModel (λ ds. list_all is_ascii_digit ds ≡ true) number
own = numerals_by_fold _ (search rules) number_after (search rules)

leading : (w : List ℕ) → has_leading_zero w ≡ false → 0 < length w → get_or w 0 0 ≡ 48 → length w ≡ 1
leading w h given zero =
    let long : ltb 1 (length w) ≡ false = false_from_ne_true (ltb 1 (length w)) (λ more.
    false≢true (sym h ∙ and_from (ltb 1 (length w)) (eqb (get_or w 0 0) 48) more (eq-eqb (get_or w 0 0) 48 zero))) in
    let most : length w ≤ 1 = ltb-false 1 (length w) long in
    omega (arith, most, given)

number_sound : (greatest : ℕ) → greatest < 2 ^ 64 → (w : List ℕ) (n : ℕ) → number_in greatest w ≡ Some n → (n ≤ greatest) × (w ≡ decimal n)
number_sound greatest small w n e =
    let parts = else_some (has_leading_zero w) (count greatest w) n e in
    let read = some_if-passed _ _ _ (sym parts.1) in
    let tests = and_parts _ _ read.0 in
    let shape = and_parts (list_all is_ascii_digit w) (nat_le 1 (length w) && nat_le (length w) 20) tests.0 in
    let long = leb-true 1 (length w) (and_parts (nat_le 1 (length w)) (nat_le (length w) 20) shape.1).0 in
    let within = leb-true (number w) greatest tests.1 in
    let given : 0 < length w = omega (arith, long) in
    let spelled = decimal-digits_value own w shape.0 given (leading w parts.0 given) (omega (arith, within, small)) in
    (omega (arith, within, read.1), sym spelled ∙ ap (λ (k : ℕ). decimal k) (sym read.1))

no_leading : (n : ℕ) → n < 2 ^ 64 → has_leading_zero (decimal n) ≡ false
no_leading n small = elim (cases_lt 0 n) [
  | inl some ↦ false_from_ne_true (has_leading_zero (decimal n)) (λ h.
      let parts = and_parts (ltb 1 (length (decimal n))) (eqb (get_or (decimal n) 0 0) 48) h in
      let is = eqb-true (get_or (decimal n) 0 0) 48 parts.1 in
      let high = first_decimal n some small in
      omega (arith, is, high))
  | inr none ↦ let zero : n ≡ 0 = omega (arith, none) in rw (zero, decimal_digit 0 (lit< tt)) refl
]

pub number_word : (greatest : ℕ) → greatest < 2 ^ 64 → IsWord decimal (λ n. n ≤ greatest) (number_in greatest)
number_word greatest small = record {
  sound = number_sound greatest small;
  complete = λ n within.
      let fits : n < 2 ^ 64 = omega (arith, within, small) in
      ap (λ (b : Bool). cond b None (count greatest (decimal n))) (no_leading n fits) ∙ numbers_are_read_back n greatest within fits;
  graphic = λ n within. decimal-graphic n (omega (arith, within, small));
}

-- ---- moments, days and deadlines

pub moment_word : IsWord moment_text IsPrintableMoment (moment 1980 2209)
moment_word = record { sound = λ w m e. moments_have_one_spelling w m e; complete = λ m p. moments_are_read_back m p; graphic = λ m p. moment_text-graphic m }

pub day_word : IsWord date_text IsPrintableDay date
day_word = record { sound = λ w d e. dates_have_one_spelling w d e; complete = λ d p. dates_are_read_back d p; graphic = λ d p. date_text-graphic d }

no_moment : moment 1980 2209 (codes "never") ≡ None
unfolding is_shaped
no_moment = refl

deadline_sound : (w : List ℕ) (d : Deadline) → deadline_in w ≡ Some d → IsPrintableDeadline d × (w ≡ deadline_text d)
deadline_sound w d e = by (bytes_eq w (codes "never")) refl e
  where
    by_moment : (o : Option ℤ) → moment 1980 2209 w ≡ o → option_map At o ≡ Some d → IsPrintableDeadline d × (w ≡ deadline_text d)
    by_moment None is e = absurd (none_some d e)
    by_moment (Some m) is e =
        let spelled = moments_have_one_spelling w m is in
        subst (λ (x : Deadline). IsPrintableDeadline x × (w ≡ deadline_text x)) (some_is (At m) d e) (spelled.0, spelled.1)

    by : (b : Bool) → bytes_eq w (codes "never") ≡ b → cond b (Some Never) (option_map At (moment 1980 2209 w)) ≡ Some d → IsPrintableDeadline d × (w ≡ deadline_text d)
    by true is e = subst (λ (x : Deadline). IsPrintableDeadline x × (w ≡ deadline_text x)) (some_is Never d e) (tt, (bytes_eq-Decides w (codes "never")).0 is)
    by false is e = by_moment (moment 1980 2209 w) refl e

deadline_complete : (d : Deadline) → IsPrintableDeadline d → deadline_in (deadline_text d) ≡ Some d
deadline_complete Never p = refl
deadline_complete (At m) p =
    let read = moments_are_read_back m p in
    let other : bytes_eq (moment_text m) (codes "never") ≡ false = false_from_ne_true (bytes_eq (moment_text m) (codes "never")) (λ same.
    none_some m (sym no_moment ∙ ap (moment 1980 2209) (sym ((bytes_eq-Decides (moment_text m) (codes "never")).0 same)) ∙ read)) in
    ap (λ (b : Bool). cond b (Some Never) (option_map At (moment 1980 2209 (moment_text m)))) other ∙ ap (option_map At) read

deadline_graphic : (d : Deadline) → IsPrintableDeadline d → list_all is_graphic (deadline_text d) ≡ true
deadline_graphic Never p = refl
deadline_graphic (At m) p = moment_text-graphic m

pub deadline_word : IsWord deadline_text IsPrintableDeadline deadline_in
deadline_word = record { sound = deadline_sound; complete = deadline_complete; graphic = deadline_graphic }

-- ---- ids of items

module _ {X : Type 0} (id : X → List ℕ) (items : List X) (d : X) where
  -- the first item whose escaped id is the word
  abbrev pub item_in : List ℕ → Option ℕ
  item_in w = position (λ x. bytes_eq w (escape (id x))) items

  pub item_sound : (w : List ℕ) (k : ℕ) → item_in w ≡ Some k → (x : X) × (slice_get items k ≡ Some x) × (w ≡ escape (id x))
  item_sound w k e =
      let at = position-Some (λ x. bytes_eq w (escape (id x))) items k d e in
      (get_or items k d, slice_get-get_or items k d at.0, (bytes_eq-Decides w (escape (id (get_or items k d)))).0 at.1)

  module _ (distinct : AllPairs (λ a b. a ≢ b) (map id items)) (utf8 : All (λ x. IsUtf8 (id x)) items) where
    pub item_complete : (k : ℕ) (x : X) → slice_get items k ≡ Some x → item_in (escape (id x)) ≡ Some k
    item_complete k x is =
        let within = slice_get_within items k x is in
        let passes : X → Bool = λ y. bytes_eq (escape (id x)) (escape (id y)) in
        let here : get_or items k d ≡ x = get_or_from_slice_get items k x d is in
        let at : position_or_len passes items ≡ k = position_or_len_is passes items k d (omega (arith, within))
        (λ j low.
        let y = get_or items j d in
        let there : slice_get items j ≡ Some y = slice_get-get_or items j d (omega (arith, low, within)) in
        false_from_ne_true (passes y) (λ same.
        AllPairs-at (λ a b. a ≢ b) (map id items) j k (id y) (id x) distinct low
        (slice_get-map id items j ∙ ap (option_map id) there) (slice_get-map id items k ∙ ap (option_map id) is)
        (sym (escape_injective (id x) (id y) (All-at (λ x. IsUtf8 (id x)) items k x utf8 is) (All-at (λ x. IsUtf8 (id x)) items j y utf8 there)
        ((bytes_eq-Decides (escape (id x)) (escape (id y))).0 same)))))
        (λ low. (bytes_eq-Decides (escape (id x)) (escape (id (get_or items k d)))).1 (ap (λ (y : X). escape (id y)) (sym here))) in
        ap (λ (n : ℕ). cond (ltb n (length items)) (Some n) None) at ∙ ap (λ (b : Bool). cond b (Some k) None) (lt-ltb k (length items) within)

  -- a text that is no item's id is found nowhere
  pub item_none : (name : List ℕ) → IsUtf8 name → All (λ x. IsUtf8 (id x)) items → All (λ x. name ≢ id x) items → item_in (escape name) ≡ None
  item_none name named utf8 none = by (item_in (escape name)) refl
    where
      by : (o : Option ℕ) → item_in (escape name) ≡ o → item_in (escape name) ≡ None
      by None is = is
      by (Some k) is =
          let found = item_sound (escape name) k is in
          absurd (All-at (λ x. name ≢ id x) items k found.0 none found.1 (escape_injective name (id found.0) named (All-at (λ x. IsUtf8 (id x)) items k found.0 utf8 found.1) found.2))
