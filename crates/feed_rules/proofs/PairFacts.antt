-- Keys of two parts that were met are those of the earlier records.
use Rattle.std.proofs.Common.{◌≡◌, ℕ, Bool, true, false, ◌&&◌, ◌||◌, cond, List, [], ◌∷◌, ◌++◌, Option, Some, None, map, refl, sym, ◌∙◌, ap}
use Rattle.std.specs.Borrow.{Bor}
use Rattle.std.specs.List.{cons_option, filter_map, list_any}
use Rattle.std.specs.Option.{option_map_or}
use Rattle.std.specs.Str.{bytes_eq}
use Rattle.std.proofs.Math.Bool.{or-false}
use Rattle.std.proofs.lemmas.Bool.{and_parts, false≢true}
use Rattle.std.proofs.lemmas.Slice.Eq.{bytes_eq-Decides}
use Rattle.indexmap.specs.IndexSet.{insert_key}
use Rattle.feed_tables.specs.Refusals.{is_given}
use Rattle.std.proofs.lemmas.List.{map-append}
use Rattle.std.proofs.lemmas.List.Elements.{filter_map-append}
use Rattle.std.proofs.lemmas.List.Folds.{list_any-append}
use Rattle.feed_tables.specs.Records.{RowFields}
use Rattle.field_text.specs.Grammars.{id}
use Rattle.feed_meaning.specs.Rules.{Values, are_same_pairs, both, repeats}
use Rattle.feed_meaning.specs.Tables.{entry_of, values_of}
use Rattle.feed_meaning.proofs.Keys.{repeats-found}
use Rattle.feed_rules.specs.Pairs.{has_pair, has_some_pair, is_pair}

-- the values of records after one more
pub values_more : (header : List (List ℕ)) (seen : List RowFields) (row : RowFields)
    → map (λ x. x.values) (map (entry_of header) (seen ++ row ∷ [])) ≡ map (λ x. x.values) (map (entry_of header) seen) ++ values_of header row.fields ∷ []
values_more header seen row =
    ap (map (λ x. x.values)) (map-append (entry_of header) seen (row ∷ [])) ∙ map-append (λ x. x.values) (map (entry_of header) seen) (entry_of header row ∷ [])

pub both-none : {X Y : Type 0} (o : Option X) → both {X = X} {Y = Y} o None ≡ None
both-none None = refl
both-none (Some x) = refl

module _ {T : Type 0} (same : T → T → Bool) where
  pub no_pair : (met : List (Bor (List ℕ) × T)) (o : Option (List ℕ × T)) → o ≡ None → has_some_pair same met o ≡ false
  no_pair met o e = ap (has_some_pair same met) e

  pub no_pair_more : (met : List (Bor (List ℕ) × T)) (o : Option (List ℕ × T)) → o ≡ None → (q : List ℕ × T) → has_pair same met q ≡ (has_pair same met q || is_pair same q o)
  no_pair_more met o e q = sym (or-false (has_pair same met q)) ∙ ap (λ p. has_pair same met q || is_pair same q p) (sym e)

module _ {T : Type 0} (same : T → T → Bool) (key : Values → Option (List ℕ × T)) where
  -- the keys that were met are those of the records
  abbrev pub AreMet : List (Bor (List ℕ) × T) → List Values → Type 0
  AreMet met records = (q : List ℕ × T) → has_pair same met q ≡ list_any (are_same_pairs bytes_eq same q) (filter_map key records)

  one_key : (q : List ℕ × T) (o : Option (List ℕ × T)) → list_any (are_same_pairs bytes_eq same q) (cons_option o []) ≡ is_pair same q o
  one_key q None = refl
  one_key q (Some k) = or-false (bytes_eq q.0 k.0 && same q.1 k.1)

  pub met_more : (met met' : List (Bor (List ℕ) × T)) (records : List Values) (r : Values) (o : Option (List ℕ × T)) → AreMet met records
      → ((q : List ℕ × T) → has_pair same met' q ≡ (has_pair same met q || is_pair same q o)) → o ≡ key r → AreMet met' (records ++ r ∷ [])
  met_more met met' records r o earlier added is q =
      added q ∙ ap (λ b. b || is_pair same q o) (earlier q)
      ∙ ap (λ p. list_any (are_same_pairs bytes_eq same q) (filter_map key records) || is_pair same q p) is
      ∙ ap (λ b. list_any (are_same_pairs bytes_eq same q) (filter_map key records) || b) (sym (one_key q (key r)))
      ∙ sym (list_any-append (are_same_pairs bytes_eq same q) (filter_map key records) (filter_map key (r ∷ [])))
      ∙ ap (list_any (are_same_pairs bytes_eq same q)) (sym (filter_map-append key records (r ∷ [])))

  met-found : (met : List (Bor (List ℕ) × T)) (records : List Values) → AreMet met records → (o : Option (List ℕ × T))
      → has_some_pair same met o ≡ option_map_or (λ k. list_any (are_same_pairs bytes_eq same k) (filter_map key records)) o false
  met-found met records m None = refl
  met-found met records m (Some q) = m q

  pub met_repeats : (met : List (Bor (List ℕ) × T)) (records : List Values) (r : Values) (o : Option (List ℕ × T)) (repeated : Bool) → AreMet met records
      → repeated ≡ has_some_pair same met o → o ≡ key r → repeated ≡ repeats (are_same_pairs bytes_eq same) key records r
  met_repeats met records r o repeated m answer is =
      answer ∙ ap (has_some_pair same met) is ∙ met-found met records m (key r) ∙ sym (repeats-found (are_same_pairs bytes_eq same) key records r)

-- ---- one more key in a set

given_id : (text : List ℕ) → is_given text ≡ true → id text ≡ Some text
given_id [] e = absurd (false≢true e)
given_id (b ∷ text) e = refl

pub both-given : {Y : Type 0} (text : List ℕ) (o : Option Y) (y : Y) → is_given text ≡ true → o ≡ Some y → both (id text) o ≡ Some (text, y)
both-given text o y given is = ap (λ x. both x o) (given_id text given) ∙ ap (λ p. both (Some text) p) is

module _ {T : Type 0} (same : T → T → Bool) (congr : (x y z : T) → same x y ≡ true → same x z ≡ same y z) where
  abbrev pub same_keys : Bor (List ℕ) × T → Bor (List ℕ) × T → Bool
  same_keys x y = bytes_eq x.0.now y.0.now && same x.1 y.1

  -- what equals a key that is there is there
  there : (met : List (Bor (List ℕ) × T)) (k : Bor (List ℕ) × T) (q : List ℕ × T) → q.0 ≡ k.0.now → same q.1 k.1 ≡ true → list_any (same_keys k) met ≡ has_pair same met q
  there [] k q text e = refl
  there (m ∷ met) k q text e =
      ap (λ b. (bytes_eq k.0.now m.0.now && b) || list_any (same_keys k) met) (sym (congr q.1 k.1 m.1 e))
      ∙ ap (λ t. (bytes_eq t m.0.now && same q.1 m.1) || list_any (same_keys k) met) (sym text)
      ∙ ap (λ b. (bytes_eq q.0 m.0.now && same q.1 m.1) || b) (there met k q text e)

  has_insert : (met : List (Bor (List ℕ) × T)) (k : Bor (List ℕ) × T) (q : List ℕ × T) (b : Bool) → list_any (same_keys k) met ≡ b
      → has_pair same (cond b met (met ++ k ∷ [])) q ≡ (has_pair same met q || is_pair same q (Some (k.0.now, k.1)))
  has_insert met k q false e =
      list_any-append (λ x. bytes_eq q.0 x.0.now && same q.1 x.1) met (k ∷ []) ∙ ap (λ b. has_pair same met q || b) (or-false (bytes_eq q.0 k.0.now && same q.1 k.1))
  has_insert met k q true e = by (bytes_eq q.0 k.0.now && same q.1 k.1) refl
    where
      by : (p : Bool) → (bytes_eq q.0 k.0.now && same q.1 k.1) ≡ p → has_pair same met q ≡ (has_pair same met q || p)
      by false is = sym (or-false (has_pair same met q))
      by true is =
          let parts = and_parts (bytes_eq q.0 k.0.now) (same q.1 k.1) is in
          let h : has_pair same met q ≡ true = sym (there met k q ((bytes_eq-Decides q.0 k.0.now).0 parts.0) parts.1) ∙ e in
          h ∙ ap (λ b. b || true) (sym h)

  pub inserted : (met met' : List (Bor (List ℕ) × T)) (k : Bor (List ℕ) × T) (o : Option (List ℕ × T)) (q : List ℕ × T)
      → met' ≡ insert_key same_keys met k → o ≡ Some (k.0.now, k.1) → has_pair same met' q ≡ (has_pair same met q || is_pair same q o)
  inserted met met' k o q added is =
      ap (λ m. has_pair same m q) added ∙ has_insert met k q (list_any (same_keys k) met) refl ∙ ap (λ p. has_pair same met q || is_pair same q p) (sym is)
