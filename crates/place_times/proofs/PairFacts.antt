-- Pairs of ids that were met are those of the earlier records.
use Rattle.std.proofs.Common.{◌≡◌, ℕ, Bool, true, false, not, ◌&&◌, ◌||◌, cond, List, [], ◌∷◌, ◌++◌, Option, Some, None, map, refl, sym, ◌∙◌, ap}
use Rattle.std.specs.Borrow.{Bor}
use Rattle.std.specs.List.{cons_option, filter_map, list_any}
use Rattle.std.specs.Option.{option_map_or}
use Rattle.std.specs.Str.{bytes_eq}
use Rattle.std.proofs.Math.Bool.{or-false}
use Rattle.std.proofs.lemmas.Bool.{and_parts, false≢true}
use Rattle.std.proofs.lemmas.List.{map-append}
use Rattle.std.proofs.lemmas.List.Elements.{filter_map-append}
use Rattle.std.proofs.lemmas.List.Folds.{list_any-append}
use Rattle.std.proofs.lemmas.Slice.Eq.{bytes_eq-Decides}
use Rattle.indexmap.specs.IndexSet.{insert_key}
use Rattle.feed_tables.specs.Records.{RowFields}
use Rattle.feed_tables.specs.Refusals.{is_given}
use Rattle.field_text.specs.Grammars.{id}
use Rattle.feed_meaning.specs.Rules.{Values, both, repeats_ids}
use Rattle.feed_meaning.specs.Tables.{entry_of, values_of}
use Rattle.feed_meaning.proofs.IdFacts.{list_any-map}
use Rattle.feed_meaning.proofs.Keys.{repeats-found}
use Rattle.place_times.specs.Pairs.{Pair, has_pair, has_some_pair, noted_pair, pairs_of, same_pair}

-- the values of records after one more
pub values_more : (header : List (List ℕ)) (seen : List RowFields) (row : RowFields)
    → map (λ x. x.values) (map (entry_of header) (seen ++ row ∷ [])) ≡ map (λ x. x.values) (map (entry_of header) seen) ++ values_of header row.fields ∷ []
values_more header seen row =
    ap (map (λ x. x.values)) (map-append (entry_of header) seen (row ∷ [])) ∙ map-append (λ x. x.values) (map (entry_of header) seen) (entry_of header row ∷ [])

-- ---- one more pair

-- what equals a pair that is there is there
alike : (q k : Pair) (pairs : List Pair) → same_pair q k ≡ true → has_pair pairs q ≡ has_pair pairs k
alike q k pairs e =
    let parts = and_parts (bytes_eq q.0 k.0) (bytes_eq q.1 k.1) e in
    ap (λ a. list_any (λ (x : Pair). bytes_eq a x.0 && bytes_eq q.1 x.1) pairs) ((bytes_eq-Decides q.0 k.0).0 parts.0)
    ∙ ap (λ b. list_any (λ (x : Pair). bytes_eq k.0 x.0 && bytes_eq b x.1) pairs) ((bytes_eq-Decides q.1 k.1).0 parts.1)

abbrev is_pair : Pair → Option Pair → Bool
is_pair q None = false
is_pair q (Some k) = same_pair q k

noted-has : (pairs : List Pair) (o : Option Pair) (q : Pair) → has_pair (noted_pair pairs o) q ≡ (has_pair pairs q || is_pair q o)
noted-has pairs None q = sym (or-false (has_pair pairs q))
noted-has pairs (Some k) q = by (has_pair pairs k) refl
  where
    known : (p : Bool) → same_pair q k ≡ p → has_pair pairs k ≡ true → has_pair pairs q ≡ (has_pair pairs q || p)
    known false e h = sym (or-false (has_pair pairs q))
    known true e h = let there = alike q k pairs e ∙ h in there ∙ ap (λ b. b || true) (sym there)

    by : (b : Bool) → has_pair pairs k ≡ b → has_pair (cond b pairs (pairs ++ k ∷ [])) q ≡ (has_pair pairs q || same_pair q k)
    by true h = known (same_pair q k) refl h
    by false h = list_any-append (same_pair q) pairs (k ∷ []) ∙ ap (λ b. has_pair pairs q || b) (or-false (same_pair q k))

-- the pair of a record
abbrev pub key_of : Values → Option Pair
key_of s = both (id (s "from_id")) (id (s "to_id"))

-- the pairs that were met are those of the records
abbrev pub AreMet : List Pair → List Values → Type 0
AreMet met records = (q : Pair) → has_pair met q ≡ has_pair (filter_map key_of records) q

one_key : (q : Pair) (o : Option Pair) → has_pair (cons_option o []) q ≡ is_pair q o
one_key q None = refl
one_key q (Some k) = or-false (same_pair q k)

pub met_more : (met met' : List Pair) (records : List Values) (r : Values) (o : Option Pair) → AreMet met records
    → met' ≡ noted_pair met o → o ≡ key_of r → AreMet met' (records ++ r ∷ [])
met_more met met' records r o earlier added is q =
    ap (λ m. has_pair m q) added ∙ noted-has met o q ∙ ap (λ b. b || is_pair q o) (earlier q)
    ∙ ap (λ p. has_pair (filter_map key_of records) q || is_pair q p) is
    ∙ ap (λ b. has_pair (filter_map key_of records) q || b) (sym (one_key q (key_of r)))
    ∙ sym (list_any-append (same_pair q) (filter_map key_of records) (filter_map key_of (r ∷ [])))
    ∙ ap (λ ks. has_pair ks q) (sym (filter_map-append key_of records (r ∷ [])))

met-found : (met : List Pair) (records : List Values) → AreMet met records → (o : Option Pair)
    → has_some_pair met o ≡ option_map_or (λ k. list_any (same_pair k) (filter_map key_of records)) o false
met-found met records m None = refl
met-found met records m (Some q) = m q

pub met_repeats : (met : List Pair) (records : List Values) (r : Values) (o : Option Pair) (repeated : Bool) → AreMet met records
    → repeated ≡ has_some_pair met o → o ≡ key_of r → repeated ≡ repeats_ids "from_id" "to_id" records r
met_repeats met records r o repeated m answer is =
    answer ∙ ap (has_some_pair met) is ∙ met-found met records m (key_of r) ∙ sym (repeats-found same_pair key_of records r)

-- ---- one more key in a set

given_id : (text : List ℕ) → is_given text ≡ true → id text ≡ Some text
given_id [] e = absurd (false≢true e)
given_id (b ∷ text) e = refl

pub both-given : (from to : List ℕ) → is_given from ≡ true → is_given to ≡ true → both (id from) (id to) ≡ Some (from, to)
both-given from to given given' = ap (λ x. both x (id to)) (given_id from given) ∙ ap (λ p. both (Some from) p) (given_id to given')

abbrev pub Key : Type 0
Key = Bor (List ℕ) × Bor (List ℕ)

abbrev pub same_keys : Key → Key → Bool
same_keys x y = bytes_eq x.0.now y.0.now && bytes_eq x.1.now y.1.now

map-cond : (b : Bool) (keys : List Key) (key : Key) → pairs_of (cond b keys (keys ++ key ∷ [])) ≡ cond b (pairs_of keys) (pairs_of keys ++ (key.0.now, key.1.now) ∷ [])
map-cond true keys key = refl
map-cond false keys key = map-append (λ (k : Key). (k.0.now, k.1.now)) keys (key ∷ [])

pub inserted : (met met' : List Key) (key : Key) (o : Option Pair) → met' ≡ insert_key same_keys met key → o ≡ Some (key.0.now, key.1.now)
    → pairs_of met' ≡ noted_pair (pairs_of met) o
inserted met met' key o added is =
    let pair : Pair = (key.0.now, key.1.now) in
    ap pairs_of added ∙ map-cond (list_any (same_keys key) met) met key
    ∙ ap (λ b. cond b (pairs_of met) (pairs_of met ++ pair ∷ [])) (sym (list_any-map (λ (k : Key). (k.0.now, k.1.now)) (same_pair pair) met))
    ∙ ap (noted_pair (pairs_of met)) (sym is)

pub repeated_key : (met : List Key) (key : Key) (o : Option Pair) (is_new : Bool) → o ≡ Some (key.0.now, key.1.now) → is_new ≡ not (list_any (same_keys key) met)
    → not is_new ≡ has_some_pair (pairs_of met) o
repeated_key met key o is_new is new =
    ap not new ∙ not-not (list_any (same_keys key) met) ∙ sym (list_any-map (λ (k : Key). (k.0.now, k.1.now)) (same_pair (key.0.now, key.1.now)) met) ∙ ap (has_some_pair (pairs_of met)) (sym is)
  where
    not-not : (b : Bool) → not (not b) ≡ b
    not-not true = refl
    not-not false = refl
