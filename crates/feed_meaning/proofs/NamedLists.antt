-- The ids of a table's records, and ids by their first appearance, are distinct and given.
use Rattle.std.proofs.Common.{◌≡◌, ◌≢◌, ℕ, ◌+◌, ◌<◌, ◌≤◌, Bool, true, false, not, cond, ◌&&◌, ◌||◌, List, [], ◌∷◌, ◌++◌, All, map, take, fold, length, get_or, refl, sym, ◌∙◌, ap, subst, arith}
use Rattle.std.specs.List.{filter, list_any}
use Rattle.std.specs.Str.{bytes_eq}
use Rattle.std.proofs.lemmas.Bool.{and_from, and_parts, cases_Bool, false≢true, not-false, not-true, not_from_true, or_parts, true≢false}
use Rattle.std.proofs.lemmas.List.{append-nil, append_assoc, get_or-map, get_or-take, length-append, length-map, length-take-le, map-append}
use Rattle.std.proofs.lemmas.List.Elements.{All-head, All-nil, All-push, All-tail}
use Rattle.std.proofs.lemmas.List.Folds.{list_any-append, list_any_at, list_any_none}
use Rattle.std.proofs.lemmas.List.Quantifiers.{all_pairs_push}
use Rattle.std.proofs.lemmas.Slice.Eq.{bytes_eq-Decides}
use Rattle.feed_tables.specs.Refusals.{is_given}
use Rattle.flex_model.specs.SoundTimes.{AreIds}
use Rattle.field_text.specs.Grammars.{id}
use Rattle.feed_meaning.specs.FeedValue.{first_appearances}
use Rattle.feed_meaning.specs.Noted.{noted}
use Rattle.feed_meaning.specs.Rules.{Values, is_empty, repeats_id, stand}
use Rattle.feed_meaning.specs.Tables.{with_earlier_from}
use Rattle.feed_meaning.proofs.IdFacts.{noted-has, stands}
use Prim.Native.String.{String}

pub given_is : (text : List ℕ) → is_given text ≡ true → text ≢ []
given_is [] g e = false≢true g
given_is (b ∷ text) g e = cc

pub is_given-from : (text : List ℕ) → text ≢ [] → is_given text ≡ true
is_given-from [] h = absurd (h refl)
is_given-from (b ∷ text) h = refl

-- a text that isn't empty is given
pub filled_is_given : (text : List ℕ) → is_empty text ≡ false → is_given text ≡ true
filled_is_given text e = not-false (is_given text) e

-- no id of these records is empty, and none repeats
pub record IdsAreKept (column : String) (rs : List Values) : Type 0 where
  pub given : (i : ℕ) (d : Values) → i < length rs → is_empty (get_or rs i d column) ≡ false
  pub fresh : (i : ℕ) (d : Values) → i < length rs → repeats_id column (take i rs) (get_or rs i d) ≡ false

-- equal texts that are given stand as one id
stands_same : (q t : List ℕ) → is_given q ≡ true → q ≡ t → stand bytes_eq (id q) (id t) ≡ true
stands_same q t given e = stands q t ∙ and_from (is_given q) (bytes_eq q t) given ((bytes_eq-Decides q t).1 e)

pub ids-differ : (column : String) (rs : List Values) → IdsAreKept column rs → (i j : ℕ) (d : Values) → i < j → j < length rs → get_or rs i d column ≢ get_or rs j d column
ids-differ column rs kept i j d lt low e =
    let r = get_or rs j d in
    let test : Values → Bool = λ e. stand bytes_eq (id (r column)) (id (e column)) in
    let earlier : get_or (take j rs) i d ≡ get_or rs i d = get_or-take j rs i d lt in
    let in_range : i < length (take j rs) = omega (arith, length-take-le j rs (omega (arith, low))) in
    let found : list_any test (take j rs) ≡ true =
    list_any_at test (take j rs) i d in_range
    (stands_same (r column) (get_or (take j rs) i d column) (filled_is_given (r column) (kept.given j d low)) (sym e ∙ ap (λ (v : Values). v column) (sym earlier))) in
    false≢true (sym (kept.fresh j d low) ∙ found)

-- so they are distinct and given
pub kept_ids : (column : String) (rs : List Values) → IdsAreKept column rs → AreIds (map (λ r. r column) rs)
kept_ids column rs kept = record {
  distinct = λ i j d lt low e.
      let dummy : Values = λ name. d in
      let size = length-map rs (λ (r : Values). r column) in
      let at_j : j < length rs = omega (arith, low, size) in
      ids-differ column rs kept i j dummy lt at_j
      (sym (get_or-map (λ (r : Values). r column) rs i dummy d (omega (arith, lt, at_j))) ∙ e ∙ get_or-map (λ (r : Values). r column) rs j dummy d at_j);
  given = λ i d low e.
      let dummy : Values = λ name. d in
      let at_i : i < length rs = omega (arith, low, length-map rs (λ (r : Values). r column)) in
      given_is (get_or rs i dummy column) (filled_is_given (get_or rs i dummy column) (kept.given i dummy at_i)) (sym (get_or-map (λ (r : Values). r column) rs i dummy d at_i) ∙ e);
}

-- ---- ids that were noted

-- an id that isn't among others differs from each
pub not-among : (t : List ℕ) (ids : List (List ℕ)) → list_any (bytes_eq t) ids ≡ false → (k : ℕ) (d : List ℕ) → k < length ids → get_or ids k d ≢ t
not-among t ids absent k d low e = false≢true (sym absent ∙ list_any_at (bytes_eq t) ids k d low ((bytes_eq-Decides t (get_or ids k d)).1 (sym e)))

noted-ids-cases : (ids : List (List ℕ)) (t : List ℕ) (g b : Bool) → is_given t ≡ g → list_any (bytes_eq t) ids ≡ b → AreIds ids → AreIds (cond (g && not b) (ids ++ t ∷ []) ids)
noted-ids-cases ids t false b eg eb are = are
noted-ids-cases ids t true true eg eb are = are
noted-ids-cases ids t true false eg eb are = record {
  distinct = all_pairs_push (λ a b. a ≢ b) ids t are.distinct (not-among t ids eb);
  given = All-push (λ x. x ≢ []) ids t are.given (given_is t eg);
}

pub noted_ids : (ids : List (List ℕ)) (t : List ℕ) → AreIds ids → AreIds (noted ids t)
noted_ids ids t are = noted-ids-cases ids t (is_given t) (list_any (bytes_eq t) ids) refl refl are

pub no_ids : AreIds []
no_ids = record { distinct = λ i j d lt low. absurd (omega arith); given = All-nil (λ x. x ≢ []) }

-- noted ids are distinct and given
pub all_noted_ids : (ids texts : List (List ℕ)) → AreIds ids → AreIds (fold noted ids texts)
all_noted_ids ids [] are = are
all_noted_ids ids (t ∷ texts) are = all_noted_ids (noted ids t) texts (noted_ids ids t are)

noted-few-cases : (ids : List (List ℕ)) (t : List ℕ) (b : Bool) → length (cond b (ids ++ t ∷ []) ids) ≤ length ids + 1
noted-few-cases ids t true = omega (arith, length-append ids (t ∷ []))
noted-few-cases ids t false = omega arith

-- and no more than there are texts
pub all_noted_few : (ids texts : List (List ℕ)) → length (fold noted ids texts) ≤ length ids + length texts
all_noted_few ids [] = omega arith
all_noted_few ids (t ∷ texts) =
    let one = noted-few-cases ids t (is_given t && not (list_any (bytes_eq t) ids)) in
    let rest = all_noted_few (noted ids t) texts in
    omega (arith, one, rest)

-- a list of ids is what is noted of it, after others that differ
noted-new : (ids : List (List ℕ)) (t : List ℕ) (g b : Bool) → g ≡ true → b ≡ false → cond (g && not b) (ids ++ t ∷ []) ids ≡ ids ++ t ∷ []
noted-new ids t true false eg eb = refl
noted-new ids t false b eg eb = absurd (false≢true eg)
noted-new ids t true true eg eb = absurd (true≢false eb)

all-new : (ids texts : List (List ℕ)) → AreIds (ids ++ texts) → fold noted ids texts ≡ ids ++ texts
all-new ids [] are = sym (append-nil ids)
all-new ids (t ∷ texts) are =
    let size = length-append ids (t ∷ texts) in
    let here : get_or (ids ++ t ∷ texts) (length ids) t ≡ t = Rattle.std.proofs.lemmas.List.get_or_at ids t texts t (length ids) refl in
    let given : is_given t ≡ true = is_given-from t (λ e. are.given (length ids) t (omega (arith, size)) (here ∙ e)) in
    let absent : list_any (bytes_eq t) ids ≡ false =
    list_any_none (bytes_eq t) ids (λ k d low. differs t (get_or ids k d) (λ e.
    are.distinct k (length ids) d (omega arith) (omega (arith, size))
    (Rattle.std.proofs.lemmas.List.get_or_append_left ids (t ∷ texts) d k low ∙ sym e ∙ sym (Rattle.std.proofs.lemmas.List.get_or_at ids t texts d (length ids) refl)))) in
    ap (λ xs. fold noted xs texts) (noted-new ids t (is_given t) (list_any (bytes_eq t) ids) given absent)
    ∙ all-new (ids ++ t ∷ []) texts (subst AreIds (sym (append_assoc ids (t ∷ []) texts)) are)
    ∙ append_assoc ids (t ∷ []) texts
  where
    differs : (a b : List ℕ) → (a ≢ b) → bytes_eq a b ≡ false
    differs a b h = Rattle.std.proofs.lemmas.Bool.false_from_ne_true (bytes_eq a b) (λ e. h ((bytes_eq-Decides a b).0 e))

-- noting distinct ids keeps their list
pub noted_of_ids : (texts : List (List ℕ)) → AreIds texts → fold noted [] texts ≡ texts
noted_of_ids texts are = all-new [] texts are

-- ---- first appearances

abbrev appearances-from : List (List ℕ) → List (List ℕ) → List (List ℕ)
appearances-from first texts = map (λ p. p.1) (filter (λ p. not (list_any (bytes_eq p.1) p.0)) (with_earlier_from first texts))

-- ids that have each given text just where these earlier texts do
abbrev HaveTexts : List (List ℕ) → List (List ℕ) → Type 0
HaveTexts ids first = (q : List ℕ) → is_given q ≡ true → list_any (bytes_eq q) ids ≡ list_any (bytes_eq q) first

one-appearance : (ids : List (List ℕ)) (t : List ℕ) (g b c : Bool) → g ≡ true → b ≡ c → cond (g && not b) (ids ++ t ∷ []) ids ≡ ids ++ cond (not c) (t ∷ []) []
one-appearance ids t true true true eg e = sym (append-nil ids)
one-appearance ids t true false false eg e = refl
one-appearance ids t true true false eg e = absurd (true≢false e)
one-appearance ids t true false true eg e = absurd (false≢true e)
one-appearance ids t false b c eg e = absurd (false≢true eg)

split-cond : {X Y : Type 0} (f : X → Y) (b : Bool) (x : X) (xs : List X) → map f (cond b (x ∷ xs) xs) ≡ cond b (f x ∷ []) [] ++ map f xs
split-cond f true x xs = refl
split-cond f false x xs = refl

noted-appearances : (ids first texts : List (List ℕ)) → HaveTexts ids first → All (λ t. t ≢ []) texts → fold noted ids texts ≡ ids ++ appearances-from first texts
unfolding with_earlier_from
noted-appearances ids first [] have given = sym (append-nil ids)
noted-appearances ids first (t ∷ texts) have given =
    let here : is_given t ≡ true = is_given-from t (All-head (λ x. x ≢ []) t texts given) in
    let new : List (List ℕ) = cond (not (list_any (bytes_eq t) first)) (t ∷ []) [] in
    let one : noted ids t ≡ ids ++ new = one-appearance ids t (is_given t) (list_any (bytes_eq t) ids) (list_any (bytes_eq t) first) here (have t here) in
    let have' : HaveTexts (noted ids t) (first ++ t ∷ []) =
    λ q gq. noted-has q t ids gq ∙ ap (λ b. b || bytes_eq q t) (have q gq) ∙ last (list_any (bytes_eq q) first) (bytes_eq q t) ∙ sym (list_any-append (bytes_eq q) first (t ∷ [])) in
    noted-appearances (noted ids t) (first ++ t ∷ []) texts have' (All-tail (λ x. x ≢ []) t texts given)
    ∙ ap (λ xs. xs ++ appearances-from (first ++ t ∷ []) texts) one
    ∙ append_assoc ids new (appearances-from (first ++ t ∷ []) texts)
    ∙ ap (λ xs. ids ++ xs) (sym (split-cond (λ p. p.1) (not (list_any (bytes_eq t) first)) (first, t) (filter (λ p. not (list_any (bytes_eq p.1) p.0)) (with_earlier_from (first ++ t ∷ []) texts))))
  where
    last : (a b : Bool) → (a || b) ≡ (a || (b || false))
    last true b = refl
    last false true = refl
    last false false = refl

-- given texts by their first appearance are those that are noted of them
pub first_appearances-noted : (texts : List (List ℕ)) → All (λ t. t ≢ []) texts → first_appearances texts ≡ fold noted [] texts
first_appearances-noted texts given = sym (noted-appearances [] [] texts (λ q g. refl) given)
