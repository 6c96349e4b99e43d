-- Ids that were met tell which ids repeat.
use Rattle.std.proofs.Common.{◌≡◌, ℕ, ◌+◌, Bool, true, false, not, ◌&&◌, ◌||◌, cond, nat_lt, List, [], ◌∷◌, ◌++◌, map, fold, length, eqb, Some, None, refl, sym, ◌∙◌, ap, subst, arith}
use Rattle.std.specs.Borrow.{Bor}
use Rattle.std.specs.List.{list_any, position, position_or_len}
use Rattle.std.specs.Str.{bytes_eq}
use Rattle.std.proofs.lemmas.Bool.{false≢true}
use Rattle.std.proofs.lemmas.List.{length-map, map-append}
use Rattle.std.proofs.lemmas.List.Folds.{list_any-append}
use Rattle.std.proofs.lemmas.Slice.Eq.{bytes_eq-Decides}
use Rattle.indexmap.specs.IndexSet.{insert_key}
use Rattle.feed_tables.specs.Refusals.{is_given}
use Rattle.field_text.specs.Grammars.{id}
use Rattle.feed_meaning.specs.Rules.{Values, repeats_id, stand}
use Rattle.feed_meaning.specs.Noted.{noted}
use Prim.Native.String.{String}

pub list_any-map : {X Y : Type 0} (f : X → Y) (p : Y → Bool) (xs : List X) → list_any p (map f xs) ≡ list_any (λ x. p (f x)) xs
list_any-map f p [] = refl
list_any-map f p (x ∷ xs) = ap (λ b. p (f x) || b) (list_any-map f p xs)

position_or_len-map : {X Y : Type 0} (f : X → Y) (p : Y → Bool) (xs : List X) → position_or_len p (map f xs) ≡ position_or_len (λ x. p (f x)) xs
position_or_len-map f p [] = refl
position_or_len-map f p (x ∷ xs) = ap (λ n. cond (not (p (f x))) (1 + n) 0) (position_or_len-map f p xs)

pub position-map : {X Y : Type 0} (f : X → Y) (p : Y → Bool) (xs : List X) → position p (map f xs) ≡ position (λ x. p (f x)) xs
position-map f p xs =
    let at = position_or_len (λ x. p (f x)) xs in
    ap (λ n. cond (nat_lt n (length (map f xs))) (Some n) None) (position_or_len-map f p xs)
    ∙ ap (λ m. cond (nat_lt at m) (Some at) None) (length-map xs f)

-- the ids of a set of texts after one more
map-cond : (b : Bool) (keys : List (Bor (List ℕ))) (key : Bor (List ℕ))
    → map (λ k. k.now) (cond b keys (keys ++ key ∷ [])) ≡ cond (not b) (map (λ k. k.now) keys ++ key.now ∷ []) (map (λ k. k.now) keys)
map-cond true keys key = refl
map-cond false keys key = map-append (λ k. k.now) keys (key ∷ [])

pub insert_key-noted : (keys : List (Bor (List ℕ))) (key : Bor (List ℕ)) → is_given key.now ≡ true
    → map (λ k. k.now) (insert_key (λ x y. bytes_eq x.now y.now) keys key) ≡ noted (map (λ k. k.now) keys) key.now
insert_key-noted keys key given =
    let now : Bor (List ℕ) → List ℕ = λ k. k.now in
    let added = map now keys ++ key.now ∷ [] in
    map-cond (list_any (λ k. bytes_eq key.now k.now) keys) keys key
    ∙ ap (λ b. cond (not b) added (map now keys)) (sym (list_any-map now (bytes_eq key.now) keys))
    ∙ ap (λ g. cond (g && not (list_any (bytes_eq key.now) (map now keys))) added (map now keys)) (sym given)

-- a text that is given equals an id just where they stand equal as ids
pub stands : (q t : List ℕ) → stand bytes_eq (id q) (id t) ≡ (is_given q && bytes_eq q t)
stands [] t = refl
stands (b ∷ q) [] = refl
stands (b ∷ q) (c ∷ t) = refl

not_given : (q t : List ℕ) → is_given q ≡ true → is_given t ≡ false → bytes_eq q t ≡ false
not_given [] t given h = absurd (false≢true given)
not_given (b ∷ q) [] given h = refl
not_given (b ∷ q) (c ∷ t) given h = absurd (false≢true (sym h))

-- where t is among the ids, so is whatever equals it
among : (q t : List ℕ) (ids : List (List ℕ)) → list_any (bytes_eq t) ids ≡ true → bytes_eq q t ≡ true → list_any (bytes_eq q) ids ≡ true
among q t ids h e = subst (λ x. list_any (bytes_eq x) ids ≡ true) (sym ((bytes_eq-Decides q t).0 e)) h

-- after one more text
noted-cases : (q t : List ℕ) (ids : List (List ℕ)) (g b : Bool) → (g ≡ false → bytes_eq q t ≡ false) → (b ≡ true → bytes_eq q t ≡ true → list_any (bytes_eq q) ids ≡ true)
    → list_any (bytes_eq q) (cond (g && not b) (ids ++ t ∷ []) ids) ≡ (list_any (bytes_eq q) ids || bytes_eq q t)
noted-cases q t ids false b absent present = let e = absent refl in grind arith
noted-cases q t ids true true absent present = let e = present refl in grind arith
noted-cases q t ids true false absent present = let e = list_any-append (bytes_eq q) ids (t ∷ []) in grind arith

pub noted-has : (q t : List ℕ) (ids : List (List ℕ)) → is_given q ≡ true → list_any (bytes_eq q) (noted ids t) ≡ (list_any (bytes_eq q) ids || bytes_eq q t)
noted-has q t ids given = noted-cases q t ids (is_given t) (list_any (bytes_eq t) ids) (not_given q t given) (among q t ids)

-- the ids of all texts have a text just where one of them is it
pub all_noted-has : (q : List ℕ) (ids texts : List (List ℕ)) → is_given q ≡ true
    → list_any (bytes_eq q) (fold noted ids texts) ≡ (list_any (bytes_eq q) ids || list_any (bytes_eq q) texts)
all_noted-has q ids [] given = grind arith
all_noted-has q ids (t ∷ texts) given =
    let rest = all_noted-has q (noted ids t) texts given in
    let one = noted-has q t ids given in
    grind arith

any-given : (q : List ℕ) (texts : List (List ℕ)) → is_given q ≡ true → list_any (λ t. stand bytes_eq (id q) (id t)) texts ≡ list_any (bytes_eq q) texts
any-given q [] given = refl
any-given q (t ∷ texts) given = let e = stands q t in let rest = any-given q texts given in grind arith

any-empty : (q : List ℕ) (texts : List (List ℕ)) → is_given q ≡ false → list_any (λ t. stand bytes_eq (id q) (id t)) texts ≡ false
any-empty q [] given = refl
any-empty q (t ∷ texts) given = let e = stands q t in let rest = any-empty q texts given in grind arith

-- an id repeats where it was met
any_stands : (q : List ℕ) (texts : List (List ℕ)) (g : Bool) → is_given q ≡ g
    → list_any (λ t. stand bytes_eq (id q) (id t)) texts ≡ (g && list_any (bytes_eq q) (fold noted [] texts))
any_stands q texts true given = any-given q texts given ∙ sym (all_noted-has q [] texts given)
any_stands q texts false given = any-empty q texts given

pub repeats_id-noted : (column : String) (earlier : List Values) (r : Values)
    → repeats_id column earlier r ≡ (is_given (r column) && list_any (bytes_eq (r column)) (fold noted [] (map (λ e. e column) earlier)))
repeats_id-noted column earlier r =
    sym (list_any-map (λ e. e column) (λ t. stand bytes_eq (id (r column)) (id t)) earlier)
    ∙ any_stands (r column) (map (λ e. e column) earlier) (is_given (r column)) refl

pub not-not : (b : Bool) → not (not b) ≡ b
not-not true = refl
not-not false = refl

pub given-from_length : (text : List ℕ) → eqb (length text) 0 ≡ false → is_given text ≡ true
given-from_length [] h = absurd (false≢true (sym h))
given-from_length (b ∷ text) h = refl
