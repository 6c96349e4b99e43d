-- How a table's pool and indices follow its records.
use Rattle.std.proofs.Common.{◌≡◌, ◌≤◌, ◌<◌, ◌+◌, ◌-◌, ◌⊎◌, inl, inr, ℕ, zero, suc, List, [], ◌∷◌, ◌++◌, take, drop, length, get_or, Some, None, Bool, true, false, refl, sym, ap, ◌∙◌, arith}
use Rattle.std.specs.Prelude.{not, ◌==◌, ◌||◌, if◌then◌else◌, filter, position}
use Rattle.std.specs.List.{list_all, list_any}
use Rattle.std.specs.Str.{bytes_eq, is_utf8}
use Rattle.std.proofs.lemmas.Bool.{le-ltb, lt-ltb, ne_eqb}
use Rattle.std.proofs.lemmas.List.{drop-append-le, drop_all, drop_more, get_or-drop, get_or-take, get_or_past, length-append, length-drop, length-take, length-take-le, take-append-le, take_all}
use Rattle.std.proofs.lemmas.List.Sums.{position_or_len_is}
use Rattle.feed_tables.specs.Parts.{EndAt, parts}
use Rattle.feed_tables.specs.Records.{numbered_from}
use Rattle.feed_tables.specs.Refusals.{first_refusal_from, has_duplicate, is_given, refusal_of}
use Rattle.flex_model.specs.declared.limits.TheConstants.{MOST_RECORDS}
use Rattle.feed_tables.specs.declared.refusal.TableRefusal.{TableRefusal}
use Rattle.feed_tables.specs.declared.refusal.TableRefusal.TheVariants as refusal

-- ---- indices

-- a start comes no later than the end
pub end-low : (start : ℕ) (ends : List ℕ) (size : ℕ) → EndAt start ends size → start ≤ size
unfolding EndAt
end-low start [] size h = omega (arith, h)
end-low start (end ∷ ends) size h = omega (arith, h.0, end-low end ends size h.1)

-- one more index
pub end-more : (start : ℕ) (ends : List ℕ) (size more : ℕ) → EndAt start ends size → size ≤ more → EndAt start (ends ++ more ∷ []) more
unfolding EndAt
end-more start [] size more h g = (omega (arith, h, g), refl)
end-more start (end ∷ ends) size more h g = (h.0, end-more end ends size more h.1 g)

-- the indices are in order
pub end-order : (start : ℕ) (ends : List ℕ) (size i : ℕ) → EndAt start ends size → i + 1 < length ends → get_or ends i 0 ≤ get_or ends (i + 1) 0
unfolding EndAt
end-order start [] size i h lt = absurd (omega (arith, lt))
end-order start (end ∷ []) size i h lt = absurd (omega (arith, lt))
end-order start (end ∷ more ∷ ends) size zero h lt = h.1.0
end-order start (end ∷ more ∷ ends) size (suc i) h lt =
    let step : suc i + 1 ≡ suc (i + 1) = omega arith in
    rw step (end-order end (more ∷ ends) size i h.1 (omega (arith, lt)))

pub end-within : (start : ℕ) (ends : List ℕ) (size i : ℕ) → EndAt start ends size → i < length ends → get_or ends i 0 ≤ size
unfolding EndAt
end-within start [] size i h lt = absurd (omega (arith, lt))
end-within start (end ∷ ends) size zero h lt = end-low end ends size h.1
end-within start (end ∷ ends) size (suc i) h lt = end-within end ends size i h.1 (omega (arith, lt))

-- ---- parts

pub length-parts : {X : Type 0} (start : ℕ) (ends : List ℕ) (xs : List X) → length (parts start ends xs) ≡ length ends
unfolding parts
length-parts start [] xs = refl
length-parts start (end ∷ ends) xs = ap suc (length-parts end ends xs)

-- one more part at the end
pub parts-more : {X : Type 0} (start : ℕ) (ends : List ℕ) (xs ys : List X) → EndAt start ends (length xs)
    → parts start (ends ++ length (xs ++ ys) ∷ []) (xs ++ ys) ≡ parts start ends xs ++ ys ∷ []
unfolding parts EndAt
parts-more start [] xs ys h =
    let rest : drop start (xs ++ ys) ≡ ys = drop-append-le start xs ys (omega (arith, h)) ∙ ap (λ zs. zs ++ ys) (drop_all start xs (omega (arith, h))) in
    let size = length-drop start (xs ++ ys) in
    let same = ap length rest in
    ap (λ part. part ∷ []) (take_all (length (xs ++ ys) - start) (drop start (xs ++ ys)) (omega (arith, size)) ∙ rest)
parts-more start (end ∷ ends) xs ys h =
    let low = end-low end ends (length xs) h.1 in
    let size = length-drop start xs in
    let first : take (end - start) (drop start (xs ++ ys)) ≡ take (end - start) (drop start xs) =
    ap (take (end - start)) (drop-append-le start xs ys (omega (arith, h.0, low))) ∙ take-append-le (end - start) (drop start xs) ys (omega (arith, size, low, h.0)) in
    rw (first, parts-more end ends xs ys h.1) refl

-- the same of indices and a list that gained it
pub parts-pushed : {X : Type 0} (ends indices : List ℕ) (old new xs : List X) (n : ℕ) → EndAt 0 ends (length old) → indices ≡ ends ++ n ∷ [] → n ≡ length new → new ≡ old ++ xs
    → parts 0 indices new ≡ parts 0 ends old ++ xs ∷ []
parts-pushed ends indices old new xs n cut e f g = rw (e, f, g) (parts-more 0 ends old xs cut)

pub cut-pushed : {X : Type 0} (ends indices : List ℕ) (old new xs : List X) (n : ℕ) → EndAt 0 ends (length old) → indices ≡ ends ++ n ∷ [] → n ≡ length new → new ≡ old ++ xs
    → EndAt 0 indices (length new)
cut-pushed ends indices old new xs n cut e f g =
    rw (e, f, g) (end-more 0 ends (length old) (length (old ++ xs)) cut (omega (arith, length-append old xs)))

-- the first part
pub first-part : {X : Type 0} (ends : List ℕ) (xs : List X) → 0 < length ends → get_or (parts 0 ends xs) 0 [] ≡ take (get_or ends 0 0) xs
unfolding parts
first-part [] xs h = absurd (omega (arith, h))
first-part (end ∷ ends) xs h = let n : end - 0 ≡ end = omega arith in ap (λ k. take k xs) n

-- a later part
pub later-part : {X : Type 0} (start : ℕ) (ends : List ℕ) (xs : List X) (i : ℕ) → i + 1 < length ends
    → get_or (parts start ends xs) (i + 1) [] ≡ take (get_or ends (i + 1) 0 - get_or ends i 0) (drop (get_or ends i 0) xs)
unfolding parts
later-part start [] xs i lt = absurd (omega (arith, lt))
later-part start (end ∷ []) xs i lt = absurd (omega (arith, lt))
later-part start (end ∷ more ∷ ends) xs zero lt = refl
later-part start (end ∷ more ∷ ends) xs (suc i) lt =
    let step : suc i + 1 ≡ suc (i + 1) = omega arith in
    rw step (later-part end (more ∷ ends) xs i (omega (arith, lt)))

-- a field of a later part
pub field-of-part : (ends : List ℕ) (xs : List (List ℕ)) (index column : ℕ) → 0 < index → index < length ends
    → (column < get_or ends index 0 - get_or ends (index - 1) 0 → get_or (get_or (parts 0 ends xs) index []) column [] ≡ get_or xs (get_or ends (index - 1) 0 + column) [])
    × (get_or ends index 0 - get_or ends (index - 1) 0 ≤ column → get_or (get_or (parts 0 ends xs) index []) column [] ≡ [])
field-of-part ends xs index column low high =
    let step : (index - 1) + 1 ≡ index = omega arith in
    let at_step : get_or (parts 0 ends xs) ((index - 1) + 1) [] ≡ take (get_or ends ((index - 1) + 1) 0 - get_or ends (index - 1) 0) (drop (get_or ends (index - 1) 0) xs) =
    later-part 0 ends xs (index - 1) (omega (arith, low, high)) in
    let part = rw step at at_step in (
      (λ lt. rw part (get_or-take _ (drop (get_or ends (index - 1) 0) xs) column [] lt ∙ get_or-drop (get_or ends (index - 1) 0) xs column [])),
      (λ le. rw part (let size = length-take (get_or ends index 0 - get_or ends (index - 1) 0) (drop (get_or ends (index - 1) 0) xs) in get_or_past _ column [] (omega (arith, size, le)))),
    )

-- ---- rows

pub numbered-more : (rows : List (List (List ℕ))) (index : ℕ) → index < length rows
    → numbered_from (index + 1) (drop index rows) ≡ record { number = index + 1; fields = get_or rows index [] } ∷ numbered_from (index + 1 + 1) (drop (index + 1) rows)
unfolding numbered_from
numbered-more rows index lt = rw (drop_more rows index [] lt) refl

pub numbered-end : (rows : List (List (List ℕ))) (index : ℕ) → length rows ≤ index → numbered_from (index + 1) (drop index rows) ≡ []
unfolding numbered_from
numbered-end rows index le = rw (drop_all index rows le) refl

pub length-numbered : (number : ℕ) (rows : List (List (List ℕ))) → length (numbered_from number rows) ≡ length rows
unfolding numbered_from
length-numbered number [] = refl
length-numbered number (fields ∷ rest) = ap suc (length-numbered (number + 1) rest)

-- ---- fields of a pool

-- a field that isn't empty, by its length
pub given-length : (xs : List ℕ) → is_given xs ≡ not (length xs == 0)
given-length [] = refl
given-length (x ∷ xs) = sym (ap not (ne_eqb (length (x ∷ xs)) 0 (λ e. absurd (omega (arith, e)))))

pub any-end : (p : List ℕ → Bool) (xs : List (List ℕ)) (i : ℕ) → length xs ≤ i → list_any p (drop i xs) ≡ false
any-end p xs i le = rw (drop_all i xs le) refl

pub no-duplicates : has_duplicate [] ≡ false
unfolding has_duplicate
no-duplicates = refl

-- a duplicate stays one
pub duplicate-more : (xs : List (List ℕ)) (n : ℕ) → has_duplicate (filter is_given (drop n xs)) ≡ true → has_duplicate (filter is_given xs) ≡ true
unfolding has_duplicate
duplicate-more xs zero h = h
duplicate-more [] (suc n) h = h
duplicate-more (x ∷ xs) (suc n) h = by (is_given x) (duplicate-more xs n h)
  where
    or-true : (b : Bool) → (b || true) ≡ true
    or-true true = refl
    or-true false = refl

    by : (b : Bool) → has_duplicate (filter is_given xs) ≡ true → has_duplicate (if b then x ∷ filter is_given xs else filter is_given xs) ≡ true
    by true e = ap (λ t. list_any (bytes_eq x) (filter is_given xs) || t) e ∙ or-true (list_any (bytes_eq x) (filter is_given xs))
    by false e = e

-- a name at an index, from the end: one that stands after it too, another, and none
pub given-at : (xs : List (List ℕ)) (i : ℕ) (x : List ℕ) (b : Bool) → x ≡ get_or xs i [] → b ≡ (length x == 0) → is_given (get_or xs i []) ≡ not b
given-at xs i x b e f = ap is_given (sym e) ∙ given-length x ∙ ap not (sym f)

-- ---- the columns

-- the first index that passes a test
pub position-found : (p : List ℕ → Bool) (xs : List (List ℕ)) (i : ℕ) → i < length xs → ((k : ℕ) → k < i → p (get_or xs k []) ≡ false) → p (get_or xs i []) ≡ true → Some i ≡ position p xs
position-found p xs i lt before here =
    let at = position_or_len_is p xs i [] (omega (arith, lt)) before (λ _. here) in
    rw (at, lt-ltb i (length xs) lt) refl

pub position-missing : (p : List ℕ → Bool) (xs : List (List ℕ)) → ((k : ℕ) → k < length xs → p (get_or xs k []) ≡ false) → None ≡ position p xs
position-missing p xs none =
    let at = position_or_len_is p xs (length xs) [] (omega arith) none (λ lt. absurd (omega (arith, lt))) in
    rw (at, le-ltb (length xs) (length xs) (omega arith)) refl

-- the header of a pool
pub header-field : (ends : List ℕ) (pool : List (List ℕ)) → 0 < length ends → EndAt 0 ends (length pool)
    → (length (get_or (parts 0 ends pool) 0 []) ≡ get_or ends 0 0) × ((k : ℕ) → k < get_or ends 0 0 → get_or (get_or (parts 0 ends pool) 0 []) k [] ≡ get_or pool k [])
header-field ends pool some cut =
    let first = first-part ends pool some in (
      ap length first ∙ length-take-le (get_or ends 0 0) pool (end-within 0 ends (length pool) 0 cut some),
      (λ k lt. ap (λ xs. get_or xs k []) first ∙ get_or-take (get_or ends 0 0) pool k [] lt),
    )

-- ---- refusals

pub refusal-text : (columns index : ℕ) (fields : List (List ℕ)) → index ≤ MOST_RECORDS → list_all is_utf8 fields ≡ false
    → refusal_of columns index fields ≡ Some (refusal.NotUtf8 (index + 1))
unfolding refusal_of
refusal-text columns index fields high text = rw (le-ltb MOST_RECORDS index high, text) refl

pub refusal-duplicate : (columns : ℕ) (fields : List (List ℕ)) → list_all is_utf8 fields ≡ true → has_duplicate (filter is_given fields) ≡ true
    → refusal_of columns 0 fields ≡ Some refusal.DuplicateColumn
unfolding refusal_of
refusal-duplicate columns fields text twice = rw (text, twice) refl

pub refusal-header : (columns : ℕ) (fields : List (List ℕ)) → columns ≡ length fields → list_all is_utf8 fields ≡ true → has_duplicate (filter is_given fields) ≡ false
    → refusal_of columns 0 fields ≡ None
unfolding refusal_of
refusal-header columns fields size text once = rw (text, once, drop_all columns fields (omega (arith, size))) refl

pub refusal-long : (columns index : ℕ) (fields : List (List ℕ)) → 0 < index → index ≤ MOST_RECORDS → list_all is_utf8 fields ≡ true → list_any is_given (drop columns fields) ≡ true
    → refusal_of columns index fields ≡ Some (refusal.RowTooLong (index + 1))
unfolding refusal_of
refusal-long columns index fields low high text given = rw (le-ltb MOST_RECORDS index high, text, ne_eqb index 0 (λ e. absurd (omega (arith, e, low))), given) refl

pub refusal-none : (columns index : ℕ) (fields : List (List ℕ)) → 0 < index → index ≤ MOST_RECORDS → list_all is_utf8 fields ≡ true → list_any is_given (drop columns fields) ≡ false
    → refusal_of columns index fields ≡ None
unfolding refusal_of
refusal-none columns index fields low high text given = rw (le-ltb MOST_RECORDS index high, text, ne_eqb index 0 (λ e. absurd (omega (arith, e, low))), given) refl

pub refusal-many : (columns index : ℕ) (fields : List (List ℕ)) → MOST_RECORDS < index → refusal_of columns index fields ≡ Some refusal.TooManyRows
unfolding refusal_of
refusal-many columns index fields high = rw (lt-ltb MOST_RECORDS index high) refl

-- records so far that break no rule, and the next one
pub refusal-next : (columns index : ℕ) (fields : List (List ℕ)) (rest : List (List (List ℕ))) → refusal_of columns index fields ≡ None
    → first_refusal_from columns index (fields ∷ rest) ≡ first_refusal_from columns (index + 1) rest
unfolding first_refusal_from
refusal-next columns index fields rest e = rw e refl

pub refusal-first : (columns index : ℕ) (fields : List (List ℕ)) (rest : List (List (List ℕ))) (r : TableRefusal) → refusal_of columns index fields ≡ Some r
    → first_refusal_from columns index (fields ∷ rest) ≡ Some r
unfolding first_refusal_from
refusal-first columns index fields rest r e = rw e refl

pub refusal-end : (columns index : ℕ) → first_refusal_from columns index [] ≡ None
unfolding first_refusal_from
refusal-end columns index = refl

-- a record with a field that isn't UTF-8 is refused for that
pub text-refused : (columns index : ℕ) (fields : List (List ℕ)) (e : TableRefusal) → index ≤ MOST_RECORDS
    → (e ≡ refusal.NoMemory) ⊎ ((e ≡ refusal.NotUtf8 (index + 1)) × (list_all is_utf8 fields ≡ false))
    → (e ≡ refusal.NoMemory) ⊎ (refusal_of columns index fields ≡ Some e)
text-refused columns index fields e high (inl none) = inl none
text-refused columns index fields e high (inr bad) = inr (refusal-text columns index fields high bad.1 ∙ ap Some (sym bad.0))

-- a pool with more fields, from an index after those that it had
pub drop-added : (old new : List (List ℕ)) (n : ℕ) → drop (length old + n) (old ++ new) ≡ drop n new
drop-added [] new n = let z : 0 + n ≡ n = omega arith in ap (λ k. drop k new) z
drop-added (x ∷ xs) new n = let s : suc (length xs) + n ≡ suc (length xs + n) = omega arith in ap (λ k. drop k (x ∷ (xs ++ new))) s ∙ drop-added xs new n

-- a given name at an index, and the names after it
pub given-names : (xs : List (List ℕ)) (i : ℕ) → i < length xs → is_given (get_or xs i []) ≡ true → filter is_given (drop i xs) ≡ get_or xs i [] ∷ filter is_given (drop (i + 1) xs)
given-names xs i lt e = rw (drop_more xs i [] lt, e) refl

pub duplicate-seen : (xs : List (List ℕ)) (i : ℕ) (x : List ℕ) (b r : Bool) → i < length xs → x ≡ get_or xs i [] → b ≡ (length x == 0) → b ≡ false
    → list_any (bytes_eq x) (filter is_given (drop (i + 1) xs)) ≡ r
    → has_duplicate (filter is_given (drop i xs)) ≡ (r || has_duplicate (filter is_given (drop (i + 1) xs)))
unfolding has_duplicate
duplicate-seen xs i x b r lt e f n h =
    ap has_duplicate (given-names xs i lt (given-at xs i x b e f ∙ ap not n))
    ∙ ap (λ t. t || has_duplicate (filter is_given (drop (i + 1) xs))) (ap (λ y. list_any (bytes_eq y) (filter is_given (drop (i + 1) xs))) (sym e) ∙ h)
