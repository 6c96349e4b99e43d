-- Lines of records, one more at a time.
use Rattle.std.proofs.Common.{◌≡◌, ◌∙◌, ℕ, ◌+◌, Bool, true, false, List, [], ◌∷◌, ◌++◌, arith, filter, map, refl, sym, ap, append_assoc}
use Rattle.std.proofs.lemmas.List.{append-nil, map-append}
use Rattle.std.proofs.lemmas.List.Concat.{flat_map-append}
use Rattle.std.proofs.lemmas.List.Elements.{filter-append}
use Rattle.std.proofs.lemmas.List.FromFn.{map-range_with_len_more}
use Rattle.feed_gen.specs.Texts.{below, lines, record_line}

pub lines-append : (xs ys : List (List (List ℕ))) → lines (xs ++ ys) ≡ lines xs ++ lines ys
unfolding lines
lines-append xs ys = flat_map-append record_line xs ys

pub lines-one : (x : List (List ℕ)) → lines (x ∷ []) ≡ record_line x
unfolding lines
lines-one x = append-nil (record_line x)

map-id : {X : Type 0} (xs : List X) → map (λ x. x) xs ≡ xs
map-id [] = refl
map-id (x ∷ xs) = ap (λ rest. x ∷ rest) (map-id xs)

pub below-more : (i : ℕ) → below (i + 1) ≡ below i ++ i ∷ []
unfolding below
below-more i =
    sym (map-id _) ∙ map-range_with_len_more (λ (k : ℕ). k) 0 i i (omega arith) ∙ ap (λ xs. xs ++ i ∷ []) (map-id _)

-- no line yet
pub no_lines : (before : List ℕ) (f : ℕ → List (List ℕ)) → before ≡ before ++ lines (map f (below 0))
unfolding lines below
no_lines before f = sym (append-nil before)

next_line : (before : List ℕ) (xs : List (List (List ℕ))) (x : List (List ℕ))
    → (before ++ lines xs) ++ record_line x ≡ before ++ lines (xs ++ x ∷ [])
next_line before xs x =
    append_assoc before (lines xs) (record_line x)
    ∙ ap (λ rest. before ++ rest) (ap (λ line. lines xs ++ line) (sym (lines-one x)) ∙ sym (lines-append xs (x ∷ [])))

-- the next line
pub one_more_line : (before : List ℕ) (f : ℕ → List (List ℕ)) (i : ℕ)
    → (before ++ lines (map f (below i))) ++ record_line (f i) ≡ before ++ lines (map f (below (i + 1)))
unfolding below
one_more_line before f i =
    next_line before (map f (below i)) (f i)
    ∙ ap (λ records. before ++ lines records) (sym (map-range_with_len_more f 0 i i (omega arith)))

-- the same of those that pass a test
pub none_passed : (before : List ℕ) (f : ℕ → List (List ℕ)) (test : ℕ → Bool)
    → before ≡ before ++ lines (map f (filter test (below 0)))
unfolding lines below
none_passed before f test = sym (append-nil before)

pub filtered-more : (test : ℕ → Bool) (i : ℕ) → filter test (below (i + 1)) ≡ filter test (below i) ++ filter test (i ∷ [])
filtered-more test i = ap (filter test) (below-more i) ∙ filter-append test (below i) (i ∷ [])

pub next_passes : (before : List ℕ) (f : ℕ → List (List ℕ)) (test : ℕ → Bool) (i : ℕ) → test i ≡ true
    → (before ++ lines (map f (filter test (below i)))) ++ record_line (f i)
    ≡ before ++ lines (map f (filter test (below (i + 1))))
next_passes before f test i passes =
    let one : filter test (i ∷ []) ≡ i ∷ [] = rw passes refl in
    next_line before (map f (filter test (below i))) (f i)
    ∙ ap (λ records. before ++ lines records)
    (sym (map-append f (filter test (below i)) (i ∷ []))
    ∙ ap (map f) (ap (λ last. filter test (below i) ++ last) (sym one) ∙ sym (filtered-more test i)))

pub next_fails : (before : List ℕ) (f : ℕ → List (List ℕ)) (test : ℕ → Bool) (i : ℕ) → test i ≡ false
    → before ++ lines (map f (filter test (below i))) ≡ before ++ lines (map f (filter test (below (i + 1))))
next_fails before f test i fails =
    let none : filter test (i ∷ []) ≡ [] = rw fails refl in
    ap (λ kept. before ++ lines (map f kept))
    (sym (append-nil _) ∙ ap (λ last. filter test (below i) ++ last) (sym none) ∙ sym (filtered-more test i))

-- what a loop over records wants
pub ruleset line_steps = (no_lines, one_more_line, none_passed, next_passes, next_fails)
