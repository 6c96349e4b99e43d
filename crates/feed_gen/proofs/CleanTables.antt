-- Tables whose records break no rule.
use Rattle.std.proofs.Common.{◌≡◌, ◌<◌, ◌+◌, ◌∙◌, ℕ, zero, suc, Bool, true, false, List, [], ◌∷◌, ◌++◌, arith, ap, append_assoc, filter, map, refl, subst, sym}
use Rattle.std.specs.Prelude.{◌&&◌}
use Rattle.std.specs.List.{filter_map, flat_map, list_any}
use Rattle.std.proofs.lemmas.List.{append-nil, map-append}
use Rattle.std.proofs.lemmas.List.Folds.{list_any-append}
use Rattle.flex_model.specs.declared.fault.InputFile.{InputFile}
use Rattle.feed_tables.specs.Records.{numbered_from}
use Rattle.feed_meaning.specs.Rules.{Rule, Rules, Values}
use Rattle.feed_meaning.specs.Tables.{Entry, entries_of, entry_of, faults_at, record_faults, values_of, with_earlier_from}
use Rattle.feed_gen.specs.Texts.{below}
use Rattle.feed_gen.proofs.LineFacts.{filtered-more}

-- no rule is broken
abbrev pub Clean : List Rule → Type 0
Clean rules = filter_map (λ r. r) rules ≡ []

-- each record breaks no rule beside those before it
abbrev pub AreClean : Rules → List Values → List Values → Type 0
AreClean rules earlier [] = Unit {0}
AreClean rules earlier (r ∷ rest) = Clean (rules earlier r) × AreClean rules (earlier ++ r ∷ []) rest

faults-none : (file : InputFile) (rules : Rules) (earlier entries : List Entry)
    → AreClean rules (map (λ e. e.values) earlier) (map (λ e. e.values) entries)
    → flat_map (λ p. faults_at file p.1.row (rules (map (λ e. e.values) p.0) p.1.values)) (with_earlier_from earlier entries) ≡ []
unfolding with_earlier_from
faults-none file rules earlier [] clean = refl
faults-none file rules earlier (e ∷ rest) clean =
    rw clean.0 (faults-none file rules (earlier ++ e ∷ []) rest
    (rw (map-append (λ (x : Entry). x.values) earlier (e ∷ [])) clean.1))

numbered-values : (header : List (List ℕ)) (number : ℕ) (rows : List (List (List ℕ)))
    → map (λ (e : Entry). e.values) (map (entry_of header) (numbered_from number rows)) ≡ map (values_of header) rows
unfolding numbered_from
numbered-values header number [] = refl
numbered-values header number (r ∷ rows) = ap (λ rest. values_of header r ∷ rest) (numbered-values header (number + 1) rows)

-- the values of a table's records
pub table-values : (header : List (List ℕ)) (rows : List (List (List ℕ)))
    → map (λ (e : Entry). e.values) (entries_of (header ∷ rows)) ≡ map (values_of header) rows
table-values header rows = numbered-values header 2 rows

-- clean records give no fault
pub clean-faults : (file : InputFile) (rules : Rules) (header : List (List ℕ)) (rows : List (List (List ℕ)))
    → AreClean rules [] (map (values_of header) rows) → record_faults file rules (entries_of (header ∷ rows)) ≡ []
clean-faults file rules header rows clean =
    faults-none file rules [] (entries_of (header ∷ rows)) (rw (table-values header rows) clean)

pub clean-append : (rules : Rules) (earlier first second : List Values) → AreClean rules earlier first → AreClean rules (earlier ++ first) second
    → AreClean rules earlier (first ++ second)
clean-append rules earlier [] second clean more = rw (append-nil earlier) at more
clean-append rules earlier (r ∷ first) second clean more =
    (clean.0, clean-append rules (earlier ++ r ∷ []) first second clean.1 (rw (append_assoc earlier (r ∷ []) first) more))

-- the same of one more
pub clean-more : (rules : Rules) (earlier first : List Values) (r : Values) → AreClean rules earlier first → Clean (rules (earlier ++ first) r)
    → AreClean rules earlier (first ++ r ∷ [])
clean-more rules earlier first r clean last = clean-append rules earlier first (r ∷ []) clean (last, tt)

-- records by numbers below a bound that pass a test: each is clean beside those of lesser numbers
pub clean-filtered : (rules : Rules) (earlier : List Values) (f : ℕ → Values) (test : ℕ → Bool) (count : ℕ)
    → ((i : ℕ) → i < count → test i ≡ true → Clean (rules (earlier ++ map f (filter test (below i))) (f i)))
    → AreClean rules earlier (map f (filter test (below count)))
unfolding below
clean-filtered rules earlier f test zero each = tt
clean-filtered rules earlier f test (suc n) each =
    let next : suc n ≡ n + 1 = omega arith in
    let before = clean-filtered rules earlier f test n (λ i lt passes. each i (omega (arith, lt)) passes) in
    subst (λ (count : ℕ). AreClean rules earlier (map f (filter test (below count)))) (sym next)
    (subst (λ (xs : List ℕ). AreClean rules earlier (map f xs)) (sym (filtered-more test n))
    (at-end before (each n (omega arith))))
  where
    at-end : AreClean rules earlier (map f (filter test (below n))) → (test n ≡ true → Clean (rules (earlier ++ map f (filter test (below n))) (f n)))
        → AreClean rules earlier (map f (filter test (below n) ++ filter test (n ∷ [])))
    at-end before last = rw (map-append f (filter test (below n)) (filter test (n ∷ []))) (by (test n) refl)
      where
        by : (passes : Bool) → test n ≡ passes → AreClean rules earlier (map f (filter test (below n)) ++ map f (filter test (n ∷ [])))
        by true e = rw e (clean-more rules earlier (map f (filter test (below n))) (f n) before (last e))
        by false e = rw e (rw (append-nil (map f (filter test (below n)))) before)

-- the same of all numbers below the bound
filter-all : {X : Type 0} (xs : List X) → filter (λ x. true) xs ≡ xs
filter-all [] = refl
filter-all (x ∷ xs) = ap (λ rest. x ∷ rest) (filter-all xs)

pub clean-indexed : (rules : Rules) (earlier : List Values) (f : ℕ → Values) (count : ℕ)
    → ((i : ℕ) → i < count → Clean (rules (earlier ++ map f (below i)) (f i)))
    → AreClean rules earlier (map f (below count))
clean-indexed rules earlier f count each =
    subst (λ (xs : List ℕ). AreClean rules earlier (map f xs)) (filter-all (below count))
    (clean-filtered rules earlier f (λ i. true) count
    (λ i lt passes. subst (λ (xs : List ℕ). Clean (rules (earlier ++ map f xs) (f i))) (sym (filter-all (below i))) (each i lt)))

-- none of those before a number passes
pub none-before : {X : Type 0} (passes : X → Bool) (f : ℕ → X) (test : ℕ → Bool) (i : ℕ) → ((j : ℕ) → j < i → test j ≡ true → passes (f j) ≡ false)
    → list_any passes (map f (filter test (below i))) ≡ false
unfolding below
none-before passes f test zero none = refl
none-before passes f test (suc n) none =
    let next : suc n ≡ n + 1 = omega arith in
    let before = none-before passes f test n (λ j lt. none j (omega (arith, lt))) in
    ap (λ k. list_any passes (map f (filter test (below k)))) next
    ∙ ap (λ xs. list_any passes (map f xs)) (filtered-more test n)
    ∙ ap (list_any passes) (map-append f (filter test (below n)) (filter test (n ∷ [])))
    ∙ list_any-append passes (map f (filter test (below n))) (map f (filter test (n ∷ [])))
    ∙ rw before (last (test n) refl)
  where
    last : (b : Bool) → test n ≡ b → list_any passes (map f (filter test (n ∷ []))) ≡ false
    last true e = rw (e, none n (omega arith) e) refl
    last false e = rw e refl

pub none-below : {X : Type 0} (passes : X → Bool) (f : ℕ → X) (i : ℕ) → ((j : ℕ) → j < i → passes (f j) ≡ false)
    → list_any passes (map f (below i)) ≡ false
none-below passes f i none =
    ap (λ xs. list_any passes (map f xs)) (sym (filter-all (below i))) ∙ none-before passes f (λ j. true) i (λ j lt passed. none j lt)

pub map-map : {X Y Z : Type 0} (g : Y → Z) (f : X → Y) (xs : List X) → map g (map f xs) ≡ map (λ x. g (f x)) xs
map-map g f [] = refl
map-map g f (x ∷ xs) = ap (λ rest. g (f x) ∷ rest) (map-map g f xs)

-- two tests that don't both pass
pub both-true : (a b : Bool) → (a ≡ true → b ≡ true → ⊥) → (a && b) ≡ false
both-true true true h = absurd (h refl refl)
both-true true false h = refl
both-true false b h = refl
