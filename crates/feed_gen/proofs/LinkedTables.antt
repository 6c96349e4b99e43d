-- Tables whose records break no rule beside the other files.
use Rattle.std.proofs.Common.{◌≡◌, ◌<◌, ◌+◌, ℕ, zero, suc, Bool, true, false, List, [], ◌∷◌, ◌++◌, None, Some, arith, map, refl, subst, sym}
use Rattle.std.specs.Prelude.{◌||◌, filter, is_none, not}
use Rattle.std.specs.List.{find, flat_map, list_all}
use Rattle.std.specs.Option.{option_map_or}
use Rattle.std.proofs.lemmas.List.{map-append}
use Rattle.flex_model.specs.declared.fault.InputFile.{InputFile}
use Rattle.feed_meaning.specs.Rules.{Rule, Values}
use Rattle.feed_meaning.specs.Tables.{Entry, faults_at}
use Rattle.feed_gen.specs.Texts.{below}
use Rattle.feed_gen.proofs.CleanTables.{Clean}
use Rattle.feed_gen.proofs.LineFacts.{below-more}
use Rattle.feed_gen.proofs.PlainFields.{and-left, and-right}

-- each record breaks none of its rules
abbrev pub AreLinked : (Values → List Rule) → List Values → Type 0
AreLinked links [] = Unit {0}
AreLinked links (r ∷ rest) = Clean (links r) × AreLinked links rest

-- linked records give no fault
pub links-none : (file : InputFile) (links : Values → List Rule) (entries : List Entry) → AreLinked links (map (λ e. e.values) entries)
    → flat_map (λ e. faults_at file e.row (links e.values)) entries ≡ []
links-none file links [] linked = refl
links-none file links (e ∷ rest) linked = rw linked.0 (links-none file links rest linked.1)

pub linked-append : (links : Values → List Rule) (first second : List Values) → AreLinked links first → AreLinked links second
    → AreLinked links (first ++ second)
linked-append links [] second linked more = more
linked-append links (r ∷ first) second linked more = (linked.0, linked-append links first second linked.1 more)

pub linked-indexed : (links : Values → List Rule) (f : ℕ → Values) (count : ℕ) → ((i : ℕ) → i < count → Clean (links (f i)))
    → AreLinked links (map f (below count))
unfolding below
linked-indexed links f zero each = tt
linked-indexed links f (suc n) each =
    let next : suc n ≡ n + 1 = omega arith in
    subst (λ (count : ℕ). AreLinked links (map f (below count))) (sym next)
    (subst (λ (xs : List ℕ). AreLinked links (map f xs)) (sym (below-more n))
    (subst (AreLinked links) (sym (map-append f (below n) (n ∷ [])))
    (linked-append links (map f (below n)) (f n ∷ [])
    (linked-indexed links f n (λ i lt. each i (omega (arith, lt)))) (each n (omega arith), tt))))

-- the same as a test
abbrev pub is_clean : List Rule → Bool
is_clean rules = list_all is_none rules

clean-tested : (rules : List Rule) → is_clean rules ≡ true → Clean rules
clean-tested [] e = refl
clean-tested (None ∷ rules) e = clean-tested rules e
clean-tested (Some code ∷ rules) e = cc e

pub linked-tested : (links : Values → List Rule) (rows : List Values) → list_all (λ r. is_clean (links r)) rows ≡ true → AreLinked links rows
linked-tested links [] e = tt
linked-tested links (r ∷ rows) e =
    (clean-tested (links r) (and-left _ _ e), linked-tested links rows (and-right (is_clean (links r)) (list_all (λ r. is_clean (links r)) rows) e))

-- no rule links the records
pub unlinked : (rows : List Values) → AreLinked (λ r. []) rows
unlinked [] = tt
unlinked (r ∷ rows) = (refl, unlinked rows)

-- what is found passes whatever all pass that could be found
pub found-passes : {X : Type 0} (wanted passes : X → Bool) (xs : List X) → list_all (λ x. not (wanted x) || passes x) xs ≡ true
    → option_map_or passes (find wanted xs) true ≡ true
found-passes wanted passes [] e = refl
found-passes wanted passes (x ∷ xs) e =
    by (wanted x) refl (found-passes wanted passes xs (and-right (not (wanted x) || passes x) (list_all (λ x. not (wanted x) || passes x) xs) e))
  where
    first : (not (wanted x) || passes x) ≡ true
    first = and-left (not (wanted x) || passes x) (list_all (λ x. not (wanted x) || passes x) xs) e

    by : (b : Bool) → wanted x ≡ b → option_map_or passes (find wanted xs) true ≡ true → option_map_or passes (find wanted (x ∷ xs)) true ≡ true
    by true is rest = rw is (rw is at first)
    by false is rest = rw is rest

-- all that pass a test pass whatever all pass
pub kept-pass : {X : Type 0} (passes kept : X → Bool) (xs : List X) → list_all passes xs ≡ true → list_all passes (filter kept xs) ≡ true
kept-pass passes kept [] e = refl
kept-pass passes kept (x ∷ xs) e =
    by (kept x) refl (kept-pass passes kept xs (and-right (passes x) (list_all passes xs) e))
  where
    first : passes x ≡ true
    first = and-left (passes x) (list_all passes xs) e

    by : (b : Bool) → kept x ≡ b → list_all passes (filter kept xs) ≡ true → list_all passes (filter kept (x ∷ xs)) ≡ true
    by true is rest = rw (is, first, rest) refl
    by false is rest = rw (is, rest) refl

-- some of the records
pub linked-kept : (links : Values → List Rule) (f : ℕ → Values) (kept : ℕ → Bool) (xs : List ℕ) → AreLinked links (map f xs) → AreLinked links (map f (filter kept xs))
linked-kept links f kept [] linked = tt
linked-kept links f kept (x ∷ xs) linked = by (kept x) refl (linked-kept links f kept xs linked.1)
  where
    first : Clean (links (f x))
    first = linked.0

    by : (b : Bool) → kept x ≡ b → AreLinked links (map f (filter kept xs)) → AreLinked links (map f (filter kept (x ∷ xs)))
    by true is rest = rw is (first, rest)
    by false is rest = rw is rest
