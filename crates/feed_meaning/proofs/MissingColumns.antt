-- The columns that a table lacks, by the names that code asks for.
use Rattle.std.proofs.Common.{◌≡◌, ℕ, ◌+◌, ◌<◌, Bool, true, false, not, cond, List, [], ◌∷◌, ◌++◌, map, take, length, get_or, refl, sym, ◌∙◌, ap}
use Rattle.std.specs.Prelude.{codes, filter, is_some, position}
use Rattle.std.specs.Borrow.{Bor}
use Rattle.std.specs.Str.{bytes_eq}
use Rattle.std.proofs.lemmas.List.{append-nil, map-append}
use Rattle.std.proofs.lemmas.List.Elements.{filter_more}
use Rattle.flex_model.specs.declared.fault.Fault.{Fault}
use Rattle.flex_model.specs.declared.fault.InputFile.{InputFile}
use Rattle.flex_model.specs.declared.fault.FaultCode.TheVariants as code
use Rattle.feed_meaning.specs.Tables.{Schema, fault, missing_columns, missing_faults}

-- a header lacks a name
abbrev pub lacks : List (List ℕ) → Bor (List ℕ) → Bool
lacks header name = not (is_some (position (bytes_eq name.now) header))

-- the faults of the names that a header lacks
abbrev pub faults_of_names : InputFile → List (List ℕ) → List (Bor (List ℕ)) → List Fault
faults_of_names file header names = map (λ name. fault file 1 code.MissingColumn) (filter (lacks header) names)

-- one more name that is there
pub has_more : (file : InputFile) (header : List (List ℕ)) (names : List (Bor (List ℕ))) (i : ℕ) (d : Bor (List ℕ)) → i < length names → lacks header (get_or names i d) ≡ false
    → faults_of_names file header (take (i + 1) names) ≡ faults_of_names file header (take i names)
has_more file header names i d low there =
    let of : List (Bor (List ℕ)) → List Fault = map (λ name. fault file 1 code.MissingColumn) in
    ap of (filter_more (lacks header) names i d low)
    ∙ ap (λ b. of (filter (lacks header) (take i names) ++ cond b (get_or names i d ∷ []) [])) there
    ∙ ap of (append-nil _)

-- one more name that isn't there
pub lacks_more : (file : InputFile) (header : List (List ℕ)) (names : List (Bor (List ℕ))) (i : ℕ) (d : Bor (List ℕ)) → i < length names → lacks header (get_or names i d) ≡ true
    → faults_of_names file header (take (i + 1) names) ≡ faults_of_names file header (take i names) ++ fault file 1 code.MissingColumn ∷ []
lacks_more file header names i d low absent =
    let of : List (Bor (List ℕ)) → List Fault = map (λ name. fault file 1 code.MissingColumn) in
    ap of (filter_more (lacks header) names i d low)
    ∙ ap (λ b. of (filter (lacks header) (take i names) ++ cond b (get_or names i d ∷ []) [])) absent
    ∙ map-append (λ name. fault file 1 code.MissingColumn) (filter (lacks header) (take i names)) (get_or names i d ∷ [])

-- as many items pass as images do
same-cond : {Y : Type 0} {A B : Type 0} (y : Y) (b : Bool) (u : A) (us : List A) (v : B) (vs : List B) → map (λ x. y) us ≡ map (λ x. y) vs
    → map (λ x. y) (cond b (u ∷ us) us) ≡ map (λ x. y) (cond b (v ∷ vs) vs)
same-cond y true u us v vs e = ap (λ ys. y ∷ ys) e
same-cond y false u us v vs e = e

same-count : {A B C Y : Type 0} (y : Y) (f : A → C) (g : B → C) (p : C → Bool) (us : List A) (vs : List B) → map f us ≡ map g vs
    → map (λ x. y) (filter (λ x. p (f x)) us) ≡ map (λ x. y) (filter (λ x. p (g x)) vs)
same-count {C = C} y f g p us vs e = to-images f us ∙ ap (λ cs. map (λ x. y) (filter p cs)) e ∙ sym (to-images g vs)
  where
    to-images : {X : Type 0} (h : X → C) (xs : List X) → map (λ x. y) (filter (λ x. p (h x)) xs) ≡ map (λ x. y) (filter p (map h xs))
    to-images h [] = refl
    to-images h (x ∷ xs) = same-cond y (p (h x)) x (filter (λ z. p (h z)) xs) (h x) (filter p (map h xs)) (to-images h xs)

-- the names are those of the schema
pub names_of_schema : (file : InputFile) (header : List (List ℕ)) (names : List (Bor (List ℕ))) (schema : Schema) → map (λ name. name.now) names ≡ map codes schema.needed
    → faults_of_names file header names ≡ missing_faults file (missing_columns schema header)
names_of_schema file header names schema same =
    same-count (fault file 1 code.MissingColumn) (λ name. name.now) codes (λ name. not (is_some (position (bytes_eq name) header))) names schema.needed same
