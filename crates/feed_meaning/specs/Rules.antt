-- The words that the rules of a table are written in, this project's own.
use Rattle.std.specs.Prelude.{ℕ, Bool, false, not, ◌&&◌, List, [], ◌∷◌, count_by, Option, Some, None, is_none, codes}
use Rattle.std.specs.List.{list_any}
use Rattle.std.specs.Option.{option_or}
use Rattle.std.specs.Str.{bytes_eq}
use Rattle.feed_tables.specs.Refusals.{is_given}
use Rattle.flex_model.specs.declared.fault.FaultCode.{FaultCode}
use Rattle.field_text.specs.Grammars.{id, some_if}
use Prim.Native.String.{String}

-- a record, by the values of its columns: a column that its table lacks is empty
abbrev pub Values : Type 0
Values = String → List ℕ

-- a rule at a record: the fault that it gives there, where it is broken
abbrev pub Rule : Type 0
Rule = Option FaultCode

-- the rules of a table in their order, at a record and those before it
abbrev pub Rules : Type 0
Rules = List Values → Values → List Rule

abbrev pub rule : FaultCode → Bool → Rule
rule code is_broken = some_if is_broken code

-- of several rules only the first that is broken
abbrev pub first_of : List Rule → Rule
first_of [] = None
first_of (first ∷ others) = option_or first (first_of others)

abbrev pub is_empty : List ℕ → Bool
is_empty text = not (is_given text)

-- a text that isn't of the kind; an empty one isn't either
abbrev pub is_no : {X : Type 0} → (List ℕ → Option X) → List ℕ → Bool
is_no kind text = is_none (kind text)

-- a text that is given and isn't of the kind
abbrev pub is_bad : {X : Type 0} → (List ℕ → Option X) → List ℕ → Bool
is_bad kind text = is_given text && is_no kind text

abbrev pub is_text : List ℕ → String → Bool
is_text text word = bytes_eq text (codes word)

abbrev pub given_count : List (List ℕ) → ℕ
given_count texts = count_by is_given texts

-- both values are there, and stand in this relation
abbrev pub stand : {X : Type 0} → (X → X → Bool) → Option X → Option X → Bool
stand test None b = false
stand test (Some x) None = false
stand test (Some x) (Some y) = test x y

abbrev pub both : {X Y : Type 0} → Option X → Option Y → Option (X × Y)
both None b = None
both (Some x) None = None
both (Some x) (Some y) = Some (x, y)

abbrev pub are_same_pairs : {X Y : Type 0} → (X → X → Bool) → (Y → Y → Bool) → X × Y → X × Y → Bool
are_same_pairs same same' p q = same p.0 q.0 && same' p.1 q.1

-- an earlier record has the same key; only a key whose parts are all given and not bad counts
abbrev pub repeats : {K : Type 0} → (K → K → Bool) → (Values → Option K) → List Values → Values
    → Bool
repeats same key earlier r = list_any (λ e. stand same (key r) (key e)) earlier

abbrev pub repeats_id : String → List Values → Values → Bool
repeats_id column earlier r = repeats bytes_eq (λ s. id (s column)) earlier r

abbrev pub repeats_ids : String → String → List Values → Values → Bool
repeats_ids first second earlier r =
    repeats (are_same_pairs bytes_eq bytes_eq) (λ s. both (id (s first)) (id (s second))) earlier r
