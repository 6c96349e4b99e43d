-- Where a fault list is empty, each record keeps each rule.
use Rattle.std.proofs.Common.{◌≡◌, ℕ, zero, suc, ◌+◌, ◌<◌, ◌≤◌, Bool, true, false, not, ◌&&◌, List, [], ◌∷◌, ◌++◌, All, Option, None, Some, map, take, length, get_or, refl, sym, ◌∙◌, ap, subst, arith}
use Rattle.std.specs.Prelude.{◌==◌, if◌then◌else◌, nat_lt, filter, drop}
use Rattle.std.specs.List.{filter_map, flat_map, list_all, list_any}
use Rattle.std.specs.Str.{is_utf8}
use Rattle.std.specs.Option.{option_or}
use Rattle.std.proofs.lemmas.Bool.{ltb-false}
use Rattle.std.proofs.lemmas.List.{append-nil, append_assoc, get_or-map, length-map, take-map}
use Rattle.std.proofs.lemmas.List.Elements.{All-cons, All-map, All-nil, All-weaker}
use Rattle.flex_model.specs.declared.fault.FaultCode.{FaultCode}
use Rattle.flex_model.specs.declared.fault.FaultCode.TheVariants as code
use Rattle.flex_model.specs.declared.fault.Fault.{Fault}
use Rattle.flex_model.specs.declared.fault.InputFile.{InputFile}
use Rattle.flex_model.specs.declared.fault.RawFile.{RawFile}
use Rattle.flex_model.specs.declared.fault.RawFile.TheVariants.{Absent, TooLarge, Bytes}
use Rattle.feed_tables.specs.Records.{header_of, numbered_from, rows_of, table_records}
use Rattle.feed_tables.specs.Refusals.{first_refusal, first_refusal_from, has_duplicate, is_given, refusal_of}
use Rattle.flex_model.specs.declared.limits.TheConstants.{MOST_RECORDS}
use Rattle.feed_tables.specs.declared.refusal.TableRefusal.{TableRefusal}
use Rattle.feed_tables.specs.declared.refusal.TableRefusal.TheVariants as refusal
use Rattle.feed_meaning.specs.Folder.{Contents, Folder, bytes_of, counts_as_present, entries, fetched_faults, file_faults, has_no_record, is_needed, may_be_blank}
use Rattle.feed_meaning.specs.Rules.{Rule, Rules, Values, rule}
use Rattle.feed_meaning.specs.Tables.{Entry, Schema, accepted_faults, entries_of, entry_of, fault, faults_at, missing_columns, record_faults, refusal_fault, schema_faults, table_faults, with_earlier_from}
use Rattle.feed_meaning.proofs.OnLiterals.{feed_on_literals}
use Prim.Native.String.{String}

-- none of the rules is broken
abbrev pub AreKept : List Rule → Type 0
AreKept rules = All (λ r. r ≡ None) rules

-- each record keeps the rules of its table, beside those before it
pub record ObeysRules (rules : Rules) (rs : List Values) : Type 0 where
  pub at : (i : ℕ) (d : Values) → i < length rs → AreKept (rules (take i rs) (get_or rs i d))

-- a rule that is kept isn't broken
pub is_kept : (code : FaultCode) (b : Bool) → rule code b ≡ None → b ≡ false
is_kept code true e = cc
is_kept code false e = refl

pub nil_parts : {X : Type 0} (xs ys : List X) → xs ++ ys ≡ [] → (xs ≡ []) × (ys ≡ [])
nil_parts [] ys e = (refl, e)
nil_parts (x ∷ xs) ys e = cc

pub nil_from_map : {X Y : Type 0} (f : X → Y) (xs : List X) → map f xs ≡ [] → xs ≡ []
nil_from_map f [] e = refl
nil_from_map f (x ∷ xs) e = cc

-- each part of an empty list is empty
pub parts_are_nil : {X Y : Type 0} (f : X → List Y) (xs : List X) → flat_map f xs ≡ [] → All (λ x. f x ≡ []) xs
parts_are_nil f [] e = All-nil (λ x. f x ≡ [])
parts_are_nil f (x ∷ xs) e =
    let both = nil_parts (f x) (flat_map f xs) e in
    All-cons (λ y. f y ≡ []) x xs both.0 (parts_are_nil f xs both.1)

none_broken : (rules : List Rule) → filter_map (λ r. r) rules ≡ [] → AreKept rules
none_broken [] e = All-nil (λ r. r ≡ None)
none_broken (None ∷ rules) e = All-cons (λ r. r ≡ None) None rules refl (none_broken rules e)
none_broken (Some c ∷ rules) e = cc

-- a row without a fault keeps its rules
pub row_keeps : (file : InputFile) (row : ℕ) (rules : List Rule) → faults_at file row rules ≡ [] → AreKept rules
row_keeps file row rules e = none_broken rules (nil_from_map (fault file row) (filter_map (λ r. r) rules) e)

-- records without a fault, after others
keeps_after : (file : InputFile) (rules : Rules) (first es : List Entry)
    → flat_map (λ p. faults_at file p.1.row (rules (map (λ e. e.values) p.0) p.1.values)) (with_earlier_from first es) ≡ []
    → (i : ℕ) (d : Entry) → i < length es → AreKept (rules (map (λ e. e.values) (first ++ take i es)) (get_or es i d).values)
unfolding with_earlier_from
keeps_after file rules first [] none i d low = absurd (omega arith)
keeps_after file rules first (e ∷ es) none zero d low =
    let here = nil_parts (faults_at file e.row (rules (map (λ x. x.values) first) e.values)) _ none in
    subst (λ xs. AreKept (rules (map (λ x. x.values) xs) e.values)) (sym (append-nil first)) (row_keeps file e.row _ here.0)
keeps_after file rules first (e ∷ es) none (suc i) d low =
    let here = nil_parts (faults_at file e.row (rules (map (λ x. x.values) first) e.values)) _ none in
    subst (λ xs. AreKept (rules (map (λ x. x.values) xs) (get_or es i d).values)) (append_assoc first (e ∷ []) (take i es))
    (keeps_after file rules (first ++ e ∷ []) es here.1 i d (omega arith))

-- records without a fault keep their rules
pub records_keep : (file : InputFile) (rules : Rules) (es : List Entry) → record_faults file rules es ≡ [] → ObeysRules rules (map (λ e. e.values) es)
records_keep file rules es none = record {
  at = λ i d low.
      let low' : i < length es = omega (arith, length-map es (λ e. e.values)) in
      let dummy : Entry = record { row = 0; values = d } in
      subst (λ xs. AreKept (rules xs (get_or (map (λ e. e.values) es) i d))) (sym (take-map (λ e. e.values) i es))
      (subst (λ x. AreKept (rules (map (λ e. e.values) (take i es)) x)) (sym (get_or-map (λ e. e.values) es i dummy d low'))
      (keeps_after file rules [] es none i dummy low'));
}

-- ---- tables

-- a record breaks none but four rules
refusal-cases : (b b' b'' b''' : Bool) (u v w x r : TableRefusal) → (u ≡ r → ⊥) → (v ≡ r → ⊥) → (w ≡ r → ⊥) → (x ≡ r → ⊥)
    → (if b then Some u else if b' then Some v else if b'' then Some w else if b''' then Some x else None) ≡ Some r → ⊥
refusal-cases true b' b'' b''' u v w x r hu hv hw hx e = hu (cc)
refusal-cases false true b'' b''' u v w x r hu hv hw hx e = hv (cc)
refusal-cases false false true b''' u v w x r hu hv hw hx e = hw (cc)
refusal-cases false false false true u v w x r hu hv hw hx e = hx (cc)
refusal-cases false false false false u v w x r hu hv hw hx e = cc

pub refusal-not : (columns place : ℕ) (fields : List (List ℕ)) (r : TableRefusal) → (refusal.TooManyRows ≡ r → ⊥) → (refusal.NotUtf8 (place + 1) ≡ r → ⊥)
    → (refusal.DuplicateColumn ≡ r → ⊥) → (refusal.RowTooLong (place + 1) ≡ r → ⊥) → refusal_of columns place fields ≡ Some r → ⊥
unfolding refusal_of
refusal-not columns place fields r hu hv hw hx e =
    refusal-cases (nat_lt MOST_RECORDS place) (not (list_all is_utf8 fields)) ((place == 0) && has_duplicate (filter is_given fields)) (list_any is_given (drop columns fields))
    refusal.TooManyRows (refusal.NotUtf8 (place + 1)) refusal.DuplicateColumn (refusal.RowTooLong (place + 1)) r hu hv hw hx e

-- none of them is want of memory
refusal-not_memory : (columns place : ℕ) (fields : List (List ℕ)) → refusal_of columns place fields ≡ Some refusal.NoMemory → ⊥
refusal-not_memory columns place fields e = refusal-not columns place fields refusal.NoMemory (λ h. cc) (λ h. cc) (λ h. cc) (λ h. cc) e

pub or-not : {X : Type 0} (a b : Option X) (x : X) → (a ≡ Some x → ⊥) → (b ≡ Some x → ⊥) → option_or a b ≡ Some x → ⊥
or-not None b x ha hb e = hb e
or-not (Some y) b x ha hb e = ha e

refusals-not_memory : (columns place : ℕ) (records : List (List (List ℕ))) → first_refusal_from columns place records ≡ Some refusal.NoMemory → ⊥
unfolding first_refusal_from
refusals-not_memory columns place [] e = cc
refusals-not_memory columns place (fields ∷ rest) e =
    or-not (refusal_of columns place fields) (first_refusal_from columns (place + 1) rest) refusal.NoMemory (refusal-not_memory columns place fields) (refusals-not_memory columns (place + 1) rest) e

first_refusal-not_memory : (records : List (List (List ℕ))) → first_refusal records ≡ Some refusal.NoMemory → ⊥
first_refusal-not_memory [] e = cc
first_refusal-not_memory (header ∷ rows) e = refusals-not_memory (length header) 0 (header ∷ rows) e

or-none : {X : Type 0} (a b : Option X) → option_or a b ≡ None → (a ≡ None) × (b ≡ None)
or-none None b e = (refl, e)
or-none (Some x) b e = cc

-- a record that isn't refused isn't past the most rows
first-test : {X : Type 0} (b : Bool) (x : X) (o : Option X) → (if b then Some x else o) ≡ None → b ≡ false
first-test true x o e = cc
first-test false x o e = refl

place-few : (columns place : ℕ) (fields : List (List ℕ)) → refusal_of columns place fields ≡ None → place ≤ MOST_RECORDS
unfolding refusal_of
place-few columns place fields e =
    let later : Option TableRefusal =
    if not (list_all is_utf8 fields) then Some (refusal.NotUtf8 (place + 1))
    else if (place == 0) && has_duplicate (filter is_given fields) then Some refusal.DuplicateColumn
    else if list_any is_given (drop columns fields) then Some (refusal.RowTooLong (place + 1))
    else None in
    ltb-false MOST_RECORDS place (first-test (nat_lt MOST_RECORDS place) refusal.TooManyRows later e)

places-few : (columns place : ℕ) (records : List (List (List ℕ))) → first_refusal_from columns place records ≡ None → place ≤ MOST_RECORDS + 1 → place + length records ≤ MOST_RECORDS + 1
unfolding first_refusal_from
places-few columns place [] e low = omega (arith, low)
places-few columns place (fields ∷ rest) e low =
    let parts = or-none (refusal_of columns place fields) (first_refusal_from columns (place + 1) rest) e in
    let here = place-few columns place fields parts.0 in
    let more = places-few columns (place + 1) rest parts.1 (omega (arith, here)) in
    omega (arith, more)

length-numbered : (n : ℕ) (rows : List (List (List ℕ))) → length (numbered_from n rows) ≡ length rows
unfolding numbered_from
length-numbered n [] = refl
length-numbered n (r ∷ rows) = ap suc (length-numbered (n + 1) rows)

-- a table that isn't refused has few records
pub few-entries : (records : List (List (List ℕ))) → first_refusal records ≡ None → length (entries_of records) ≤ MOST_RECORDS
few-entries [] e = cc
few-entries (header ∷ rows) e =
    let all = places-few (length header) 0 (header ∷ rows) e (omega arith) in
    let size = length-map (rows_of (header ∷ rows)) (entry_of header) in
    let count = length-numbered 2 rows in
    omega (arith, all, size, count)

-- ---- files

-- what an accepted table gives: each record keeps its rules, and there are few
pub record IsKeptTable (schema : Schema) (es : List Entry) : Type 0 where
  pub rules : ObeysRules schema.rules (map (λ e. e.values) es)
  pub few : length es ≤ MOST_RECORDS

no-entries : (schema : Schema) → IsKeptTable schema []
no-entries schema = record { rules = record { at = λ i d low. absurd (omega arith) }; few = omega arith }

without-bytes : (schema : Schema) → IsKeptTable schema (entries_of (table_records []))
unfolding feed_on_literals
without-bytes schema = no-entries schema

without-records : (schema : Schema) → IsKeptTable schema (entries_of [])
unfolding numbered_from
without-records schema = no-entries schema

by-columns : (file : InputFile) (schema : Schema) (missing : List String) (records : List (List (List ℕ))) → first_refusal records ≡ None
    → schema_faults file schema missing records ≡ [] → IsKeptTable schema (entries_of records)
by-columns file schema [] records accepted none = record { rules = records_keep file schema.rules (entries_of records) none; few = few-entries records accepted }
by-columns file schema (column ∷ more) records accepted none = cc

refused : (file : InputFile) (r : TableRefusal) → refusal_fault file r ≡ [] → r ≡ refusal.NoMemory
refused file (refusal.NotUtf8 row) e = cc
refused file refusal.NoHeader e = cc
refused file refusal.DuplicateColumn e = cc
refused file (refusal.RowTooLong row) e = cc
refused file refusal.TooManyRows e = cc
refused file refusal.NoMemory e = refl

by-refusal : (file : InputFile) (schema : Schema) (o : Option TableRefusal) (records : List (List (List ℕ))) → first_refusal records ≡ o
    → accepted_faults file schema o records ≡ [] → IsKeptTable schema (entries_of records)
by-refusal file schema None records is none = by-columns file schema (missing_columns schema (header_of records)) records is none
by-refusal file schema (Some r) records is none = absurd (first_refusal-not_memory records (is ∙ ap Some (refused file r none)))

-- a table without faults
pub table_keeps : (file : InputFile) (schema : Schema) (records : List (List (List ℕ))) → table_faults file schema records ≡ [] → IsKeptTable schema (entries_of records)
table_keeps file schema records none = by-refusal file schema (first_refusal records) records refl none

-- a file without faults: the records that its bytes have, if it is there
by-records : (contents : Contents) (file : InputFile) (schema : Schema) (bytes : List ℕ) (blank needed : Bool) (records : List (List (List ℕ)))
    → contents file bytes ≡ table_faults file schema records
    → (if not (blank && has_no_record records) then contents file bytes else if needed then fault file 0 code.MissingFile ∷ [] else []) ≡ []
    → IsKeptTable schema (entries_of records)
by-records contents file schema bytes blank needed [] says none = without-records schema
by-records contents file schema bytes false needed (header ∷ rows) says none = table_keeps file schema (header ∷ rows) (sym says ∙ none)
by-records contents file schema bytes true needed (header ∷ rows) says none = table_keeps file schema (header ∷ rows) (sym says ∙ none)

by-raw : (contents : Contents) (file : InputFile) (schema : Schema) (needed : Bool) (raw : RawFile)
    → ((bytes : List ℕ) → contents file bytes ≡ table_faults file schema (table_records bytes))
    → (if counts_as_present file raw then fetched_faults contents file raw else if needed then fault file 0 code.MissingFile ∷ [] else []) ≡ []
    → IsKeptTable schema (entries_of (table_records (bytes_of raw)))
by-raw contents file schema needed Absent says none = without-bytes schema
by-raw contents file schema needed TooLarge says none = cc
by-raw contents file schema needed (Bytes bytes) says none = by-records contents file schema bytes (may_be_blank file) needed (table_records bytes) (says bytes) none

pub file_keeps : (contents : Contents) (folder : Folder) (file : InputFile) (schema : Schema)
    → ((bytes : List ℕ) → contents file bytes ≡ table_faults file schema (table_records bytes))
    → file_faults contents folder file ≡ [] → IsKeptTable schema (entries folder file)
file_keeps contents folder file schema says none = by-raw contents file schema (is_needed folder file) (folder file) says none

-- records without a fault beside other tables keep those rules
pub links_kept : (file : InputFile) (links : Values → List Rule) (es : List Entry) → flat_map (λ e. faults_at file e.row (links e.values)) es ≡ []
    → All (λ r. AreKept (links r)) (map (λ e. e.values) es)
links_kept file links es none =
    let at : Entry → List Fault = λ e. faults_at file e.row (links e.values) in
    All-map (λ r. AreKept (links r)) (λ e. e.values) es
    (All-weaker (λ e. at e ≡ []) (λ e. AreKept (links e.values)) (λ e h. row_keeps file e.row (links e.values) h) es (parts_are_nil at es none))
