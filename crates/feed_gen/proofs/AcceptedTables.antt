-- Tables of plain fields without faults.
use Rattle.std.proofs.Common.{◌≡◌, ◌<◌, ◌≤◌, ◌+◌, ◌∙◌, ℕ, Bool, true, false, List, [], ◌∷◌, None, arith, filter, length, map, refl}
use Rattle.std.specs.Prelude.{◌&&◌, codes, nat_le}
use Rattle.std.specs.List.{list_all}
use Rattle.std.specs.Str.{is_utf8}
use Rattle.std.proofs.lemmas.Bool.Decides.{nat_tests}
use Rattle.std.proofs.lemmas.List.{drop_all}
use Rattle.flex_model.specs.declared.fault.InputFile.{InputFile}
use Rattle.flex_model.specs.declared.limits.TheConstants.{MOST_RECORDS}
use Rattle.feed_tables.specs.Records.{table_records}
use Rattle.feed_tables.specs.Refusals.{first_refusal, first_refusal_from, has_duplicate, is_given}
use Rattle.feed_tables.proofs.TableFacts.{refusal-end, refusal-header, refusal-next, refusal-none}
use Rattle.feed_meaning.specs.Tables.{Schema, missing_columns, table_faults, values_of}
use Rattle.feed_gen.specs.Texts.{table_text}
use Rattle.feed_gen.proofs.CleanTables.{AreClean, clean-faults}
use Rattle.feed_gen.proofs.PlainFields.{and-left, and-right, is_plain, is_plain_record, plain-utf8}
use Rattle.feed_gen.proofs.PlainTables.{plain-fields, records_of_text}
use Prim.Native.String.{String}

-- a plain record that isn't longer than the header
abbrev pub is_fitting : ℕ → List (List ℕ) → Bool
is_fitting columns fields = is_plain_record fields && nat_le (length fields) columns

fields-utf8 : (fields : List (List ℕ)) → list_all is_plain fields ≡ true → list_all is_utf8 fields ≡ true
fields-utf8 [] plain = refl
fields-utf8 (x ∷ rest) plain =
    rw (plain-utf8 x (and-left _ _ plain), fields-utf8 rest (and-right (is_plain x) (list_all is_plain rest) plain)) refl

rows-unrefused : (columns index : ℕ) (rows : List (List (List ℕ))) → 0 < index → index + length rows ≤ MOST_RECORDS
    → list_all (is_fitting columns) rows ≡ true → first_refusal_from columns index rows ≡ None
rows-unrefused columns index [] low few fits = refusal-end columns index
rows-unrefused columns index (r ∷ rows) low few fits =
    let own = and-left (is_fitting columns r) (list_all (is_fitting columns) rows) fits in
    let short : length r ≤ columns = shorter r own in
    refusal-next columns index r rows
    (refusal-none columns index r low (omega (arith, few)) (fields-utf8 r (plain-fields r (and-left _ _ own)))
    (rw (drop_all columns r short) refl))
    ∙ rows-unrefused columns (index + 1) rows (omega arith) (omega (arith, few)) (and-right (is_fitting columns r) (list_all (is_fitting columns) rows) fits)
  where
    shorter : (fields : List (List ℕ)) → is_fitting columns fields ≡ true → length fields ≤ columns
    shorter fields e = le (length fields) columns (and-right (is_plain_record fields) (nat_le (length fields) columns) e)
      where
        le : (a b : ℕ) → nat_le a b ≡ true → a ≤ b
        le a b e = grind (arith, nat_tests)

-- the rows of a table are fitting, plain records
pub fitting-plain : (columns : ℕ) (rows : List (List (List ℕ))) → list_all (is_fitting columns) rows ≡ true → list_all is_plain_record rows ≡ true
fitting-plain columns [] fits = refl
fitting-plain columns (r ∷ rows) fits =
    let own : is_fitting columns r ≡ true = and-left (is_fitting columns r) (list_all (is_fitting columns) rows) fits in
    let plain : is_plain_record r ≡ true = and-left (is_plain_record r) (nat_le (length r) columns) own in
    rw (plain, fitting-plain columns rows (and-right (is_fitting columns r) (list_all (is_fitting columns) rows) fits)) refl

-- what the header of a table has
pub record IsHeader (schema : Schema) (columns : List String) : Type 0 where
  pub plain : is_plain_record (map codes columns) ≡ true
  pub once : has_duplicate (filter is_given (map codes columns)) ≡ false
  pub whole : missing_columns schema (map codes columns) ≡ []

-- the records of a table of fitting records
pub text-records : (columns : List String) (rows : List (List (List ℕ))) → is_plain_record (map codes columns) ≡ true
    → list_all (is_fitting (length (map codes columns))) rows ≡ true → table_records (table_text columns rows) ≡ map codes columns ∷ rows
text-records columns rows header fits =
    records_of_text columns rows (rw (header, fitting-plain (length (map codes columns)) rows fits) refl)

-- a table whose records are clean has no fault
pub no_faults_in : (file : InputFile) (schema : Schema) (columns : List String) (rows : List (List (List ℕ))) → IsHeader schema columns
    → list_all (is_fitting (length (map codes columns))) rows ≡ true → length rows < MOST_RECORDS
    → AreClean schema.rules [] (map (values_of (map codes columns)) rows)
    → table_faults file schema (table_records (table_text columns rows)) ≡ []
no_faults_in file schema columns rows header fits few clean =
    let names : List (List ℕ) = map codes columns in
    let unrefused : first_refusal (names ∷ rows) ≡ None =
    refusal-next (length names) 0 names rows (refusal-header (length names) names refl (fields-utf8 names (plain-fields names header.plain)) header.once)
    ∙ rows-unrefused (length names) 1 rows (omega arith) (omega (arith, few)) fits in
    rw (text-records columns rows header.plain fits, unrefused, header.whole)
    (clean-faults file schema.rules names rows clean)
