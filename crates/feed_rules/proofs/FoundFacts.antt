-- What a file was found to be gives its faults.
use Rattle.std.proofs.Common.{◌≡◌, ℕ, Bool, true, false, not, ◌&&◌, List, Some, None, refl, sym, ◌∙◌, ap}
use Rattle.std.specs.Prelude.{if◌then◌else◌}
use Rattle.feed_tables.specs.Records.{header_of, table_records}
use Rattle.feed_tables.specs.Refusals.{first_refusal}
use Rattle.feed_tables.specs.declared.refusal.TableRefusal.{TableRefusal}
use Rattle.feed_tables.specs.declared.refusal.TableRefusal.TheVariants as refusal
use Rattle.flex_model.specs.declared.fault.Fault.{Fault}
use Rattle.flex_model.specs.declared.fault.InputFile.{InputFile}
use Rattle.flex_model.specs.declared.fault.RawFile.{RawFile}
use Rattle.feed_meaning.specs.Folder.{Contents, counts_as_present, fetched_faults, has_no_record, may_be_blank}
use Rattle.feed_meaning.specs.Tables.{accepted_faults, missing_columns, refusal_fault, schema_faults, table_faults}
use Rattle.feed_meaning.proofs.Blanks.{no_header_is_blank, other_refusal_is_not_blank}
use Rattle.feed_rules.specs.Found.{IsFound, found_faults, is_found, is_no_header, missing_fault, schema_of}
use Rattle.feed_rules.specs.declared.found.Found.{Found}
use Rattle.feed_rules.specs.declared.found.Found.TheVariants.{Absent, TooLarge, Refused, Read}

-- a refused table is blank just where it lacks its header
no_header_same : (records : List (List (List ℕ))) (r : TableRefusal) → first_refusal records ≡ Some r → has_no_record records ≡ is_no_header r
no_header_same records (refusal.NotUtf8 row) e = other_refusal_is_not_blank records (Some (refusal.NotUtf8 row)) e (λ h. cc)
no_header_same records refusal.NoHeader e = no_header_is_blank records e
no_header_same records refusal.DuplicateColumn e = other_refusal_is_not_blank records (Some refusal.DuplicateColumn) e (λ h. cc)
no_header_same records (refusal.RowTooLong row) e = other_refusal_is_not_blank records (Some (refusal.RowTooLong row)) e (λ h. cc)
no_header_same records refusal.TooManyRows e = other_refusal_is_not_blank records (Some refusal.TooManyRows) e (λ h. cc)
no_header_same records refusal.NoMemory e = other_refusal_is_not_blank records (Some refusal.NoMemory) e (λ h. cc)

accepted_is_not_blank : (records : List (List (List ℕ))) → first_refusal records ≡ None → has_no_record records ≡ false
accepted_is_not_blank records e = other_refusal_is_not_blank records None e (λ h. cc)

-- a table that may be blank is judged just where it isn't
judged : (may blank lacks : Bool) (here own missing : List Fault) → blank ≡ lacks → own ≡ here
    → (if may && lacks then missing else here) ≡ (if not (may && blank) then own else missing)
judged may blank lacks here own missing same is = ap (λ l. if may && l then missing else here) (sym same) ∙ by may blank
  where
    by : (m b : Bool) → (if m && b then missing else here) ≡ (if not (m && b) then own else missing)
    by true true = refl
    by true false = sym is
    by false b = sym is

unjudged : (may : Bool) (here missing : List Fault) → here ≡ (if may && false then missing else here)
unjudged true here missing = refl
unjudged false here missing = refl

module _ (file : InputFile) (raw : RawFile) where
  -- the file counts as present
  pub is_found-exact : (found : Found) → IsFound raw found → is_found file found ≡ counts_as_present file raw
  is_found-exact Absent e = sym (ap (counts_as_present file) e)
  is_found-exact TooLarge e = sym (ap (counts_as_present file) e)
  is_found-exact (Refused r) (bytes, e, refused) =
      ap (λ b. not (may_be_blank file && b)) (sym (no_header_same (table_records bytes) r refused)) ∙ sym (ap (counts_as_present file) e)
  is_found-exact (Read t) (bytes, e, accepted, same) =
      by (may_be_blank file) ∙ ap (λ b. not (may_be_blank file && b)) (sym (accepted_is_not_blank (table_records bytes) accepted)) ∙ sym (ap (counts_as_present file) e)
    where
      by : (m : Bool) → true ≡ not (m && false)
      by true = refl
      by false = refl

  -- the faults of the file by itself
  pub found_faults-exact : (contents : Contents) (is_needed : Bool) (found : Found)
      → ((bytes : List ℕ) → contents file bytes ≡ table_faults file (schema_of file) (table_records bytes)) → IsFound raw found
      → found_faults file is_needed found ≡ (if counts_as_present file raw then fetched_faults contents file raw else missing_fault file is_needed)
  found_faults-exact contents is_needed Absent says e = sym (ap (λ x. if counts_as_present file x then fetched_faults contents file x else missing_fault file is_needed) e)
  found_faults-exact contents is_needed TooLarge says e = sym (ap (λ x. if counts_as_present file x then fetched_faults contents file x else missing_fault file is_needed) e)
  found_faults-exact contents is_needed (Refused r) says (bytes, e, refused) =
      judged (may_be_blank file) (has_no_record (table_records bytes)) (is_no_header r) (refusal_fault file r) (contents file bytes) (missing_fault file is_needed)
      (no_header_same (table_records bytes) r refused)
      (says bytes ∙ ap (λ o. accepted_faults file (schema_of file) o (table_records bytes)) refused)
      ∙ sym (ap (λ x. if counts_as_present file x then fetched_faults contents file x else missing_fault file is_needed) e)
  found_faults-exact contents is_needed (Read t) says (bytes, e, accepted, same) =
      let here = schema_faults file (schema_of file) (missing_columns (schema_of file) (header_of t)) t in
      unjudged (may_be_blank file) here (missing_fault file is_needed)
      ∙ judged (may_be_blank file) (has_no_record (table_records bytes)) false here (contents file bytes) (missing_fault file is_needed)
      (accepted_is_not_blank (table_records bytes) accepted)
      (says bytes ∙ ap (λ o. accepted_faults file (schema_of file) o (table_records bytes)) accepted
      ∙ ap (λ x. schema_faults file (schema_of file) (missing_columns (schema_of file) (header_of x)) x) (sym same))
      ∙ sym (ap (λ x. if counts_as_present file x then fetched_faults contents file x else missing_fault file is_needed) e)
