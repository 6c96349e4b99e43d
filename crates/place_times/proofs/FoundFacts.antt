-- What a table was found to be gives its faults and its records.
use Rattle.std.proofs.Common.{◌≡◌, ℕ, Bool, true, List, [], ◌∷◌, Some, refl, ◌∙◌, ap}
use Rattle.std.specs.Prelude.{if◌then◌else◌}
use Rattle.feed_tables.specs.Records.{numbered_from, table_records}
use Rattle.feed_tables.specs.Refusals.{first_refusal}
use Rattle.feed_tables.specs.declared.refusal.TableRefusal.TheVariants as refusal
use Rattle.flex_model.specs.declared.fault.Fault.{Fault}
use Rattle.flex_model.specs.declared.fault.InputFile.{InputFile}
use Rattle.flex_model.specs.declared.fault.RawFile.{RawFile}
use Rattle.flex_model.specs.declared.fault.RawFile.TheVariants as raw_file
use Rattle.feed_meaning.specs.Folder.{has_no_record}
use Rattle.feed_meaning.specs.Tables.{Schema, entries_of, table_faults}
use Rattle.feed_meaning.proofs.Blanks.{no_header_is_blank}
use Rattle.feed_meaning.proofs.OnLiterals.{feed_on_literals}
use Rattle.place_times.specs.Found.{IsFound, entries_in, found_faults, own_faults, schema_of}
use Rattle.place_times.specs.declared.found.Found.{Found}
use Rattle.place_times.specs.declared.found.Found.TheVariants.{Nothing, Faulty, Read}

no_bytes : entries_of (table_records []) ≡ []
unfolding feed_on_literals
no_bytes = refl

no_records : entries_of [] ≡ []
unfolding numbered_from
no_records = refl

blank : (records : List (List (List ℕ))) → has_no_record records ≡ true → entries_of records ≡ []
blank [] e = no_records
blank (header ∷ rows) e = cc

module _ (file : InputFile) (raw : RawFile) where
  pub absent_file : raw ≡ raw_file.Absent → IsFound file raw Nothing
  absent_file e = (λ schema. ap (own_faults file schema) e, ap entries_in e ∙ no_bytes)

  module _ (bytes : List ℕ) (e : raw ≡ raw_file.Bytes bytes) where
    abbrev records : List (List (List ℕ))
    records = table_records bytes

    abbrev judged : Schema → Bool → List Fault
    judged schema b = if b then [] else table_faults file schema records

    pub headless_file : first_refusal records ≡ Some refusal.NoHeader → IsFound file raw Nothing
    headless_file h =
        let none = no_header_is_blank records h in
        (λ schema. ap (own_faults file schema) e ∙ ap (judged schema) none, ap entries_in e ∙ blank records none)

  -- the faults of the file by itself
  pub found_exact : (found : Found) → IsFound file raw found → own_faults file (schema_of file) raw ≡ found_faults file found
  found_exact Nothing is = is.0 (schema_of file)
  found_exact (Faulty f) is = is (schema_of file)
  found_exact (Read t) is = is.0 (schema_of file)
