-- The texts of records, and the ids of a column.
use Rattle.std.proofs.Common.{◌≡◌, ℕ, fold, List, [], ◌∷◌, ◌++◌, Option, map, sym, ◌∙◌, ap}
use Rattle.std.specs.Prelude.{codes, position}
use Rattle.std.specs.Option.{option_map_or}
use Rattle.std.specs.Str.{bytes_eq}
use Rattle.std.proofs.lemmas.List.{map-append}
use Rattle.std.proofs.lemmas.Simd.{map-map}
use Rattle.flex_model.specs.SoundTimes.{AreIds}
use Rattle.feed_tables.specs.Fields.{value_at}
use Rattle.feed_tables.specs.Records.{RowFields, header_of, rows_of}
use Rattle.feed_meaning.specs.Noted.{noted}
use Rattle.feed_meaning.specs.Rules.{Values}
use Rattle.feed_meaning.specs.Tables.{value_named, values_of}
use Rattle.feed_meaning.proofs.NamedLists.{noted_of_ids}
use Rattle.feed_load.specs.TableValues.{values_in, values_under}
use Prim.Native.String.{String}

-- the text that was read of a record in a column
pub text_is : (header fields : List (List ℕ)) (name : String) (column : Option ℕ) (text : List ℕ)
    → text ≡ option_map_or (value_at fields) column [] → column ≡ position (bytes_eq (codes name)) header → text ≡ values_of header fields name
text_is header fields name column text read found = read ∙ ap (λ o. option_map_or (value_at fields) o []) found

-- one more record goes last
pub values_more : (header : List (List ℕ)) (seen : List RowFields) (row : RowFields) → values_under header (seen ++ row ∷ []) ≡ values_under header seen ++ values_of header row.fields ∷ []
values_more header seen row = map-append (λ (x : RowFields). values_of header x.fields) seen (row ∷ [])

-- the texts of a column
pub texts_are : (records : List (List (List ℕ))) (name : String)
    → map (λ row. value_named (header_of records) row.fields (codes name)) (rows_of records) ≡ map (λ r. r name) (values_in records)
texts_are records name = sym (map-map (λ (r : Values). r name) (λ (row : RowFields). values_of (header_of records) row.fields) (rows_of records))

-- the ids that were noted of a column of distinct ids are its texts
pub ids_are : (records : List (List (List ℕ))) (name : String) (ids : List (List ℕ))
    → ids ≡ fold noted [] (map (λ row. value_named (header_of records) row.fields (codes name)) (rows_of records))
    → AreIds (map (λ r. r name) (values_in records)) → ids ≡ map (λ r. r name) (values_in records)
ids_are records name ids found distinct = found ∙ ap (fold noted []) (texts_are records name) ∙ noted_of_ids (map (λ r. r name) (values_in records)) distinct
