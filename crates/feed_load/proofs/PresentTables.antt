-- The records of a table that is there.
use Rattle.std.proofs.Common.{◌≡◌, ℕ, List, map}
use Rattle.std.proofs.lemmas.Simd.{map-map}
use Rattle.feed_tables.specs.Records.{header_of, rows_of}
use Rattle.feed_meaning.specs.Tables.{Entry, entries_of, entry_of}
use Rattle.feed_load.specs.TableValues.{values_in}

pub records_are : (records : List (List (List ℕ))) → map (λ e. e.values) (entries_of records) ≡ values_in records
records_are records = map-map (λ (e : Entry). e.values) (entry_of (header_of records)) (rows_of records)
