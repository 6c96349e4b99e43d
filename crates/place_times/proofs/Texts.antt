-- The texts of records.
use Rattle.std.proofs.Common.{◌≡◌, ℕ, List, [], Option, ◌∙◌, ap}
use Rattle.std.specs.Prelude.{codes, position}
use Rattle.std.specs.Option.{option_map_or}
use Rattle.std.specs.Str.{bytes_eq}
use Rattle.feed_tables.specs.Fields.{value_at}
use Rattle.feed_meaning.specs.Tables.{values_of}
use Prim.Native.String.{String}

-- the text that was read of a record in a column
pub text_is : (header fields : List (List ℕ)) (name : String) (column : Option ℕ) (text : List ℕ)
    → text ≡ option_map_or (value_at fields) column [] → column ≡ position (bytes_eq (codes name)) header → text ≡ values_of header fields name
text_is header fields name column text read found = read ∙ ap (λ o. option_map_or (value_at fields) o []) found
