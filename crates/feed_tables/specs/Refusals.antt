-- The first rule that a table's records break.
use Rattle.std.specs.Prelude.{ℕ, ◌+◌, ◌==◌, ◌&&◌, ◌||◌, not, nat_lt, Bool, true, false}
use Rattle.std.specs.Prelude.{if◌then◌else◌, Option, Some, None}
use Rattle.std.specs.Prelude.{List, [], ◌∷◌, drop, filter, length}
use Rattle.std.specs.List.{list_all, list_any}
use Rattle.std.specs.Option.{option_or}
use Rattle.std.specs.Str.{bytes_eq, is_utf8}
use Rattle.feed_tables.specs.Fields.{all_trimmed}
use Rattle.flex_model.specs.declared.limits.TheConstants.{MOST_RECORDS}
use Rattle.feed_tables.specs.declared.refusal.TableRefusal.{TableRefusal}
use Rattle.feed_tables.specs.declared.refusal.TableRefusal.TheVariants as refusal

-- whether a field isn't empty
abbrev pub is_given : List ℕ → Bool
is_given [] = false
is_given (b ∷ rest) = true

-- whether some text stands in a list twice
unfoldable pub has_duplicate : List (List ℕ) → Bool
has_duplicate [] = false
has_duplicate (x ∷ xs) = list_any (bytes_eq x) xs || has_duplicate xs

-- the first rule that a record breaks, at its index from 0 for the header, where the header has so
-- many columns. That a file is UTF-8 is asked by the GTFS Schedule reference; the limit, the other
-- rules and their order are this project's own
unfoldable pub refusal_of : ℕ → ℕ → List (List ℕ) → Option TableRefusal
refusal_of columns index fields =
    if nat_lt MOST_RECORDS index then Some refusal.TooManyRows
    else if not (list_all is_utf8 fields) then Some (refusal.NotUtf8 (index + 1))
    else if (index == 0) && has_duplicate (filter is_given fields) then Some refusal.DuplicateColumn
    else if list_any is_given (drop columns fields) then Some (refusal.RowTooLong (index + 1))
    else None

-- the same of a header, by its fields as they stand in the file
abbrev pub header_refusal : List (List ℕ) → Option TableRefusal
header_refusal fields = refusal_of (length fields) 0 (all_trimmed fields)

-- the first rule that some of these records breaks, the first of which stands at this index
unfoldable pub first_refusal_from : ℕ → ℕ → List (List (List ℕ)) → Option TableRefusal
first_refusal_from columns index [] = None
first_refusal_from columns index (fields ∷ rest) =
    option_or (refusal_of columns index fields) (first_refusal_from columns (index + 1) rest)

-- why a table with these records is refused, if it is
abbrev pub first_refusal : List (List (List ℕ)) → Option TableRefusal
first_refusal [] = Some refusal.NoHeader
first_refusal (header ∷ rows) = first_refusal_from (length header) 0 (header ∷ rows)
