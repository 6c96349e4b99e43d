-- The definitions at small tables.
use Rattle.std.proofs.Common.{◌≡◌, ◌++◌, Some, None, [], ◌∷◌, refl}
use Rattle.std.specs.Prelude.{codes}
use Rattle.feed_tables.specs.Records.{rows_of, table_records}
use Rattle.feed_tables.specs.Refusals.{first_refusal}
use Rattle.feed_tables.specs.declared.refusal.TableRefusal.TheVariants as refusal
use Rattle.feed_tables.proofs.OnLiterals.{tables_on_literals}

-- quoted fields, doubled quotes, a comma and a line feed inside quotes, CRLF, an empty line, blanks at the ends, and no last line end
records_are_trimmed : table_records (codes "id, name\t\r\n\r\n M ,\" a\"\"b,\nc \"\nN")
    ≡ (codes "id" ∷ codes "name" ∷ []) ∷ (codes "M" ∷ codes "a\"b,\nc" ∷ []) ∷ (codes "N" ∷ []) ∷ []
unfolding tables_on_literals
records_are_trimmed = refl

rows_are_counted : rows_of (table_records (codes "id\nM\n\nN\n")) ≡ record { number = 2; fields = codes "M" ∷ [] } ∷ record { number = 3; fields = codes "N" ∷ [] } ∷ []
unfolding tables_on_literals
rows_are_counted = refl

-- of three byte order marks the last one stays
third_mark_stays : table_records (0xEF ∷ 0xBB ∷ 0xBF ∷ 0xEF ∷ 0xBB ∷ 0xBF ∷ 0xEF ∷ 0xBB ∷ 0xBF ∷ codes "id") ≡ ((0xEF ∷ 0xBB ∷ 0xBF ∷ codes "id") ∷ []) ∷ []
unfolding tables_on_literals
third_mark_stays = refl

no_bytes : first_refusal (table_records []) ≡ Some refusal.NoHeader
unfolding tables_on_literals
no_bytes = refl

name_twice : first_refusal (table_records (codes "a,b, a")) ≡ Some refusal.DuplicateColumn
unfolding tables_on_literals
name_twice = refl

empty_names : first_refusal (table_records (codes "a,,\nx,y,z\nx")) ≡ None
unfolding tables_on_literals
empty_names = refl

further_empty_field : first_refusal (table_records (codes "a\nx, \t")) ≡ None
unfolding tables_on_literals
further_empty_field = refl

further_field : first_refusal (table_records (codes "a\nx\nx,y")) ≡ Some (refusal.RowTooLong 3)
unfolding tables_on_literals
further_field = refl

not_utf8 : first_refusal (table_records (codes "a\n" ++ 0xFF ∷ codes "\nx,y")) ≡ Some (refusal.NotUtf8 2)
unfolding tables_on_literals
not_utf8 = refl

-- a field that isn't UTF-8 comes before a name that stands twice
not_utf8_first : first_refusal (table_records (codes "a,a," ++ 0xFF ∷ [])) ≡ Some (refusal.NotUtf8 1)
unfolding tables_on_literals
not_utf8_first = refl
