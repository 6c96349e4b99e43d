-- A table of plain fields has just these fields as its records.
use Rattle.std.proofs.Common.{◌≡◌, ◌<◌, ◌≤◌, ◌+◌, ◌-◌, ◌∙◌, ℕ, zero, suc, true, false, List, [], ◌∷◌, ◌++◌, Some, arith, ap, length, length-append, map, refl, sym}
use Rattle.std.specs.Prelude.{◌==◌, ◌&&◌, codes}
use Rattle.std.specs.List.{join_with_byte, list_all}
use Rattle.std.proofs.lemmas.Bool.{ne_eqb}
use Rattle.std.proofs.lemmas.List.{append-nil}
use Rattle.csv.specs.Machine.{next_record}
use Rattle.csv.specs.Reading.{default_config, records, records_from, strip_bom}
use Rattle.csv.specs.Writing.{default_writer, fields_text, is_blank, read_back, row_text}
use Rattle.csv.specs.declared.parser.State.TheVariants as st
use Rattle.csv.proofs.RoundTrip.{read-write}
use Rattle.feed_tables.specs.Fields.{all_trimmed}
use Rattle.feed_tables.specs.Records.{table_records}
use Rattle.feed_tables.specs.Refusals.{is_given}
use Rattle.feed_gen.specs.Texts.{lines, record_line, table_text}
use Rattle.feed_gen.proofs.PlainFields.{and-left, and-right, is_plain, is_plain_record, plain-above, plain-trimmed, plain-unquoted}
use Prim.Native.String.{String}

-- the fields after the first one
rest-text : (x : List ℕ) (rest : List (List ℕ)) → list_all is_plain rest ≡ true → join_with_byte 44 (x ∷ rest) ≡ x ++ fields_text default_writer rest
unfolding fields_text
rest-text x [] plain = sym (append-nil x)
rest-text x (y ∷ rest) plain =
    let unquoted = plain-unquoted y (and-left _ _ plain) in
    rw unquoted (ap (λ text. x ++ 44 ∷ text) (rest-text y rest (and-right (is_plain y) (list_all is_plain rest) plain)))

-- a plain record is written by csv as its line
row : (fields : List (List ℕ)) → is_plain_record fields ≡ true → row_text default_writer fields ≡ record_line fields
unfolding is_blank fields_text
row [] plain = cc plain
row ([] ∷ rest) plain = cc plain
row ((b ∷ x) ∷ []) plain =
    let full : (length (b ∷ x) == 0) ≡ false = ne_eqb (length (b ∷ x)) 0 (λ e. omega (arith, e)) in
    rw (plain-unquoted (b ∷ x) (and-left (is_plain (b ∷ x)) true plain), full)
    (ap (λ text. text ++ codes "\n") (append-nil (b ∷ x)))
row ((b ∷ x) ∷ y ∷ rest) plain =
    rw (plain-unquoted (b ∷ x) (and-left (is_plain (b ∷ x)) (list_all is_plain (y ∷ rest)) plain))
    (ap (λ text. text ++ codes "\n") (sym (rest-text (b ∷ x) (y ∷ rest) (and-right (is_plain (b ∷ x)) (list_all is_plain (y ∷ rest)) plain))))

back : (fields : List (List ℕ)) → is_plain_record fields ≡ true → read_back fields ≡ fields
back [] plain = cc plain
back (x ∷ rest) plain = refl

-- a line is read as its record, whatever follows
next : (fields : List (List ℕ)) (tail : List ℕ) → is_plain_record fields ≡ true
    → next_record default_config st.StartRecord [] [] (record_line fields ++ tail) ≡ Some (fields, st.StartRecord, tail)
next fields tail plain =
    ap (λ line. next_record default_config st.StartRecord [] [] (line ++ tail)) (sym (row fields plain))
    ∙ read-write fields tail
    ∙ ap (λ read. Some (read, st.StartRecord, tail)) (back fields plain)

none-left : (n : ℕ) → records_from default_config n st.StartRecord [] ≡ []
unfolding records_from next_record
none-left zero = refl
none-left (suc n) = refl

-- the lines are read as their records, by as many reads or more
read-lines : (rows : List (List (List ℕ))) (more : ℕ) → list_all is_plain_record rows ≡ true
    → records_from default_config (length rows + more) st.StartRecord (lines rows) ≡ rows
unfolding lines records_from
read-lines [] more plain = none-left _
read-lines (fields ∷ rows) more plain =
    let size : length (fields ∷ rows) + more ≡ suc (length rows + more) = omega arith in
    rw (size, next fields (lines rows) (and-left _ _ plain))
    (ap (λ rest. fields ∷ rest) (read-lines rows more (and-right (is_plain_record fields) (list_all is_plain_record rows) plain)))

length-line : (fields : List (List ℕ)) → 0 < length (record_line fields)
length-line fields = simp length-append (omega arith)

-- there are at most as many records as bytes
enough : (rows : List (List (List ℕ))) → length rows ≤ length (lines rows)
unfolding lines
enough [] = omega arith
enough (fields ∷ rows) = omega (arith, length-line fields, enough rows, length-append (record_line fields) (lines rows))

all-read : (rows : List (List (List ℕ))) → list_all is_plain_record rows ≡ true → records default_config (lines rows) ≡ rows
all-read rows plain =
    let more : (length (lines rows) + 1) ≡ length rows + (length (lines rows) + 1 - length rows) = omega (arith, enough rows) in
    rw more (read-lines rows _ plain)

-- a text that begins with no byte order mark
unmarked : (b : ℕ) (rest : List ℕ) → (b == 239) ≡ false → strip_bom (b ∷ rest) ≡ b ∷ rest
unfolding strip_bom
unmarked b [] e = refl
unmarked b (c ∷ []) e = refl
unmarked b (c ∷ d ∷ rest) e = rw e refl

lines-unmarked : (fields : List (List ℕ)) (rows : List (List (List ℕ))) → is_plain_record fields ≡ true
    → strip_bom (lines (fields ∷ rows)) ≡ lines (fields ∷ rows)
unfolding lines
lines-unmarked [] rows plain = cc plain
lines-unmarked ([] ∷ rest) rows plain = cc plain
lines-unmarked ((b ∷ x) ∷ []) rows plain = unmarked b _ (plain-above b x (and-left (is_plain (b ∷ x)) true plain))
lines-unmarked ((b ∷ x) ∷ y ∷ rest) rows plain = unmarked b _ (plain-above b x (and-left (is_plain (b ∷ x)) (list_all is_plain (y ∷ rest)) plain))

fields-trimmed : (fields : List (List ℕ)) → list_all is_plain fields ≡ true → all_trimmed fields ≡ fields
fields-trimmed [] plain = refl
fields-trimmed (x ∷ rest) plain =
    ap (λ first. first ∷ all_trimmed rest) (plain-trimmed x (and-left _ _ plain))
    ∙ ap (λ others. x ∷ others) (fields-trimmed rest (and-right (is_plain x) (list_all is_plain rest) plain))

-- a plain record has plain fields
pub plain-fields : (fields : List (List ℕ)) → is_plain_record fields ≡ true → list_all is_plain fields ≡ true
plain-fields [] plain = refl
plain-fields (x ∷ rest) plain = and-right (is_given x) (is_plain x && list_all is_plain rest) plain

rows-trimmed : (rows : List (List (List ℕ))) → list_all is_plain_record rows ≡ true → map all_trimmed rows ≡ rows
rows-trimmed [] plain = refl
rows-trimmed (fields ∷ rows) plain =
    ap (λ first. first ∷ map all_trimmed rows) (fields-trimmed fields (plain-fields fields (and-left _ _ plain)))
    ∙ ap (λ others. fields ∷ others) (rows-trimmed rows (and-right (is_plain_record fields) (list_all is_plain_record rows) plain))

lines-records : (fields : List (List ℕ)) (rows : List (List (List ℕ))) → list_all is_plain_record (fields ∷ rows) ≡ true
    → table_records (lines (fields ∷ rows)) ≡ fields ∷ rows
lines-records fields rows plain =
    let once = lines-unmarked fields rows (and-left _ _ plain) in
    ap (λ text. map all_trimmed (records default_config (strip_bom text))) once
    ∙ ap (λ text. map all_trimmed (records default_config text)) once
    ∙ ap (map all_trimmed) (all-read (fields ∷ rows) plain)
    ∙ rows-trimmed (fields ∷ rows) plain

header-first : (fields : List (List ℕ)) (rows : List (List (List ℕ))) → record_line fields ++ lines rows ≡ lines (fields ∷ rows)
unfolding lines
header-first fields rows = refl

-- the records of a table's text
pub records_of_text : (columns : List String) (rows : List (List (List ℕ))) → list_all is_plain_record (map codes columns ∷ rows) ≡ true
    → table_records (table_text columns rows) ≡ map codes columns ∷ rows
unfolding table_text
records_of_text columns rows plain =
    ap table_records (header-first (map codes columns) rows) ∙ lines-records (map codes columns) rows plain
