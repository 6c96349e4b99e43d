-- The driving times break no rule by themselves.
use Rattle.std.proofs.Common.{◌≡◌, ◌<◌, ◌+◌, ◌*◌, ◌/◌, ◌%◌, ◌∙◌, ℕ, Bool, true, false, List, [], ◌∷◌, ◌++◌, Option, arith, ap, filter, length, map, refl}
use Rattle.std.specs.Prelude.{◌==◌, ◌||◌, codes, not}
use Rattle.std.specs.List.{list_all}
use Rattle.std.specs.Str.{bytes_eq}
use Rattle.std.specs.Fmt.{decimal, digits}
use Rattle.std.proofs.lemmas.Bool.{eqb-true}
use Rattle.std.proofs.lemmas.List.{map-append}
use Rattle.std.proofs.lemmas.List.Folds.{list_all-append, list_any-append}
use Rattle.flex_model.specs.declared.fault.InputFile.TheVariants.{Direct}
use Rattle.field_text.specs.Grammars.{id}
use Rattle.field_text.proofs.DecimalLemmas.{numbers_are_read_back}
use Rattle.feed_tables.specs.Records.{table_records}
use Rattle.feed_tables.specs.Refusals.{has_duplicate}
use Rattle.feed_meaning.specs.Folder.{has_no_record}
use Rattle.feed_meaning.specs.Rules.{Values, are_same_pairs, both, repeats_ids, stand}
use Rattle.feed_meaning.specs.Tables.{entries_of, table_faults, values_of}
use Rattle.feed_meaning.specs.TimesFaults.{direct_schema, span_rules}
use Rattle.feed_gen.specs.Ids.{point_id, stop_id}
use Rattle.feed_gen.specs.Texts.{below}
use Rattle.feed_gen.specs.TimesTexts.{between_stops, direct_records, direct_text, far, from_point, point_drives, span_columns, span_record, stop_drives}
use Rattle.feed_gen.proofs.AcceptedTables.{is_fitting, no_faults_in, text-records}
use Rattle.feed_gen.proofs.Checks.{all-below, all-filtered, checked}
use Rattle.feed_gen.proofs.CleanTables.{AreClean, Clean, both-true, clean-append, clean-filtered, clean-indexed, map-map, none-before, none-below, table-values}
use Rattle.feed_gen.proofs.Orders.{pairs_in_order, points_in_order}
use Rattle.feed_gen.proofs.PlainFields.{is_plain}
use Rattle.feed_gen.proofs.StopTimeFacts.{stop-plain}

abbrev pub span : List (List ℕ) → Values
span fields = values_of (map codes span_columns) fields

-- ---- different places have different ids

abbrev differ : (ℕ → List ℕ) → ℕ → ℕ → Bool
differ name a b = not (bytes_eq (name a) (name b)) || (a == b)

stops-differ : list_all (λ a. list_all (differ stop_id a) (below 40)) (below 40) ≡ true
unfolding digits below
stops-differ = refl

pub same-stop : (a b : ℕ) → a < 40 → b < 40 → bytes_eq (stop_id a) (stop_id b) ≡ true → a ≡ b
same-stop a b low low' e =
    eqb-true a b (rw e at (checked (differ stop_id a) 40 (checked (λ a. list_all (differ stop_id a) (below 40)) 40 stops-differ a low) b low'))

points-differ : list_all (λ a. list_all (differ point_id a) (below 10)) (below 10) ≡ true
unfolding digits below
points-differ = refl

pub same-point : (a b : ℕ) → a < 10 → b < 10 → bytes_eq (point_id a) (point_id b) ≡ true → a ≡ b
same-point a b low low' e =
    eqb-true a b (rw e at (checked (differ point_id a) 10 (checked (λ a. list_all (differ point_id a) (below 10)) 10 points-differ a low) b low'))

-- ---- a record

-- a record whose ends aren't told before
span-clean : (earlier : List Values) (from to : List ℕ) (b c s : ℕ) → s < 2000 → repeats_ids "from_id" "to_id" earlier (span (span_record (b ∷ from) (c ∷ to) s)) ≡ false
    → Clean (span_rules 604800 earlier (span (span_record (b ∷ from) (c ∷ to) s)))
span-clean earlier from to b c s low new = rw (new, numbers_are_read_back s 604800 (omega arith) (omega arith)) refl

numbers-plain : list_all (λ s. is_plain (decimal s)) (below 2000) ≡ true
unfolding digits below
numbers-plain = refl

number-plain : (s : ℕ) → s < 2000 → is_plain (decimal s) ≡ true
number-plain s low = checked (λ s. is_plain (decimal s)) 2000 numbers-plain s low

points-plain : list_all (λ p. is_plain (point_id p)) (below 10) ≡ true
unfolding digits below
points-plain = refl

pub point-plain : (p : ℕ) → p < 10 → is_plain (point_id p) ≡ true
point-plain p low = checked (λ p. is_plain (point_id p)) 10 points-plain p low

-- ---- the drives between stops

abbrev pub drive_at : ℕ → List (List ℕ)
drive_at i = between_stops (i / 40) (i % 40)

abbrev pub is_drive : ℕ → Bool
is_drive i = not (i / 40 == i % 40)

drive-seconds : (i : ℕ) → i < 1600 → 120 + 120 * far (i / 40) (i % 40) < 2000
drive-seconds i low = omega arith

abbrev key : Values → Option (List ℕ × List ℕ)
key s = both (id (s "from_id")) (id (s "to_id"))

drive-new : (i : ℕ) → i < 1600 → repeats_ids "from_id" "to_id" (map (λ j. span (drive_at j)) (filter is_drive (below i))) (span (drive_at i)) ≡ false
drive-new i low =
    none-before (λ e. stand (are_same_pairs bytes_eq bytes_eq) (key (span (drive_at i))) (key e)) (λ j. span (drive_at j)) is_drive i
    (λ j before passes. both-true (bytes_eq (stop_id (i / 40)) (stop_id (j / 40))) (bytes_eq (stop_id (i % 40)) (stop_id (j % 40)))
    (λ from to. omega (arith, same-stop (i / 40) (j / 40) (omega arith) (omega arith) from, same-stop (i % 40) (j % 40) (omega arith) (omega arith) to)))

drives-clean : AreClean (span_rules 604800) [] (map (λ i. span (drive_at i)) (filter is_drive (below 1600)))
drives-clean =
    clean-filtered (span_rules 604800) [] (λ i. span (drive_at i)) is_drive 1600
    (λ i low passes. span-clean (map (λ j. span (drive_at j)) (filter is_drive (below i))) (decimal (i / 40)) (decimal (i % 40)) 115 115
    (120 + 120 * far (i / 40) (i % 40)) (drive-seconds i low) (drive-new i low))

drive-fits : (i : ℕ) → i < 1600 → is_fitting 3 (drive_at i) ≡ true
drive-fits i low =
    rw (stop-plain (i / 40) (omega arith), stop-plain (i % 40) (omega arith), number-plain (120 + 120 * far (i / 40) (i % 40)) (drive-seconds i low)) refl

-- ---- the drives from points

abbrev pub point_drive_at : ℕ → List (List ℕ)
point_drive_at i = from_point (i / 40) (i % 40)

point-drive-seconds : (i : ℕ) → i < 400 → 180 + 120 * far (4 * (i / 40)) (i % 40) < 2000
point-drive-seconds i low = omega arith

abbrev pub drives : List Values
drives = map (λ i. span (drive_at i)) (filter is_drive (below 1600))

point-drive-new : (i : ℕ) → i < 400
    → repeats_ids "from_id" "to_id" (drives ++ map (λ j. span (point_drive_at j)) (below i)) (span (point_drive_at i)) ≡ false
point-drive-new i low =
    list_any-append (λ e. stand (are_same_pairs bytes_eq bytes_eq) (key (span (point_drive_at i))) (key e)) drives (map (λ j. span (point_drive_at j)) (below i))
    ∙ rw (none-before (λ e. stand (are_same_pairs bytes_eq bytes_eq) (key (span (point_drive_at i))) (key e)) (λ j. span (drive_at j)) is_drive 1600
    (λ j before passes. refl))
    (none-below (λ e. stand (are_same_pairs bytes_eq bytes_eq) (key (span (point_drive_at i))) (key e)) (λ j. span (point_drive_at j)) i
    (λ j before. both-true (bytes_eq (point_id (i / 40)) (point_id (j / 40))) (bytes_eq (stop_id (i % 40)) (stop_id (j % 40)))
    (λ from to. omega (arith, same-point (i / 40) (j / 40) (omega arith) (omega arith) from, same-stop (i % 40) (j % 40) (omega arith) (omega arith) to))))

point-drives-clean : AreClean (span_rules 604800) drives (map (λ i. span (point_drive_at i)) (below 400))
point-drives-clean =
    clean-indexed (span_rules 604800) drives (λ i. span (point_drive_at i)) 400
    (λ i low. span-clean (drives ++ map (λ j. span (point_drive_at j)) (below i)) (decimal (i / 40)) (decimal (i % 40)) 112 115
    (180 + 120 * far (4 * (i / 40)) (i % 40)) (point-drive-seconds i low) (point-drive-new i low))

point-drive-fits : (i : ℕ) → i < 400 → is_fitting 3 (point_drive_at i) ≡ true
point-drive-fits i low =
    rw (point-plain (i / 40) (omega arith), stop-plain (i % 40) (omega arith), number-plain (180 + 120 * far (4 * (i / 40)) (i % 40)) (point-drive-seconds i low)) refl

-- ---- the table

stop-drives-in-order : stop_drives ≡ map drive_at (filter is_drive (below 1600))
unfolding stop_drives
stop-drives-in-order = pairs_in_order between_stops

point-drives-in-order : point_drives ≡ map point_drive_at (below 400)
unfolding point_drives
point-drives-in-order = points_in_order from_point

all-fit : list_all (is_fitting 3) direct_records ≡ true
all-fit =
    list_all-append (is_fitting 3) stop_drives point_drives
    ∙ rw (
      stop-drives-in-order,
      point-drives-in-order,
      all-filtered (is_fitting 3) drive_at is_drive (below 1600) (all-below (is_fitting 3) drive_at 1600 drive-fits),
      all-below (is_fitting 3) point_drive_at 400 point-drive-fits,
    ) refl

pub direct-values : map span direct_records ≡ drives ++ map (λ i. span (point_drive_at i)) (below 400)
direct-values =
    map-append span stop_drives point_drives
    ∙ ap (λ rows. map span rows ++ map span point_drives) stop-drives-in-order
    ∙ ap (λ rows. map span (map drive_at (filter is_drive (below 1600))) ++ map span rows) point-drives-in-order
    ∙ ap (λ values. values ++ map span (map point_drive_at (below 400))) (map-map span drive_at (filter is_drive (below 1600)))
    ∙ ap (λ values. drives ++ values) (map-map span point_drive_at (below 400))

count-records : length direct_records ≡ 1960
unfolding stop_drives point_drives below
count-records = refl

pub direct-alone : table_faults Direct direct_schema (table_records direct_text) ≡ []
unfolding direct_text has_duplicate
direct-alone =
    no_faults_in Direct direct_schema span_columns direct_records
    (record { plain = refl; once = refl; whole = refl })
    all-fit
    (omega (arith, count-records))
    (rw direct-values
    (clean-append (span_rules 604800) [] drives (map (λ i. span (point_drive_at i)) (below 400)) drives-clean point-drives-clean))

direct-records : table_records direct_text ≡ map codes span_columns ∷ direct_records
unfolding direct_text
direct-records = text-records span_columns direct_records refl all-fit

pub direct-there : has_no_record (table_records direct_text) ≡ false
direct-there = ap has_no_record direct-records

-- the values of the text's records
pub direct_text-values : map (λ e. e.values) (entries_of (table_records direct_text)) ≡ drives ++ map (λ i. span (point_drive_at i)) (below 400)
direct_text-values =
    ap (λ records. map (λ e. e.values) (entries_of records)) direct-records
    ∙ table-values (map codes span_columns) direct_records
    ∙ direct-values
