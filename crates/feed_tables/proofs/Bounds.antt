-- A text's records are no greater than the text.
use Rattle.std.proofs.Common.{◌≡◌, ◌≤◌, ◌<◌, ◌+◌, ◌^◌, ◌∙◌, ℕ, zero, suc, List, [], ◌∷◌, ◌++◌, length, map, reverse, Option, Some, None, true, false, Bool, refl, sym, ap, subst, arith}
use Rattle.std.specs.Prelude.{if◌then◌else◌, sum_by}
use Rattle.std.proofs.lemmas.List.{length-append, length-reverse}
use Rattle.std.proofs.lemmas.List.Sums.{sum_by-cons, sum_by_push}
use Rattle.csv.specs.Machine.{Read, ends_at_end, field_after, fields_after, is_end, next_record, step}
use Rattle.csv.specs.Reading.{default_config, is_bom, records_from, records_next, strip_bom}
use Rattle.csv.specs.declared.parser.Action.{Action}
use Rattle.csv.specs.declared.parser.Action.TheVariants as act
use Rattle.csv.specs.declared.parser.Config.{Config}
use Rattle.csv.specs.declared.parser.State.{State}
use Rattle.csv.specs.declared.parser.State.TheVariants as st
use Rattle.feed_tables.specs.Fields.{is_blank, trimmed, without_leading}
use Rattle.feed_tables.specs.Records.{csv_records}
use Rattle.feed_tables.proofs.FieldFacts.{some-same}

-- a byte ends at most one field
one-field : (a : Action) (fields : List (List ℕ)) (field : List ℕ) → length (fields_after a fields field) ≤ length fields + 1
one-field act.EndField fields field = omega (arith, length-append fields (field ∷ []))
one-field act.Skip fields field = omega arith
one-field act.Copy fields field = omega arith
one-field act.EndRecord fields field = omega (arith, length-append fields (field ∷ []))

next-fields : (cfg : Config) (s : State) (fields : List (List ℕ)) (field xs : List ℕ) (p : Read) → next_record cfg s fields field xs ≡ Some p
    → length p.0 ≤ length fields + length xs + 1
unfolding next_record
next-fields cfg s fields field [] p e = by (ends_at_end s) e
  where
    by : (b : Bool) → (if b then Some (fields ++ (field ∷ []), st.StartRecord, []) else None) ≡ Some p → length p.0 ≤ length fields + 0 + 1
    by true h = subst (λ (q : Read). length q.0 ≤ length fields + 0 + 1) (some-same h) (omega (arith, length-append fields (field ∷ [])))
    by false h = cc h
next-fields cfg s fields field (c ∷ rest) p e = by (is_end (step cfg s c).1) e (next-fields cfg (step cfg s c).0 (fields_after (step cfg s c).1 fields field) (field_after (step cfg s c).1 c field) rest p)
  where
    one : length (fields_after (step cfg s c).1 fields field) ≤ length fields + 1
    one = one-field (step cfg s c).1 fields field

    by : (b : Bool) → (if b then Some (fields_after (step cfg s c).1 fields field, (step cfg s c).0, rest) else next_record cfg (step cfg s c).0 (fields_after (step cfg s c).1 fields field) (field_after (step cfg s c).1 c field) rest) ≡ Some p
        → (next_record cfg (step cfg s c).0 (fields_after (step cfg s c).1 fields field) (field_after (step cfg s c).1 c field) rest ≡ Some p → length p.0 ≤ length (fields_after (step cfg s c).1 fields field) + length rest + 1)
        → length p.0 ≤ length fields + length (c ∷ rest) + 1
    by true h more = subst (λ (q : Read). length q.0 ≤ length fields + length (c ∷ rest) + 1) (some-same h) (omega (arith, one))
    by false h more = omega (arith, one, more h)

abbrev first-or : List (List ℕ) → List (List (List ℕ)) → List (List ℕ)
first-or d [] = d
first-or d (r ∷ rs) = r

first-fields : (cfg : Config) (n : ℕ) (xs : List ℕ) (r : List (List ℕ)) (rest : List (List (List ℕ))) → records_from cfg (suc n) st.StartRecord xs ≡ r ∷ rest
    → length r ≤ length xs + 1
unfolding records_from
first-fields cfg n xs r rest e = by (next_record cfg st.StartRecord [] [] xs) refl e
  where
    by : (o : Option Read) → next_record cfg st.StartRecord [] [] xs ≡ o → records_next (records_from cfg n) o ≡ r ∷ rest → length r ≤ length xs + 1
    by None f g = cc g
    by (Some p) f g =
        let size = next-fields cfg st.StartRecord [] [] xs p f in
        subst (λ q. length q ≤ length xs + 1) (ap (first-or r) g) (omega (arith, size))

-- ---- sizes

-- a byte adds at most one byte to the fields and the field at hand
fields-size : (a : Action) (fields : List (List ℕ)) (field : List ℕ) → sum_by length (fields_after a fields field) ≤ sum_by length fields + length field
fields-size act.EndField fields field = omega (arith, sum_by_push length fields field)
fields-size act.Skip fields field = omega arith
fields-size act.Copy fields field = omega arith
fields-size act.EndRecord fields field = omega (arith, sum_by_push length fields field)

one-size : (a : Action) (c : ℕ) (fields : List (List ℕ)) (field : List ℕ)
    → sum_by length (fields_after a fields field) + length (field_after a c field) ≤ sum_by length fields + length field + 1
one-size act.EndField c fields field = omega (arith, sum_by_push length fields field)
one-size act.Skip c fields field = omega arith
one-size act.Copy c fields field = omega (arith, length-append field (c ∷ []))
one-size act.EndRecord c fields field = omega (arith, sum_by_push length fields field)

next-size : (cfg : Config) (s : State) (fields : List (List ℕ)) (field xs : List ℕ) (p : Read) → next_record cfg s fields field xs ≡ Some p
    → sum_by length p.0 + length p.2 ≤ sum_by length fields + length field + length xs
unfolding next_record
next-size cfg s fields field [] p e = by (ends_at_end s) e
  where
    by : (b : Bool) → (if b then Some (fields ++ (field ∷ []), st.StartRecord, []) else None) ≡ Some p → sum_by length p.0 + length p.2 ≤ sum_by length fields + length field + 0
    by true h = subst (λ (q : Read). sum_by length q.0 + length q.2 ≤ sum_by length fields + length field + 0) (some-same h) (omega (arith, sum_by_push length fields field))
    by false h = cc h
next-size cfg s fields field (c ∷ rest) p e = by (is_end (step cfg s c).1) e (next-size cfg (step cfg s c).0 (fields_after (step cfg s c).1 fields field) (field_after (step cfg s c).1 c field) rest p)
  where
    all : sum_by length (fields_after (step cfg s c).1 fields field) ≤ sum_by length fields + length field
    all = fields-size (step cfg s c).1 fields field

    one : sum_by length (fields_after (step cfg s c).1 fields field) + length (field_after (step cfg s c).1 c field) ≤ sum_by length fields + length field + 1
    one = one-size (step cfg s c).1 c fields field

    by : (b : Bool) → (if b then Some (fields_after (step cfg s c).1 fields field, (step cfg s c).0, rest) else next_record cfg (step cfg s c).0 (fields_after (step cfg s c).1 fields field) (field_after (step cfg s c).1 c field) rest) ≡ Some p
        → (next_record cfg (step cfg s c).0 (fields_after (step cfg s c).1 fields field) (field_after (step cfg s c).1 c field) rest ≡ Some p
        → sum_by length p.0 + length p.2 ≤ sum_by length (fields_after (step cfg s c).1 fields field) + length (field_after (step cfg s c).1 c field) + length rest)
        → sum_by length p.0 + length p.2 ≤ sum_by length fields + length field + length (c ∷ rest)
    by true h more = subst (λ (q : Read). sum_by length q.0 + length q.2 ≤ sum_by length fields + length field + length (c ∷ rest)) (some-same h) (omega (arith, all))
    by false h more = omega (arith, one, more h)

-- how many bytes the fields of some records have
abbrev pub total : List (List (List ℕ)) → ℕ
total records = sum_by (sum_by length) records

records-size : (cfg : Config) (n : ℕ) (s : State) (xs : List ℕ) → total (records_from cfg n s xs) ≤ length xs
unfolding records_from
records-size cfg zero s xs = omega arith
records-size cfg (suc n) s xs = by (next_record cfg s [] [] xs) refl (records-size cfg n)
  where
    by : (o : Option Read) → next_record cfg s [] [] xs ≡ o → ((s2 : State) (ys : List ℕ) → total (records_from cfg n s2 ys) ≤ length ys)
        → total (records_next (records_from cfg n) o) ≤ length xs
    by None e more = omega arith
    by (Some p) e more = omega (arith, next-size cfg s [] [] xs p e, more p.1 p.2, sum_by-cons (sum_by length) p.0 (records_from cfg n p.1 p.2))

-- blanks taken off make a field no longer
leading-size : (field : List ℕ) → length (without_leading field) ≤ length field
unfolding without_leading
leading-size [] = omega arith
leading-size (b ∷ rest) = by (is_blank b) (leading-size rest)
  where
    by : (t : Bool) → length (without_leading rest) ≤ length rest → length (if t then without_leading rest else b ∷ rest) ≤ length (b ∷ rest)
    by true h = omega (arith, h)
    by false h = omega arith

pub trimmed-size : (field : List ℕ) → length (trimmed field) ≤ length field
trimmed-size field =
    let start = without_leading field in
    let back = without_leading (reverse start) in
    omega (arith, leading-size field, leading-size (reverse start), length-reverse start, length-reverse back)

pub fields-trimmed-size : (fields : List (List ℕ)) → sum_by length (map trimmed fields) ≤ sum_by length fields
fields-trimmed-size [] = omega arith
fields-trimmed-size (f ∷ fs) = omega (arith, fields-trimmed-size fs, trimmed-size f, sum_by-cons length f fs, sum_by-cons length (trimmed f) (map trimmed fs))

strip-length : (xs : List ℕ) → length (strip_bom xs) ≤ length xs
unfolding strip_bom
strip-length [] = omega arith
strip-length (a ∷ []) = omega arith
strip-length (a ∷ b ∷ []) = omega arith
strip-length (a ∷ b ∷ c ∷ rest) = by (is_bom a b c)
  where
    by : (m : Bool) → length (if m then rest else a ∷ b ∷ c ∷ rest) ≤ length (a ∷ b ∷ c ∷ rest)
    by true = omega arith
    by false = omega arith

-- the columns of a file that isn't too long have numbers of 32 bits
pub header-fits : (bytes : List ℕ) (header : List (List ℕ)) (rest : List (List (List ℕ))) → length bytes < 2 ^ 32 → csv_records (strip_bom bytes) ≡ header ∷ rest
    → length header ≤ 2 ^ 32
header-fits bytes header rest small e =
    let text = strip_bom (strip_bom bytes) in
    let turns : length text + 1 ≡ suc (length text) = omega arith in
    let size = first-fields default_config (length text) text header rest (ap (λ n. records_from default_config n st.StartRecord text) (sym turns) ∙ e) in
    omega (arith, size, strip-length (strip_bom bytes), strip-length bytes, small)

-- what a file's records have fits where the file isn't too long
pub records-fit : (bytes : List ℕ) → length bytes < 2 ^ 32 → total (csv_records (strip_bom bytes)) < 2 ^ 32
records-fit bytes small =
    let text = strip_bom (strip_bom bytes) in
    omega (arith, records-size default_config (length text + 1) st.StartRecord text, strip-length (strip_bom bytes), strip-length bytes, small)

-- one record of them
pub total-cons : (left rest : List (List (List ℕ))) (fields : List (List ℕ)) → left ≡ fields ∷ rest → total left ≡ sum_by length fields + total rest
total-cons left rest fields e = ap total e ∙ sum_by-cons (sum_by length) fields rest
