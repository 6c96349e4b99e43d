-- A table that is read record by record.
use Rattle.std.proofs.Common.{◌≡◌, ◌≤◌, ◌<◌, ◌+◌, ◌-◌, ◌^◌, ◌⊎◌, lit≤, inl, inr, ℕ, List, [], ◌∷◌, ◌++◌, get_or, length, map, Some, None, Bool, true, false, refl, sym, ap, ◌∙◌, arith}
use Rattle.std.specs.Bool.{MatchBool}
use Rattle.std.specs.List.{list_all, sum_by}
use Rattle.std.specs.Str.{is_utf8}
use Rattle.std.proofs.lemmas.List.Sums.{sum_by-append}
use Rattle.std.proofs.lemmas.List.{append_assoc, length-map, take_all}
use Rattle.csv.specs.Reading.{strip_bom}
use Rattle.feed_tables.specs.Fields.{trimmed}
use Rattle.feed_tables.specs.Parts.{EndAt, parts}
use Rattle.feed_tables.specs.Records.{csv_records, table_records}
use Rattle.feed_tables.specs.Refusals.{first_refusal, first_refusal_from, refusal_of}
use Rattle.flex_model.specs.declared.limits.TheConstants.{MOST_RECORDS}
use Rattle.feed_tables.specs.declared.refusal.TableRefusal.{TableRefusal}
use Rattle.feed_tables.specs.declared.refusal.TableRefusal.TheVariants as refusal
use Rattle.feed_tables.proofs.Bounds.{fields-trimmed-size, records-fit, total, total-cons}
use Rattle.feed_tables.proofs.TableFacts.{refusal-end, refusal-first, refusal-next, text-refused}

-- a record that was found is the first of those that were left
pub found-first : {left rest : List (List (List ℕ))} {raw : List (List ℕ)} (found : Bool) → found ≡ true → MatchBool found (left ≡ raw ∷ rest) (left ≡ []) → left ≡ raw ∷ rest
found-first found e h = rw e at h

pub found-none : {left : List (List (List ℕ))} (P : Type 0) (found : Bool) → found ≡ false → MatchBool found P (left ≡ []) → left ≡ []
found-none P found e h = rw e at h

-- the same of a record of any fields
pub found-some-true : (left : List (List (List ℕ))) (found : Bool) → found ≡ true → MatchBool found ((fields : List (List ℕ)) × (rest : List (List (List ℕ))) × (left ≡ fields ∷ rest)) (left ≡ [])
    → (fields : List (List ℕ)) × (rest : List (List (List ℕ))) × (left ≡ fields ∷ rest)
found-some-true left found e h = rw e at h

-- a file whose first record was read
pub starts : (bytes text : List ℕ) (left rest : List (List (List ℕ))) (raw : List (List ℕ)) → text ≡ strip_bom bytes → left ≡ csv_records text → left ≡ raw ∷ rest
    → csv_records (strip_bom bytes) ≡ raw ∷ rest
starts bytes text left rest raw e f g = ap csv_records (sym e) ∙ sym f ∙ g

-- why its header is refused, or that it isn't
pub header-refused : (bytes : List ℕ) (rest : List (List (List ℕ))) (raw : List (List ℕ)) (e : TableRefusal) → csv_records (strip_bom bytes) ≡ raw ∷ rest
    → (e ≡ refusal.NoMemory) ⊎ (refusal_of (length raw) 0 (map trimmed raw) ≡ Some e)
    → (e ≡ refusal.NoMemory) ⊎ (first_refusal (table_records bytes) ≡ Some e)
header-refused bytes rest raw e s (inl none) = inl none
header-refused bytes rest raw e s (inr bad) =
    inr (ap first_refusal (ap (map (map trimmed)) s) ∙ refusal-first _ 0 (map trimmed raw) (map (map trimmed) rest) e (ap (λ n. refusal_of n 0 (map trimmed raw)) (length-map raw trimmed) ∙ bad))

pub header-sound : (bytes : List ℕ) (rest : List (List (List ℕ))) (raw : List (List ℕ)) (columns : ℕ) → csv_records (strip_bom bytes) ≡ raw ∷ rest → columns ≡ length raw
    → refusal_of (length raw) 0 (map trimmed raw) ≡ None → first_refusal (table_records bytes) ≡ first_refusal_from columns 1 (map (map trimmed) rest)
header-sound bytes rest raw columns s size none =
    let same = length-map raw trimmed in
    ap first_refusal (ap (map (map trimmed)) s) ∙ refusal-next _ 0 (map trimmed raw) (map (map trimmed) rest) (ap (λ n. refusal_of n 0 (map trimmed raw)) same ∙ none)
    ∙ ap (λ n. first_refusal_from n 1 (map (map trimmed) rest)) (same ∙ sym size)

-- one more record: why it is refused, or that it isn't
pub row-refused : (all left rest : List (List (List ℕ))) (raw : List (List ℕ)) (columns index : ℕ) (e : TableRefusal) → left ≡ raw ∷ rest
    → first_refusal all ≡ first_refusal_from columns index (map (map trimmed) left)
    → (e ≡ refusal.NoMemory) ⊎ (refusal_of columns index (map trimmed raw) ≡ Some e)
    → (e ≡ refusal.NoMemory) ⊎ (first_refusal all ≡ Some e)
row-refused all left rest raw columns index e s f (inl none) = inl none
row-refused all left rest raw columns index e s f (inr bad) =
    inr (f ∙ ap (λ rows. first_refusal_from columns index (map (map trimmed) rows)) s ∙ refusal-first columns index (map trimmed raw) (map (map trimmed) rest) e bad)

pub row-sound : (all left rest : List (List (List ℕ))) (raw : List (List ℕ)) (columns index : ℕ) → left ≡ raw ∷ rest
    → first_refusal all ≡ first_refusal_from columns index (map (map trimmed) left) → refusal_of columns index (map trimmed raw) ≡ None
    → first_refusal all ≡ first_refusal_from columns (index + 1) (map (map trimmed) rest)
row-sound all left rest raw columns index s f none =
    f ∙ ap (λ rows. first_refusal_from columns index (map (map trimmed) rows)) s ∙ refusal-next columns index (map trimmed raw) (map (map trimmed) rest) none

pub rows-more : (all left rest old new : List (List (List ℕ))) (raw : List (List ℕ)) → left ≡ raw ∷ rest → all ≡ old ++ map (map trimmed) left → new ≡ old ++ map trimmed raw ∷ []
    → all ≡ new ++ map (map trimmed) rest
rows-more all left rest old new raw s f e = f ∙ ap (λ rows. old ++ map (map trimmed) rows) s ∙ sym (append_assoc old (map trimmed raw ∷ []) (map (map trimmed) rest)) ∙ ap (λ xs. xs ++ map (map trimmed) rest) (sym e)

-- a next record that isn't UTF-8
abbrev pub IsNotUtf8 : List (List (List ℕ)) → ℕ → TableRefusal → Type 0
IsNotUtf8 left row e = (e ≡ refusal.NotUtf8 row) × ((fields : List (List ℕ)) × (rest : List (List (List ℕ))) × (left ≡ fields ∷ rest) × (list_all is_utf8 (map trimmed fields) ≡ false))

pub header-text-refused : (bytes text : List ℕ) (left : List (List (List ℕ))) (e : TableRefusal) → text ≡ strip_bom bytes → left ≡ csv_records text
    → (e ≡ refusal.NoMemory) ⊎ IsNotUtf8 left 1 e → (e ≡ refusal.NoMemory) ⊎ (first_refusal (table_records bytes) ≡ Some e)
header-text-refused bytes text left e at s (inl none) = inl none
header-text-refused bytes text left e at s (inr (is, (fields, rest, got, bad))) =
    header-refused bytes rest fields e (starts bytes text left rest fields at s got) (text-refused (length fields) 0 (map trimmed fields) e (lit≤ tt) (inr (is, bad)))

pub row-text-refused : (all left : List (List (List ℕ))) (columns index : ℕ) (e : TableRefusal) → index ≤ MOST_RECORDS → first_refusal all ≡ first_refusal_from columns index (map (map trimmed) left)
    → (e ≡ refusal.NoMemory) ⊎ IsNotUtf8 left (index + 1) e → (e ≡ refusal.NoMemory) ⊎ (first_refusal all ≡ Some e)
row-text-refused all left columns index e high f (inl none) = inl none
row-text-refused all left columns index e high f (inr (is, (fields, rest, got, bad))) =
    row-refused all left rest fields columns index e got f (text-refused columns index (map trimmed fields) e high (inr (is, bad)))

-- no record is left
pub rows-done : (all left : List (List (List ℕ))) (columns index : ℕ) → left ≡ [] → first_refusal all ≡ first_refusal_from columns index (map (map trimmed) left) → first_refusal all ≡ None
rows-done all left columns index s f = f ∙ ap (λ rows. first_refusal_from columns index (map (map trimmed) rows)) s ∙ refusal-end columns index

-- a pool with the header alone
pub header-parts : (ends : List ℕ) (pool raw : List (List ℕ)) (size : ℕ) → ends ≡ length raw ∷ [] → pool ≡ map trimmed raw → length raw ≤ size
    → (0 < length ends) × EndAt 0 ends (length pool) × (get_or ends 0 0 ≤ size) × (parts 0 ends pool ≡ map trimmed raw ∷ [])
unfolding parts EndAt
header-parts ends pool raw size e f le = rw (e, f) (
  omega arith,
  (omega arith, sym (length-map raw trimmed)),
  le,
  ap (λ xs. xs ∷ []) (take_all (length raw - 0) (map trimmed raw) (omega (arith, length-map raw trimmed))),
)

pub records-start : (bytes : List ℕ) (rest : List (List (List ℕ))) (raw : List (List ℕ)) (old : List (List (List ℕ))) → csv_records (strip_bom bytes) ≡ raw ∷ rest → old ≡ map trimmed raw ∷ []
    → table_records bytes ≡ old ++ map (map trimmed) rest
records-start bytes rest raw old s e = ap (map (map trimmed)) s ∙ ap (λ xs. xs ++ map (map trimmed) rest) (sym e)

-- one more index leaves the first one
pub first-stays : (ends new : List ℕ) (n : ℕ) → 0 < length ends → new ≡ ends ++ n ∷ [] → (0 < length new) × (get_or new 0 0 ≡ get_or ends 0 0)
first-stays [] new n some e = absurd (omega (arith, some))
first-stays (end ∷ ends) new n some e = rw e (omega arith, refl)

-- ---- what is left to read fits the pool

pub header-needs : (bytes : List ℕ) (rest : List (List (List ℕ))) (raw : List (List ℕ)) → length bytes < 2 ^ 32 → csv_records (strip_bom bytes) ≡ raw ∷ rest
    → sum_by length raw < 2 ^ 32
header-needs bytes rest raw small s = omega (arith, records-fit bytes small, total-cons (csv_records (strip_bom bytes)) rest raw s)

pub header-room : (bytes : List ℕ) (rest : List (List (List ℕ))) (raw pool : List (List ℕ)) → length bytes < 2 ^ 32 → csv_records (strip_bom bytes) ≡ raw ∷ rest → pool ≡ map trimmed raw
    → sum_by length pool + total rest < 2 ^ 32
header-room bytes rest raw pool small s e =
    omega (arith, records-fit bytes small, total-cons (csv_records (strip_bom bytes)) rest raw s, ap (sum_by length) e, fields-trimmed-size raw)

pub row-needs : (left rest : List (List (List ℕ))) (raw pool : List (List ℕ)) → left ≡ raw ∷ rest → sum_by length pool + total left < 2 ^ 32 → sum_by length pool + sum_by length raw < 2 ^ 32
row-needs left rest raw pool s room = omega (arith, room, total-cons left rest raw s)

pub row-room : (left rest : List (List (List ℕ))) (raw old new : List (List ℕ)) → left ≡ raw ∷ rest → sum_by length old + total left < 2 ^ 32 → new ≡ old ++ map trimmed raw
    → sum_by length new + total rest < 2 ^ 32
row-room left rest raw old new s room e =
    omega (arith, room, total-cons left rest raw s, ap (sum_by length) e, sum_by-append length old (map trimmed raw), fields-trimmed-size raw)
