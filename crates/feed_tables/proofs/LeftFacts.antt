-- What a read takes from the records that a reader has left.
use Rattle.std.proofs.Common.{Bor, ◌≡◌, ◌<◌, ◌+◌, ◌⊎◌, ℕ, zero, suc, List, [], ◌∷◌, ◌++◌, length, Option, Some, None, true, false, Bool, refl, sym, ap, subst, ◌∙◌, arith, inl, inr}
use Rattle.std.specs.Prelude.{if◌then◌else◌, Result, Ok, Err}
use Rattle.std.proofs.lemmas.Bool.{cases_Bool}
use Rattle.std.specs.Bool.{MatchBool}
use Rattle.csv.specs.Machine.{Read, ends_at_end, field_after, fields_after, is_end, next_record, step}
use Rattle.csv.specs.Records.{AllText}
use Rattle.csv.specs.Reading.{ExplainsRead, NextIs, has_failed, ReadRecord, ReadsNext, default_config, pending_of, records, records_from, records_next, source_of}
use Rattle.csv.specs.declared.parser.Config.{Config}
use Rattle.csv.specs.declared.parser.State.{State}
use Rattle.csv.specs.declared.parser.State.TheVariants as st
use Rattle.csv.specs.declared.reader.Reader.{Reader}
use Rattle.csv.specs.declared.error.ErrorKind.{ErrorKind}
use Rattle.csv.specs.declared.error.ErrorKind.TheVariants as Kinds
use Rattle.csv.specs.declared.error.Utf8Error.{Utf8Error}
use Rattle.csv.specs.declared.record.Position.{Position}
use Rattle.feed_tables.specs.Left.{known_records, records_left, slice_bytes}

-- a record's read leaves fewer bytes, or the end of a text that has no further record
abbrev pub LeavesLess : List ℕ → Read → Type 0
LeavesLess xs p = (length p.2 < length xs) ⊎ ((p.2 ≡ []) × (p.1 ≡ st.StartRecord))

abbrev value-or : {A : Type 0} → A → Option A → A
value-or d None = d
value-or d (Some x) = x

some-same : {A : Type 0} {x y : A} → Some x ≡ Some y → x ≡ y
some-same {A} {x} {y} e = ap (value-or x) e

more-left : (c : ℕ) (rest : List ℕ) (p : Read) → LeavesLess rest p → LeavesLess (c ∷ rest) p
more-left c rest p (inl h) = inl (omega (arith, h))
more-left c rest p (inr h) = inr h

-- a read leaves less
pub leaves-less : (cfg : Config) (s : State) (fields : List (List ℕ)) (field xs : List ℕ) (p : Read)
    → next_record cfg s fields field xs ≡ Some p → LeavesLess xs p
unfolding next_record
leaves-less cfg s fields field [] p e = by (ends_at_end s) e
  where
    by : (b : Bool) → (if b then Some (fields ++ (field ∷ []), st.StartRecord, []) else None) ≡ Some p → LeavesLess [] p
    by true h = subst (λ (q : Read). LeavesLess [] q) (some-same h) (inr (refl, refl))
    by false h = cc h
leaves-less cfg s fields field (c ∷ rest) p e = by (is_end (step cfg s c).1) e (leaves-less cfg (step cfg s c).0 (fields_after (step cfg s c).1 fields field) (field_after (step cfg s c).1 c field) rest p)
  where
    by : (b : Bool) → (if b then Some (fields_after (step cfg s c).1 fields field, (step cfg s c).0, rest) else next_record cfg (step cfg s c).0 (fields_after (step cfg s c).1 fields field) (field_after (step cfg s c).1 c field) rest) ≡ Some p
        → (next_record cfg (step cfg s c).0 (fields_after (step cfg s c).1 fields field) (field_after (step cfg s c).1 c field) rest ≡ Some p → LeavesLess rest p)
        → LeavesLess (c ∷ rest) p
    by true h more = subst (λ (q : Read). LeavesLess (c ∷ rest) q) (some-same h) (inl (omega arith))
    by false h more = more-left c rest p (more h)

-- so many turns are enough for the records of a text from a state
abbrev pub Enough : ℕ → State → List ℕ → Type 0
Enough n s xs = (length xs < n) ⊎ ((xs ≡ []) × (s ≡ st.StartRecord))

-- nothing is left at the end of a text that has no further record
none-at-end : (cfg : Config) (p : Read) → next_record cfg st.StartRecord [] [] [] ≡ Some p → ⊥
unfolding next_record
none-at-end cfg p e = cc e

enough-next : (cfg : Config) (n : ℕ) (s : State) (xs : List ℕ) (p : Read) → Enough (suc n) s xs → next_record cfg s [] [] xs ≡ Some p → Enough n p.1 p.2
enough-next cfg n s xs p (inl h) e = by (leaves-less cfg s [] [] xs p e)
  where
    by : LeavesLess xs p → Enough n p.1 p.2
    by (inl l) = inl (omega (arith, h, l))
    by (inr l) = inr l
enough-next cfg n s xs p (inr h) e = absurd (none-at-end cfg p (rw (h.0, h.1) at e))

enough-some : (cfg : Config) (s : State) (xs : List ℕ) (p : Read) → Enough zero s xs → next_record cfg s [] [] xs ≡ Some p → ⊥
enough-some cfg s xs p (inl h) e = omega (arith, h)
enough-some cfg s xs p (inr h) e = none-at-end cfg p (rw (h.0, h.1) at e)

-- the records of a text by two numbers of turns that are enough
pub records-same : (cfg : Config) (n m : ℕ) (s : State) (xs : List ℕ) → Enough n s xs → Enough m s xs → records_from cfg n s xs ≡ records_from cfg m s xs
unfolding records_from
records-same cfg zero zero s xs a b = refl
records-same cfg zero (suc m) s xs a b = by (next_record cfg s [] [] xs) refl
  where
    by : (o : Option Read) → next_record cfg s [] [] xs ≡ o → [] ≡ records_next (records_from cfg m) o
    by None e = refl
    by (Some p) e = absurd (enough-some cfg s xs p a e)
records-same cfg (suc n) zero s xs a b = by (next_record cfg s [] [] xs) refl
  where
    by : (o : Option Read) → next_record cfg s [] [] xs ≡ o → records_next (records_from cfg n) o ≡ []
    by None e = refl
    by (Some p) e = absurd (enough-some cfg s xs p b e)
records-same cfg (suc n) (suc m) s xs a b = by (next_record cfg s [] [] xs) refl (records-same cfg n m)
  where
    by : (o : Option Read) → next_record cfg s [] [] xs ≡ o
        → ((s2 : State) (ys : List ℕ) → Enough n s2 ys → Enough m s2 ys → records_from cfg n s2 ys ≡ records_from cfg m s2 ys)
        → records_next (records_from cfg n) o ≡ records_next (records_from cfg m) o
    by None e more = refl
    by (Some p) e more = ap (λ rest. p.0 ∷ rest) (more p.1 p.2 (enough-next cfg n s xs p a e) (enough-next cfg m s xs p b e))

-- one turn
turn : (n : ℕ) (s : State) (xs : List ℕ) (o : Option Read) → next_record default_config s [] [] xs ≡ o
    → records_from default_config (suc n) s xs ≡ records_next (records_from default_config n) o
unfolding records_from
turn n s xs o e = ap (records_next (records_from default_config n)) e

-- the records of a text that has a next one, and of a text that has none
records-some : (s : State) (xs : List ℕ) (p : Read) → next_record default_config s [] [] xs ≡ Some p
    → known_records s (Some xs) ≡ p.0 ∷ known_records p.1 (Some p.2)
records-some s xs p e =
    let enough : Enough (suc (length xs + 1)) s xs = inl (omega arith) in
    let next = enough-next default_config (length xs + 1) s xs p enough e in
    let same = records-same default_config (length xs + 1) (length p.2 + 2) p.1 p.2 next (inl (omega arith)) in
    let turns : length xs + 2 ≡ suc (length xs + 1) = omega arith in
    ap (λ n. records_from default_config n s xs) turns ∙ turn (length xs + 1) s xs (Some p) e ∙ ap (λ rest. p.0 ∷ rest) same

records-none : (s : State) (xs : List ℕ) → next_record default_config s [] [] xs ≡ None → known_records s (Some xs) ≡ []
records-none s xs e =
    let turns : length xs + 2 ≡ suc (length xs + 1) = omega arith in
    ap (λ n. records_from default_config n s xs) turns ∙ turn (length xs + 1) s xs None e

found-next : (o : Option Read) (f : List (List ℕ)) (s : State) (z : List ℕ) → NextIs o true f s z → (p : Read) × (o ≡ Some p) × (f ≡ p.0) × (s ≡ p.1) × (z ≡ p.2)
found-next None f s z n = cc n
found-next (Some p) f s z n = (p, refl, n.1, n.2, n.3)

found-none : (o : Option Read) (f : List (List ℕ)) (s : State) (z : List ℕ) → NextIs o false f s z → o ≡ None
found-none None f s z n = refl
found-none (Some p) f s z n = cc n.0

same-left : (f g : List (List ℕ)) (s t : State) (y z : List ℕ) → f ≡ g → s ≡ t → y ≡ z → f ∷ known_records s (Some y) ≡ g ∷ known_records t (Some z)
same-left f g s t y z a b c = rw (a, b, c) refl

-- a read that found a record took the first of those that were left, where the bytes are known
read-some : (s s2 : State) (b : Option (List ℕ)) (xs : List ℕ) (f : List (List ℕ)) → ReadsNext default_config s (Some xs) b true f s2
    → known_records s (Some xs) ≡ f ∷ known_records s2 b
read-some s s2 None xs f r = absurd r
read-some s s2 (Some z) xs f r =
    let (p, e, at_f, at_s, at_z) = found-next _ f s2 z r in
    records-some s xs p e ∙ sym (same-left _ _ _ _ _ _ at_f at_s at_z)

pub reads-some : (s s2 : State) (a b : Option (List ℕ)) (xs : List ℕ) (f : List (List ℕ)) → a ≡ Some xs → ReadsNext default_config s a b true f s2
    → known_records s a ≡ f ∷ known_records s2 b
reads-some s s2 None b xs f e r = cc e
reads-some s s2 (Some ys) b xs f e r = read-some s s2 b ys f r

-- a read that found none has none left
pub reads-none : (s s2 : State) (a b : Option (List ℕ)) (f : List (List ℕ)) → ReadsNext default_config s a b false f s2 → known_records s a ≡ []
reads-none s s2 None b f r = refl
reads-none s s2 (Some xs) None f r = absurd r
reads-none s s2 (Some xs) (Some z) f r = records-none s xs (found-none _ f s2 z r)

-- the records of a whole text
pub records-all : (xs : List ℕ) → known_records st.StartRecord (Some xs) ≡ records default_config xs
records-all xs = records-same default_config (length xs + 2) (length xs + 1) st.StartRecord xs (inl (omega arith)) (inl (omega arith))

pub known-same : (s t : State) (a b : Option (List ℕ)) → s ≡ t → a ≡ b → known_records s a ≡ known_records t b
known-same s t a b e f = rw (e, f) refl

-- the bytes of a reader of a slice are known until it fails
source-known : (reader : Reader (Bor (List ℕ))) → has_failed reader ≡ false → (xs : List ℕ) × (source_of slice_bytes reader ≡ Some xs)
source-known reader e = rw e (by _ _ _)
  where
    by : (b : Bool) (x y : List ℕ) → (xs : List ℕ) × ((if b then Some x else Some y) ≡ Some xs)
    by true x y = (x, refl)
    by false x y = (y, refl)

-- after a read the byte order mark makes no difference
settled : (reader : Reader (Bor (List ℕ))) → reader.bom_checked ≡ true → source_of slice_bytes reader ≡ pending_of (slice_bytes reader.rdr) reader
settled reader e = rw e refl

-- what a reader's next read takes from what it has left
pub took : (old new : Reader (Bor (List ℕ))) (found : Bool) (fields : List (List ℕ)) → (has_failed old ≡ false → old.config ≡ default_config)
    → (has_failed old ≡ false → ReadRecord slice_bytes old new found fields) → (has_failed old ≡ true → found ≡ false)
    → MatchBool found (records_left old ≡ fields ∷ records_left new) (records_left old ≡ [])
took old new found fields config read failed = elim (cases_Bool (has_failed old)) [
  | inl gone ↦ rw (failed gone, gone) refl
  | inr on ↦ by found (source-known old on) (settled new (read on).1) (rw (config on) at (read on).0)
]
  where
    by : (found : Bool) → (xs : List ℕ) × (source_of slice_bytes old ≡ Some xs)
        → source_of slice_bytes new ≡ pending_of (slice_bytes new.rdr) new
        → ReadsNext default_config old.state (source_of slice_bytes old) (pending_of (slice_bytes new.rdr) new) found fields new.state
        → MatchBool found (records_left old ≡ fields ∷ records_left new) (records_left old ≡ [])
    by true known after r = reads-some _ _ _ _ known.0 fields known.1 r ∙ ap (λ o. fields ∷ known_records new.state o) (sym after)
    by false known after r = reads-none _ _ _ _ _ r

abbrev ok-or : {E : Type 0} → Result Bool E → Bool
ok-or (Ok x) = x
ok-or (Err e) = true

pub ok-false : {E : Type 0} (found : Bool) → ◌≡◌ {A = Result Bool E} (Ok found) (Ok false) → found ≡ false
ok-false found e = ap ok-or e

-- what a reader has left where its next record was taken and isn't text
pub not-text-left : (old new : Reader (Bor (List ℕ))) (kind : ErrorKind) (pos : Option Position) (error : Utf8Error) → (has_failed old ≡ true → ⊥) → (has_failed old ≡ false → old.config ≡ default_config)
    → (has_failed old ≡ false → ExplainsRead slice_bytes old new true kind) → kind ≡ Kinds.Utf8 pos error
    → (fields : List (List ℕ)) × (rest : List (List (List ℕ))) × (records_left old ≡ fields ∷ rest) × ¬ (AllText fields)
not-text-left old new kind pos error goes config why is = elim (cases_Bool (has_failed old)) [
  | inl gone ↦ absurd (goes gone)
  | inr on ↦
      let (_, fields, took_it, no_text) = rw is at (why on) in
      let known = source-known old on in
      let left = reads-some old.state new.state (source_of slice_bytes old) (pending_of (slice_bytes new.rdr) new) known.0 fields known.1 (rw (config on) at took_it) in
      (fields, known_records new.state (pending_of (slice_bytes new.rdr) new), left, no_text)
]

-- a record that was found is there
pub found-some : (left rest : List (List (List ℕ))) (fields : List (List ℕ)) (found : Bool) → MatchBool found (left ≡ fields ∷ rest) (left ≡ [])
    → MatchBool found ((first : List (List ℕ)) × (more : List (List (List ℕ))) × (left ≡ first ∷ more)) (left ≡ [])
found-some left rest fields true e = (fields, rest, e)
found-some left rest fields false e = e
