-- Blanks at the ends of a field, and what makes it UTF-8.
use Rattle.std.proofs.Common.{◌≡◌, ◌<◌, ◌⊎◌, inl, inr, ℕ, zero, suc, Bool, List, [], ◌∷◌, get_or, map, true, false, refl, sym, subst, reverse, arith}
use Rattle.std.specs.Prelude.{IsUtf8, ◌&&◌}
use Rattle.std.specs.List.{list_all}
use Rattle.std.specs.Str.{is_utf8}
use Rattle.std.proofs.lemmas.Bool.{cases_Bool}
use Rattle.std.proofs.lemmas.List.{reverse-append, reverse-reverse}
use Rattle.std.proofs.lemmas.Str.{IsUtf8-append, IsUtf8-from_ascii, IsUtf8-from_is_utf8}
use Rattle.csv.specs.Records.{AllText}
use Rattle.feed_tables.specs.Fields.{is_blank, trimmed, without_leading}
use Rattle.feed_tables.proofs.Trims.{blank-ascii}

-- a blank is a text by itself
blank-utf8 : (b : ℕ) → is_blank b ≡ true → IsUtf8 (b ∷ [])
blank-utf8 b e = IsUtf8-from_ascii (b ∷ []) at
  where
    at : (i : ℕ) → get_or (b ∷ []) i 0 < 128
    at zero = blank-ascii b e
    at (suc i) = omega arith

-- blanks at the start
leading-utf8 : (field : List ℕ) → IsUtf8 (without_leading field) → IsUtf8 field
unfolding without_leading
leading-utf8 [] u = u
leading-utf8 (b ∷ rest) u = by (cases_Bool (is_blank b)) (leading-utf8 rest)
  where
    by : (is_blank b ≡ true) ⊎ (is_blank b ≡ false) → (IsUtf8 (without_leading rest) → IsUtf8 rest) → IsUtf8 (b ∷ rest)
    by (inl e) more = IsUtf8-append (b ∷ []) rest (blank-utf8 b e) (more (rw e at u))
    by (inr e) more = rw e at u

-- and at the end
backwards-utf8 : (field : List ℕ) → IsUtf8 (reverse (without_leading field)) → IsUtf8 (reverse field)
unfolding without_leading
backwards-utf8 [] u = u
backwards-utf8 (b ∷ rest) u = by (cases_Bool (is_blank b)) (backwards-utf8 rest)
  where
    by : (is_blank b ≡ true) ⊎ (is_blank b ≡ false) → (IsUtf8 (reverse (without_leading rest)) → IsUtf8 (reverse rest)) → IsUtf8 (reverse (b ∷ rest))
    by (inl e) more = subst IsUtf8 (sym (reverse-append (b ∷ []) rest)) (IsUtf8-append (reverse rest) (b ∷ []) (more (rw e at u)) (blank-utf8 b e))
    by (inr e) more = rw e at u

-- a field is UTF-8 where it is so without its blanks
pub trimmed-utf8 : (field : List ℕ) → IsUtf8 (trimmed field) → IsUtf8 field
trimmed-utf8 field u =
    let start = without_leading field in
    leading-utf8 field (subst IsUtf8 (reverse-reverse start) (backwards-utf8 (reverse start) u))

-- so a record with a field that isn't UTF-8 has one without its blanks
pub not-text : (fields : List (List ℕ)) → ¬ (AllText fields) → list_all is_utf8 (map trimmed fields) ≡ false
unfolding AllText
not-text fields h = elim (cases_Bool (list_all is_utf8 (map trimmed fields))) [ inl e ↦ absurd (h (all fields e)) | inr e ↦ e ]
  where
    all : (fields : List (List ℕ)) → list_all is_utf8 (map trimmed fields) ≡ true → AllText fields
    all [] e = tt
    all (f ∷ fs) e = by (is_utf8 (trimmed f)) refl e (all fs)
      where
        by : (b : Bool) → is_utf8 (trimmed f) ≡ b → (b && list_all is_utf8 (map trimmed fs)) ≡ true → (list_all is_utf8 (map trimmed fs) ≡ true → AllText fs) → AllText (f ∷ fs)
        by true u h more = (trimmed-utf8 f (IsUtf8-from_is_utf8 (trimmed f) u), more h)
        by false u h more = cc h
