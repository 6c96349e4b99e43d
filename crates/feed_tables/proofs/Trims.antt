-- One blank more or less at an end of a field.
use Rattle.std.proofs.Common.{◌≡◌, ◌<◌, ◌≤◌, ◌+◌, ◌-◌, ℕ, zero, suc, Bool, List, [], ◌∷◌, ◌++◌, take, drop, length, get_or, true, false, refl, sym, ap, subst, ◌∙◌, reverse, arith}
use Rattle.std.specs.Prelude.{IsUtf8, ◌==◌, ◌||◌}
use Rattle.std.specs.Str.{IsCharBoundary}
use Rattle.std.proofs.lemmas.Bool.{eqb-true}
use Rattle.std.proofs.lemmas.Str.{IsCharBoundary-after_ascii, IsCharBoundary-start}
use Rattle.std.proofs.lemmas.List.{drop_all, drop_more, reverse-append, reverse-reverse, take_more}
use Rattle.feed_tables.specs.Fields.{is_blank, without_leading, without_trailing}

-- a blank at the start goes, and any other byte stays
pub leading-blank : (xs : List ℕ) (i : ℕ) → i < length xs → is_blank (get_or xs i 0) ≡ true → without_leading (drop i xs) ≡ without_leading (drop (i + 1) xs)
unfolding without_leading
leading-blank xs i lt e = rw (drop_more xs i 0 lt, e) refl

pub leading-other : (xs : List ℕ) (i : ℕ) → i < length xs → is_blank (get_or xs i 0) ≡ false → without_leading (drop i xs) ≡ drop i xs
unfolding without_leading
leading-other xs i lt e = rw (drop_more xs i 0 lt, e) refl

-- the same at the end
one-more : (xs : List ℕ) (n : ℕ) → 0 < n → n ≤ length xs → take n xs ≡ take (n - 1) xs ++ get_or xs (n - 1) 0 ∷ []
one-more xs n low high =
    let step : n ≡ (n - 1) + 1 = omega arith in
    ap (λ k. take k xs) step ∙ take_more xs (n - 1) 0 (omega arith)

pub trailing-blank : (xs : List ℕ) (n : ℕ) → 0 < n → n ≤ length xs → is_blank (get_or xs (n - 1) 0) ≡ true → without_trailing (take n xs) ≡ without_trailing (take (n - 1) xs)
unfolding without_leading
trailing-blank xs n low high e = rw (one-more xs n low high, reverse-append (take (n - 1) xs) (get_or xs (n - 1) 0 ∷ []), e) refl

pub trailing-other : (xs : List ℕ) (n : ℕ) → 0 < n → n ≤ length xs → is_blank (get_or xs (n - 1) 0) ≡ false → without_trailing (take n xs) ≡ take n xs
unfolding without_leading
trailing-other xs n low high e = rw (one-more xs n low high, reverse-append (take (n - 1) xs) (get_or xs (n - 1) 0 ∷ []), e) (back (take (n - 1) xs) (get_or xs (n - 1) 0))
  where
    back : (ys : List ℕ) (y : ℕ) → reverse (y ∷ reverse ys) ≡ ys ++ y ∷ []
    back ys y = ap reverse (sym (reverse-append ys (y ∷ []))) ∙ reverse-reverse (ys ++ y ∷ [])

pub trailing-end : without_trailing [] ≡ []
unfolding without_leading
trailing-end = refl

-- nothing is left at the end
pub leading-end : (xs : List ℕ) (i : ℕ) → length xs ≤ i → without_leading (drop i xs) ≡ drop i xs
unfolding without_leading
leading-end xs i h = rw (drop_all i xs h) refl

-- a blank is ASCII
pub blank-ascii : (b : ℕ) → is_blank b ≡ true → b < 128
blank-ascii b e = by (b == 32) (b == 9) (eqb-true b 32) (eqb-true b 9) e
  where
    by : (p q : Bool) → (p ≡ true → b ≡ 32) → (q ≡ true → b ≡ 9) → (p || q) ≡ true → b < 128
    by true q f g h = omega (arith, f refl)
    by false true f g h = omega (arith, g refl)
    by false false f g h = cc h

-- what a field has after the blanks at its start begins between two characters
pub leading-between : (field : List ℕ) (start : ℕ) → IsUtf8 field → start ≤ length field → (0 < start → is_blank (get_or field (start - 1) 0) ≡ true) → IsCharBoundary field start
leading-between field zero utf8 high blank = IsCharBoundary-start field utf8
leading-between field (suc k) utf8 high blank =
    let at : suc k - 1 ≡ k = omega arith in
    let next : k + 1 ≡ suc k = omega arith in
    let ascii = blank-ascii (get_or field k 0) (ap (λ n. is_blank (get_or field n 0)) (sym at) ∙ blank (omega arith)) in
    subst (IsCharBoundary field) next (IsCharBoundary-after_ascii field k utf8 (omega (arith, high)) ascii)
