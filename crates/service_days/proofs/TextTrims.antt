-- The mark at the start of a zone's text, and one blank more or less at its ends.
use Rattle.std.proofs.Common.{◌≡◌, ◌<◌, ◌≤◌, ◌+◌, ◌-◌, ℕ, zero, suc, Bool, List, [], ◌∷◌, ◌++◌, take, drop, length, get_or, true, false, refl, sym, ap, subst, ◌∙◌, reverse, arith}
use Rattle.std.specs.Prelude.{◌==◌, ◌||◌, ◌&&◌, if◌then◌else◌}
use Rattle.std.specs.Str.{IsUtf8, IsCharBoundary}
use Rattle.std.proofs.lemmas.Bool.{eqb-true}
use Rattle.std.proofs.lemmas.Str.{IsCharBoundary-after_ascii, IsCharBoundary-start}
use Rattle.std.proofs.lemmas.List.{drop_all, drop_more, reverse-append, reverse-reverse, take_more}
use Rattle.service_days.specs.ZoneTexts.{is_blank, without_leading, without_mark, without_trailing}

-- a blank at the start goes, and any other byte stays
pub leading-blank : (xs : List ℕ) (i : ℕ) → i < length xs → is_blank (get_or xs i 0) ≡ true → without_leading (drop i xs) ≡ without_leading (drop (i + 1) xs)
unfolding without_leading
leading-blank xs i lt e = rw (drop_more xs i 0 lt, e) refl

pub leading-other : (xs : List ℕ) (i : ℕ) → i < length xs → is_blank (get_or xs i 0) ≡ false → without_leading (drop i xs) ≡ drop i xs
unfolding without_leading
leading-other xs i lt e = rw (drop_more xs i 0 lt, e) refl

-- the same at the end
one-more : (xs : List ℕ) (n : ℕ) → 0 < n → n ≤ length xs → take n xs ≡ take (n - 1) xs ++ get_or xs (n - 1) 0 ∷ []
one-more xs n low high =
    let step : n ≡ (n - 1) + 1 = omega arith in
    ap (λ k. take k xs) step ∙ take_more xs (n - 1) 0 (omega arith)

pub trailing-blank : (xs : List ℕ) (n : ℕ) → 0 < n → n ≤ length xs → is_blank (get_or xs (n - 1) 0) ≡ true → without_trailing (take n xs) ≡ without_trailing (take (n - 1) xs)
unfolding without_leading
trailing-blank xs n low high e = rw (one-more xs n low high, reverse-append (take (n - 1) xs) (get_or xs (n - 1) 0 ∷ []), e) refl

pub trailing-other : (xs : List ℕ) (n : ℕ) → 0 < n → n ≤ length xs → is_blank (get_or xs (n - 1) 0) ≡ false → without_trailing (take n xs) ≡ take n xs
unfolding without_leading
trailing-other xs n low high e = rw (one-more xs n low high, reverse-append (take (n - 1) xs) (get_or xs (n - 1) 0 ∷ []), e) (back (take (n - 1) xs) (get_or xs (n - 1) 0))
  where
    back : (ys : List ℕ) (y : ℕ) → reverse (y ∷ reverse ys) ≡ ys ++ y ∷ []
    back ys y = ap reverse (sym (reverse-append ys (y ∷ []))) ∙ reverse-reverse (ys ++ y ∷ [])

pub trailing-end : without_trailing [] ≡ []
unfolding without_leading
trailing-end = refl

-- nothing is left at the end
pub leading-end : (xs : List ℕ) (i : ℕ) → length xs ≤ i → without_leading (drop i xs) ≡ drop i xs
unfolding without_leading
leading-end xs i h = rw (drop_all i xs h) refl

-- a blank is ASCII
pub blank-ascii : (b : ℕ) → is_blank b ≡ true → b < 128
blank-ascii b e = by (b == 32) (b == 9) (b == 10) (b == 13) (eqb-true b 32) (eqb-true b 9) (eqb-true b 10) (eqb-true b 13) e
  where
    by : (p q r s : Bool) → (p ≡ true → b ≡ 32) → (q ≡ true → b ≡ 9) → (r ≡ true → b ≡ 10) → (s ≡ true → b ≡ 13) → (p || q || r || s) ≡ true → b < 128
    by true q r s f g h i e = omega (arith, f refl)
    by false true r s f g h i e = omega (arith, g refl)
    by false false true s f g h i e = omega (arith, h refl)
    by false false false true f g h i e = omega (arith, i refl)
    by false false false false f g h i e = cc e

-- what a text has after the blanks at its start begins between two characters
pub leading-between : (text : List ℕ) (start : ℕ) → IsUtf8 text → start ≤ length text → (0 < start → is_blank (get_or text (start - 1) 0) ≡ true) → IsCharBoundary text start
leading-between text zero utf8 high blank = IsCharBoundary-start text utf8
leading-between text (suc k) utf8 high blank =
    let at : suc k - 1 ≡ k = omega arith in
    let next : k + 1 ≡ suc k = omega arith in
    let ascii = blank-ascii (get_or text k 0) (ap (λ n. is_blank (get_or text n 0)) (sym at) ∙ blank (omega arith)) in
    subst (IsCharBoundary text) next (IsCharBoundary-after_ascii text k utf8 (omega (arith, high)) ascii)

-- a text that has the mark, and one that hasn't
pub mark-goes : (text rest : List ℕ) → text ≡ 239 ∷ 187 ∷ 191 ∷ rest → rest ≡ without_mark text
unfolding without_mark
mark-goes text rest e = rw e refl

pub no-mark-stays : (text : List ℕ) → ((rest : List ℕ) → text ≡ 239 ∷ 187 ∷ 191 ∷ rest → ⊥) → text ≡ without_mark text
unfolding without_mark
no-mark-stays [] unmarked = refl
no-mark-stays (a ∷ []) unmarked = refl
no-mark-stays (a ∷ b ∷ []) unmarked = refl
no-mark-stays (a ∷ b ∷ c ∷ rest) unmarked = by (a == 239) (b == 187) (c == 191) (eqb-true a 239) (eqb-true b 187) (eqb-true c 191)
  where
    by : (p q r : Bool) → (p ≡ true → a ≡ 239) → (q ≡ true → b ≡ 187) → (r ≡ true → c ≡ 191) → a ∷ b ∷ c ∷ rest ≡ (if p && q && r then rest else a ∷ b ∷ c ∷ rest)
    by true true true f g h = let x = f refl in let y = g refl in let z = h refl in absurd (unmarked rest (cc))
    by true true false f g h = refl
    by true false r f g h = refl
    by false q r f g h = refl
