-- What surrounds the text of a zone is UTF-8.
use Rattle.std.proofs.Common.{◌≡◌, ◌<◌, ℕ, zero, suc, Bool, List, [], ◌∷◌, true, false, refl, sym, subst, reverse, codes, lit<}
use Rattle.std.specs.Prelude.{◌==◌, ◌&&◌, if◌then◌else◌}
use Rattle.std.specs.Str.{IsAscii, IsUtf8}
use Rattle.std.proofs.lemmas.Bool.{eqb-true}
use Rattle.std.proofs.lemmas.List.{reverse-append, reverse-reverse}
use Rattle.std.proofs.lemmas.Str.{IsUtf8-append, IsUtf8-from_ascii, IsUtf8-nil}
use Rattle.service_days.specs.ZoneTexts.{is_blank, without_leading, without_mark, without_trailing, zone_text}
use Rattle.service_days.proofs.TextTrims.{blank-ascii}

one-ascii : (b : ℕ) → b < 128 → IsUtf8 (b ∷ [])
one-ascii b lt = IsUtf8-from_ascii (b ∷ []) ascii
  where
    ascii : IsAscii (b ∷ [])
    ascii zero = lt
    ascii (suc k) = lit< tt

pub leading-utf8 : (xs : List ℕ) → IsUtf8 (without_leading xs) → IsUtf8 xs
unfolding without_leading
leading-utf8 [] h = IsUtf8-nil
leading-utf8 (b ∷ rest) h = by (is_blank b) refl (leading-utf8 rest) h
  where
    by : (p : Bool) → is_blank b ≡ p → (IsUtf8 (without_leading rest) → IsUtf8 rest) → IsUtf8 (if p then without_leading rest else b ∷ rest) → IsUtf8 (b ∷ rest)
    by true e f u = IsUtf8-append (b ∷ []) rest (one-ascii b (blank-ascii b e)) (f u)
    by false e f u = u

backwards-utf8 : (xs : List ℕ) → IsUtf8 (reverse (without_leading xs)) → IsUtf8 (reverse xs)
unfolding without_leading
backwards-utf8 [] h = h
backwards-utf8 (b ∷ rest) h = by (is_blank b) refl (backwards-utf8 rest) h
  where
    by : (p : Bool) → is_blank b ≡ p → (IsUtf8 (reverse (without_leading rest)) → IsUtf8 (reverse rest)) → IsUtf8 (reverse (if p then without_leading rest else b ∷ rest)) → IsUtf8 (reverse (b ∷ rest))
    by true e f u = subst IsUtf8 (sym (reverse-append (b ∷ []) rest)) (IsUtf8-append (reverse rest) (b ∷ []) (f u) (one-ascii b (blank-ascii b e)))
    by false e f u = u

pub trailing-utf8 : (xs : List ℕ) → IsUtf8 (without_trailing xs) → IsUtf8 xs
trailing-utf8 xs h = subst IsUtf8 (reverse-reverse xs) (backwards-utf8 (reverse xs) h)

mark : IsUtf8 (239 ∷ 187 ∷ 191 ∷ [])
unfolding lib.Utf8.encode
mark = (65279 ∷ [], (refl, refl))

pub mark-utf8 : (xs : List ℕ) → IsUtf8 (without_mark xs) → IsUtf8 xs
unfolding without_mark
mark-utf8 [] h = h
mark-utf8 (a ∷ []) h = h
mark-utf8 (a ∷ b ∷ []) h = h
mark-utf8 (a ∷ b ∷ c ∷ rest) h = by (a == 239) (b == 187) (c == 191) (eqb-true a 239) (eqb-true b 187) (eqb-true c 191) h
  where
    by : (p q r : Bool) → (p ≡ true → a ≡ 239) → (q ≡ true → b ≡ 187) → (r ≡ true → c ≡ 191) → IsUtf8 (if p && q && r then rest else a ∷ b ∷ c ∷ rest) → IsUtf8 (a ∷ b ∷ c ∷ rest)
    by true true true f g i u =
        let x = f refl in let y = g refl in let z = i refl in
        let same : 239 ∷ 187 ∷ 191 ∷ rest ≡ a ∷ b ∷ c ∷ rest = cc in
        subst IsUtf8 same (IsUtf8-append (239 ∷ 187 ∷ 191 ∷ []) rest mark u)
    by true true false f g i u = u
    by true false r f g i u = u
    by false q r f g i u = u

-- bytes of which a UTF-8 text is left are UTF-8
pub text-utf8 : (bytes : List ℕ) → IsUtf8 (zone_text bytes) → IsUtf8 bytes
text-utf8 bytes h = mark-utf8 bytes (leading-utf8 (without_mark bytes) (trailing-utf8 (without_leading (without_mark bytes)) h))

utc-ascii : IsUtf8 (codes "UTC0")
unfolding lib.Utf8.encode
utc-ascii = (codes "UTC0", (refl, refl))

pub utc-utf8 : (bytes : List ℕ) → zone_text bytes ≡ codes "UTC0" → IsUtf8 bytes
utc-utf8 bytes e = text-utf8 bytes (subst IsUtf8 (sym e) utc-ascii)
