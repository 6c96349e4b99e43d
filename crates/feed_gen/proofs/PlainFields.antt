-- Fields of visible ASCII characters but commas and quotation marks, which stand in a table as they are.
use Rattle.std.proofs.Common.{◌≡◌, ◌<◌, ◌∙◌, ℕ, zero, suc, Bool, true, false, List, [], ◌∷◌, arith, ap, get_or, refl, reverse}
use Rattle.std.specs.Prelude.{◌==◌, ◌&&◌, nat_lt, not}
use Rattle.std.specs.List.{list_all, list_any}
use Rattle.std.specs.Str.{is_utf8}
use Rattle.std.proofs.lemmas.Bool.{ne_eqb}
use Rattle.std.proofs.lemmas.Bool.Decides.{nat_tests}
use Rattle.std.proofs.lemmas.List.{reverse-append, reverse-reverse}
use Rattle.std.proofs.lemmas.List.Folds.{list_all-append}
use Rattle.std.proofs.lemmas.Str.{IsUtf8-from_ascii, is_utf8-from_IsUtf8}
use Rattle.csv.specs.Quoting.{needs_byte}
use Rattle.csv.specs.Writing.{default_writer}
use Rattle.feed_tables.specs.Refusals.{is_given}
use Rattle.feed_tables.specs.Fields.{is_blank, trimmed, without_leading}

abbrev pub is_plain_byte : ℕ → Bool
is_plain_byte b = nat_lt 32 b && (nat_lt b 127 && (not (b == 44) && not (b == 34)))

abbrev pub is_plain : List ℕ → Bool
is_plain field = list_all is_plain_byte field

-- each field of a record is plain, and the first one isn't empty
abbrev pub is_plain_record : List (List ℕ) → Bool
is_plain_record [] = false
is_plain_record (first ∷ rest) = is_given first && (is_plain first && list_all is_plain rest)

pub and-left : (a b : Bool) → (a && b) ≡ true → a ≡ true
and-left true b e = refl
and-left false b e = cc e

pub and-right : (a b : Bool) → (a && b) ≡ true → b ≡ true
and-right true b e = e
and-right false b e = cc e

not-true : (b : Bool) → not b ≡ true → b ≡ false
not-true true e = cc e
not-true false e = refl

record PlainByte (b : ℕ) : Type 0 where
  above : 32 < b
  below : b < 127
  no_comma : (b == 44) ≡ false
  no_quote : (b == 34) ≡ false

plain-byte : (b : ℕ) → is_plain_byte b ≡ true → PlainByte b
plain-byte b e =
    let low : nat_lt 32 b ≡ true = and-left _ _ e in
    let rest = and-right (nat_lt 32 b) (nat_lt b 127 && (not (b == 44) && not (b == 34))) e in
    let high : nat_lt b 127 ≡ true = and-left _ _ rest in
    let marks = and-right (nat_lt b 127) (not (b == 44) && not (b == 34)) rest in
    record {
      above = grind (arith, nat_tests);
      below = grind (arith, nat_tests);
      no_comma = not-true _ (and-left _ _ marks);
      no_quote = not-true _ (and-right (not (b == 44)) (not (b == 34)) marks);
    }

needs-nothing : (b : ℕ) → PlainByte b → needs_byte default_writer b ≡ false
needs-nothing b p =
    let feed = ne_eqb b 10 (λ e. omega (arith, p.above)) in
    let return = ne_eqb b 13 (λ e. omega (arith, p.above)) in
    rw (p.no_comma, p.no_quote, return, feed) refl

-- a plain field wants no quotes
pub plain-unquoted : (field : List ℕ) → is_plain field ≡ true → list_any (needs_byte default_writer) field ≡ false
plain-unquoted [] e = refl
plain-unquoted (b ∷ rest) e =
    rw (needs-nothing b (plain-byte b (and-left _ _ e)), plain-unquoted rest (and-right (is_plain_byte b) (is_plain rest) e)) refl

no-blank : (b : ℕ) → PlainByte b → is_blank b ≡ false
no-blank b p =
    let space = ne_eqb b 32 (λ e. omega (arith, p.above)) in
    let tab = ne_eqb b 9 (λ e. omega (arith, p.above)) in
    rw (space, tab) refl

leading-plain : (field : List ℕ) → is_plain field ≡ true → without_leading field ≡ field
unfolding without_leading
leading-plain [] e = refl
leading-plain (b ∷ rest) e = rw (no-blank b (plain-byte b (and-left _ _ e))) refl

plain-reverse : (field : List ℕ) → is_plain field ≡ true → is_plain (reverse field) ≡ true
plain-reverse [] e = refl
plain-reverse (b ∷ rest) e =
    ap (list_all is_plain_byte) (reverse-append (b ∷ []) rest)
    ∙ list_all-append is_plain_byte (reverse rest) (b ∷ [])
    ∙ rw (plain-reverse rest (and-right (is_plain_byte b) (is_plain rest) e), and-left (is_plain_byte b) (is_plain rest) e) refl

-- nothing is taken off the ends of a plain field
pub plain-trimmed : (field : List ℕ) → is_plain field ≡ true → trimmed field ≡ field
plain-trimmed field e =
    ap (λ text. reverse (without_leading (reverse text))) (leading-plain field e)
    ∙ ap reverse (leading-plain (reverse field) (plain-reverse field e))
    ∙ reverse-reverse field

-- a plain field begins with no byte of a byte order mark
pub plain-above : (b : ℕ) (rest : List ℕ) → is_plain (b ∷ rest) ≡ true → (b == 239) ≡ false
plain-above b rest e = ne_eqb b 239 (λ same. omega (arith, (plain-byte b (and-left _ _ e)).below))

ascii : (field : List ℕ) → is_plain field ≡ true → (i : ℕ) → get_or field i 0 < 128
ascii [] e i = omega arith
ascii (b ∷ rest) e zero = omega (arith, (plain-byte b (and-left _ _ e)).below)
ascii (b ∷ rest) e (suc i) = ascii rest (and-right (is_plain_byte b) (is_plain rest) e) i

-- a plain field is a text
pub plain-utf8 : (field : List ℕ) → is_plain field ≡ true → is_utf8 field ≡ true
plain-utf8 field e = is_utf8-from_IsUtf8 field (IsUtf8-from_ascii field (ascii field e))
