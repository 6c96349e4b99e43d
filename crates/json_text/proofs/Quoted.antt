-- A string between its quotation marks.
use Rattle.std.proofs.Common.{◌≡◌, ℕ, zero, suc, Bool, true, false, Option, Some, None, List, [], ◌∷◌, ◌++◌, refl, arith, ◌+◌, ◌-◌, ◌≤◌, ◌<◌, length, drop, take, get_or, length-append, length-drop, append_assoc, slice_range}
use Rattle.std.proofs.lemmas.List.{get_or-drop}
use Rattle.std.proofs.lemmas.Str.{IsCharBoundary-before_ascii, IsCharBoundary-after_ascii}
use Rattle.std.specs.Str.{IsCharBoundary, IsUtf8}
use Rattle.json_text.specs.Content.{HasStringAt}
use Rattle.json_text.specs.Byte.{is_digit, is_first_digit}
use Rattle.json_text.specs.Grammar.{digit_bytes, exponent_bytes, fraction_bytes, letter_byte, mark_bytes, minus_bytes, number_bytes, sign_bytes, whole_bytes}
use Rattle.json_text.specs.Node.{number_text}
use Rattle.json_text.specs.Placed.{IsQuoted, StandsAt}
use Rattle.json_text.specs.Syntax.{Digit, Digits, Exponent, ExponentLetter, lower, upper, Mark, plain, escape, unit, Number, Sign, unsigned, plus, minus, Whole, nought, positive}
use Rattle.json_text.proofs.Lengths.{marks_split, number_splits}
use mathlib.Core.Path.{subst, ap, sym, ◌∙◌}

-- The last byte of a string is a quotation mark.
pub record MarksEnd (marks : List Mark) : Type 0 where
  pub raw : List ℕ
  pub whole : mark_bytes marks [] ≡ raw ++ (34 ∷ [])

pub marks_end : (marks : List Mark) → MarksEnd marks
marks_end [] = record { raw = []; whole = refl }
marks_end (plain x p ∷ marks) = let k = marks_end marks in record { raw = x ∷ k.raw; whole = ap (λ z. x ∷ z) k.whole }
marks_end (escape x p ∷ marks) = let k = marks_end marks in record { raw = 92 ∷ x ∷ k.raw; whole = ap (λ z. 92 ∷ x ∷ z) k.whole }
marks_end (unit a b c d ∷ marks) =
    let k = marks_end marks in
    record { raw = 92 ∷ 117 ∷ a.byte ∷ b.byte ∷ c.byte ∷ d.byte ∷ k.raw; whole = ap (λ z. 92 ∷ 117 ∷ a.byte ∷ b.byte ∷ c.byte ∷ d.byte ∷ z) k.whole }

take_first : (xs ys : List ℕ) (n : ℕ) → n ≡ length xs → take n (xs ++ ys) ≡ xs
take_first [] [] zero e = refl
take_first [] (y ∷ ys) zero e = refl
take_first [] ys (suc n) e = absurd (omega (arith, e))
take_first (x ∷ xs) ys zero e = absurd (omega (arith, e))
take_first (x ∷ xs) ys (suc n) e = ap (λ z. x ∷ z) (take_first xs ys n (omega (arith, e)))

get_behind : (xs ys : List ℕ) (n y : ℕ) → n ≡ length xs → get_or (xs ++ (y ∷ ys)) n 0 ≡ y
get_behind [] ys zero y e = refl
get_behind [] ys (suc n) y e = absurd (omega (arith, e))
get_behind (x ∷ xs) ys zero y e = absurd (omega (arith, e))
get_behind (x ∷ xs) ys (suc n) y e = get_behind xs ys n y (omega (arith, e))

-- What a string tells of the bytes.
pub record QuotedFacts (bytes : List ℕ) (marks : List Mark) (place last : ℕ) : Type 0 where
  pub order : place + 1 ≤ last
  pub within : last < length bytes
  pub first : get_or bytes place 0 ≡ 34
  pub end : get_or bytes last 0 ≡ 34
  pub raw : mark_bytes marks [] ≡ slice_range bytes (place + 1) last ++ (34 ∷ [])

drop_one : (n : ℕ) (xs : List ℕ) (x : ℕ) (rest : List ℕ) → drop n xs ≡ x ∷ rest → drop (n + 1) xs ≡ rest
drop_one zero [] x rest e = absurd (omega (arith, ap length e))
drop_one zero (y ∷ xs) x rest e = ap (drop 1) e
drop_one (suc n) [] x rest e = absurd (omega (arith, ap length e))
drop_one (suc n) (y ∷ xs) x rest e = let f : suc n + 1 ≡ suc (n + 1) = omega arith in ap (λ k. drop k (y ∷ xs)) f ∙ drop_one n xs x rest e

pub quoted_facts : (bytes : List ℕ) (marks : List Mark) (place last : ℕ) → IsQuoted bytes marks place last → QuotedFacts bytes marks place last
quoted_facts bytes marks place last q =
    let k = marks_end marks in
    let rest = q.stands.rest in
    let all : drop place bytes ≡ 34 ∷ (k.raw ++ (34 ∷ rest)) =
    q.stands.bytes ∙ ap (λ z. 34 ∷ z) (marks_split marks rest ∙ ap (λ z. z ++ rest) k.whole ∙ append_assoc k.raw (34 ∷ []) rest) in
    let long : length (mark_bytes marks []) ≡ length k.raw + 1 = ap length k.whole ∙ length-append k.raw (34 ∷ []) in
    let count : length (drop place bytes) ≡ suc (length k.raw + suc (length rest)) = ap length all ∙ ap suc (length-append k.raw (34 ∷ rest)) in
    let behind : drop (place + 1) bytes ≡ k.raw ++ (34 ∷ rest) = drop_one place bytes 34 _ all in
    let zeroth : place + 0 ≡ place = omega arith in
    let lasts : (place + 1) + length k.raw ≡ last = omega (arith, q.end, long) in
    record {
      order = omega (arith, lasts);
      within = omega (arith, lasts, count, length-drop place bytes);
      first = sym (get_or-drop place bytes 0 0 ∙ ap (λ n. get_or bytes n 0) zeroth) ∙ ap (λ z. get_or z 0 0) all;
      end = ap (λ n. get_or bytes n 0) (sym lasts) ∙ sym (get_or-drop (place + 1) bytes (length k.raw) 0) ∙ ap (λ z. get_or z (length k.raw) 0) behind
          ∙ get_behind k.raw rest (length k.raw) 34 refl;
      raw = k.whole ∙ ap (λ z. z ++ (34 ∷ [])) (sym (ap (take (last - (place + 1))) behind ∙ take_first k.raw (34 ∷ rest) (last - (place + 1)) (omega (arith, lasts))));
    }

pub string_facts : (bytes : List ℕ) (place last : ℕ) (has : HasStringAt bytes place last) → QuotedFacts bytes has.0 place last
string_facts bytes place last has = quoted_facts bytes has.0 place last has.1

pub before_last : (bytes : List ℕ) (place last : ℕ) → HasStringAt bytes place last → IsCharBoundary bytes last
before_last bytes place last has = let k = string_facts bytes place last has in IsCharBoundary-before_ascii bytes last k.within (omega (arith, k.end))

pub after_first : (bytes : List ℕ) (place last : ℕ) → IsUtf8 bytes → HasStringAt bytes place last → IsCharBoundary bytes (place + 1)
after_first bytes place last utf8 has =
    let k = string_facts bytes place last has in IsCharBoundary-after_ascii bytes place utf8 (omega (arith, k.within, k.order)) (omega (arith, k.first))

-- A number begins and ends with a byte of ASCII.
pub record NumberFacts (bytes : List ℕ) (n : Number) (place last : ℕ) : Type 0 where
  pub order : place ≤ last
  pub start : IsCharBoundary bytes place
  pub end : IsUtf8 bytes → IsCharBoundary bytes last
  pub text : slice_range bytes place last ≡ number_text n

digit_small : (b : ℕ) → is_digit b ≡ true → b < 128
digit_small b e = grind (arith, e)

first_small : (b : ℕ) → is_first_digit b ≡ true → b < 128
first_small b e = grind (arith, e)

-- bytes, each of which is one of ASCII, and then others
abbrev Small : List ℕ → Type 0
Small [] = Unit {0}
Small (x ∷ xs) = (x < 128) × Small xs

small_digits : (digits : List Digit) (rest : List ℕ) → Small rest → Small (digit_bytes digits rest)
small_digits [] rest s = s
small_digits (d ∷ digits) rest s = (digit_small d.byte d.digit, small_digits digits rest s)

small_exponent : (exponent : Option Exponent) → Small (exponent_bytes exponent [])
small_exponent None = tt
small_exponent (Some e) = (letter e.letter, sign e.sign _ (digit_small e.digits.first.byte e.digits.first.digit, small_digits e.digits.more [] tt))
  where
    letter : (l : ExponentLetter) → letter_byte l < 128
    letter lower = omega arith
    letter upper = omega arith

    sign : (x : Sign) (rest : List ℕ) → Small rest → Small (sign_bytes x rest)
    sign unsigned rest s = s
    sign plus rest s = (omega arith, s)
    sign minus rest s = (omega arith, s)

small_fraction : (fraction : Option Digits) (rest : List ℕ) → Small rest → Small (fraction_bytes fraction rest)
small_fraction None rest s = s
small_fraction (Some d) rest s = (omega arith, (digit_small d.first.byte d.first.digit, small_digits d.more rest s))

small_whole : (whole : Whole) (rest : List ℕ) → Small rest → Small (whole_bytes whole rest)
small_whole nought rest s = (omega arith, s)
small_whole (positive first more) rest s = (first_small first.byte first.digit, small_digits more rest s)

small_number : (negative : Bool) (rest : List ℕ) → Small rest → Small (minus_bytes negative rest)
small_number true rest s = (omega arith, s)
small_number false rest s = s

pub number_small : (n : Number) → Small (number_bytes n [])
number_small n = small_number n.negative _ (small_whole n.whole _ (small_fraction n.fraction _ (small_exponent n.exponent)))

small_at : (xs : List ℕ) (i : ℕ) → Small xs → i < length xs → get_or xs i 0 < 128
small_at [] i s r = absurd (omega (arith, r))
small_at (x ∷ xs) zero s r = s.0
small_at (x ∷ xs) (suc i) s r = small_at xs i s.1 (omega (arith, r))

get_in : (xs ys : List ℕ) (i : ℕ) → i < length xs → get_or (xs ++ ys) i 0 ≡ get_or xs i 0
get_in [] ys i r = absurd (omega (arith, r))
get_in (x ∷ xs) ys zero r = refl
get_in (x ∷ xs) ys (suc i) r = get_in xs ys i (omega (arith, r))

number_some : (n : Number) → 0 < length (number_bytes n [])
number_some n = by n.negative n.whole
  where
    by : (negative : Bool) (whole : Whole) → 0 < length (minus_bytes negative (whole_bytes whole (fraction_bytes n.fraction (exponent_bytes n.exponent []))))
    by true whole = omega arith
    by false nought = omega arith
    by false (positive first more) = omega arith

pub number_facts : (bytes : List ℕ) (n : Number) (place last : ℕ) → StandsAt bytes (number_bytes n) place → last ≡ place + length (number_bytes n []) → NumberFacts bytes n place last
number_facts bytes n place last t e =
    let own = number_bytes n [] in
    let all : drop place bytes ≡ own ++ t.rest = t.bytes ∙ number_splits n t.rest in
    let count : length (drop place bytes) ≡ length own + length t.rest = ap length all ∙ length-append own t.rest in
    let some : 0 < length own = number_some n in
    record {
      order = omega (arith, e);
      start = IsCharBoundary-before_ascii bytes place (omega (arith, count, some, length-drop place bytes))
          (subst (λ z. z < 128) (same own t.rest 0 all place (omega arith) some) (small_at own 0 (number_small n) some));
      end = λ utf8. subst (IsCharBoundary bytes) (omega (arith, e, some))
          (IsCharBoundary-after_ascii bytes (last - 1) utf8 (omega (arith, count, some, e, length-drop place bytes))
          (subst (λ z. z < 128) (same own t.rest (length own - 1) all (last - 1) (omega (arith, e, some)) (omega (arith, some))) (small_at own (length own - 1) (number_small n) (omega (arith, some)))));
      text = ap (take (last - place)) all ∙ take_first own t.rest (last - place) (omega (arith, e));
    }
  where
    same : (own rest : List ℕ) (i : ℕ) → drop place bytes ≡ own ++ rest → (j : ℕ) → place + i ≡ j → i < length own → get_or own i 0 ≡ get_or bytes j 0
    same own rest i all j f r = sym (get_in own rest i r) ∙ sym (ap (λ z. get_or z i 0) all) ∙ get_or-drop place bytes i 0 ∙ ap (λ k. get_or bytes k 0) f
