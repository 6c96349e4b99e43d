-- What stands in a string, mark by mark.
use Rattle.std.proofs.Common.{◌≡◌, ℕ, zero, suc, Bool, true, false, ◌&&◌, List, [], ◌∷◌, ◌++◌, refl, arith, ◌+◌, ◌-◌, ◌*◌, ◌≤◌, ◌<◌, ◌⊎◌, inl, inr, length, drop, take, get_or, length-append, length-drop, append_assoc, encode_utf8, slice_range}
use Rattle.std.proofs.lemmas.List.{drop-append-le, drop-drop, get_or-drop}
use Rattle.std.proofs.lemmas.List.Folds.{drop_split}
use Rattle.std.proofs.lemmas.Str.{encode_ascii, IsCharBoundary-start, IsCharBoundary-end, IsCharBoundary-before_ascii, IsCharBoundary-after_ascii}
use Rattle.std.specs.Str.{IsCharBoundary, IsUtf8}
use Rattle.json_text.specs.Byte.{is_plain, is_escape, is_hex_digit}
use Rattle.json_text.specs.Grammar.{mark_bytes}
use Rattle.json_text.specs.StringText.{string_text, text_after_unit, unit_value, hex_value, escaped_byte, is_high, is_low, alone, paired}
use Rattle.json_text.specs.Syntax.{HexDigit, Mark, plain, escape, unit}
use Rattle.json_text.specs.Unescaping.{HasMarks, ReadsAs, Passes, unit_at, IsLowAt, LacksLow, IsUnescaping}
use mathlib.Core.Path.{subst, ap, sym, ◌∙◌}

marks_length : (marks : List Mark) → 0 < length (mark_bytes marks [])
marks_length [] = omega arith
marks_length (plain b p ∷ marks) = omega arith
marks_length (escape b p ∷ marks) = omega arith
marks_length (unit x y z w ∷ marks) = omega arith

get_before : (xs ys : List ℕ) (i : ℕ) → i < length xs → get_or (xs ++ ys) i 0 ≡ get_or xs i 0
get_before [] ys i r = absurd (omega (arith, r))
get_before (x ∷ xs) ys zero r = refl
get_before (x ∷ xs) ys (suc i) r = get_before xs ys i (omega (arith, r))

-- A backslash and a letter.
pub record IsEscape (marks : List Mark) (xs : List ℕ) : Type 0 where
  pub letter : ℕ
  pub escapes : is_escape letter ≡ true
  pub rest : List Mark
  pub is : marks ≡ escape letter escapes ∷ rest
  pub value : get_or xs 1 0 ≡ letter
  pub within : 2 ≤ length xs
  pub bytes : mark_bytes rest [] ≡ drop 2 xs ++ (34 ∷ [])

-- A backslash and a number.
pub record IsUnit (marks : List Mark) (xs : List ℕ) : Type 0 where
  pub a : HexDigit
  pub b : HexDigit
  pub c : HexDigit
  pub d : HexDigit
  pub rest : List Mark
  pub is : marks ≡ unit a b c d ∷ rest
  pub letter : get_or xs 1 0 ≡ 117
  pub value_a : get_or xs 2 0 ≡ a.byte
  pub value_b : get_or xs 3 0 ≡ b.byte
  pub value_c : get_or xs 4 0 ≡ c.byte
  pub value_d : get_or xs 5 0 ≡ d.byte
  pub within : 6 ≤ length xs
  pub bytes : mark_bytes rest [] ≡ drop 6 xs ++ (34 ∷ [])

at_index : (all xs : List ℕ) (i : ℕ) → all ≡ xs ++ (34 ∷ []) → i < length xs → get_or xs i 0 ≡ get_or all i 0
at_index all xs i e r = sym (ap (λ z. get_or z i 0) e ∙ get_before xs (34 ∷ []) i r)

behind : (all xs : List ℕ) (n : ℕ) → all ≡ xs ++ (34 ∷ []) → n ≤ length xs → drop n all ≡ drop n xs ++ (34 ∷ [])
behind all xs n e r = ap (drop n) e ∙ drop-append-le n xs (34 ∷ []) r

lengths : (all xs : List ℕ) → all ≡ xs ++ (34 ∷ []) → length all ≡ length xs + 1
lengths all xs e = ap length e ∙ length-append xs (34 ∷ [])

pub after_backslash : (marks : List Mark) (xs : List ℕ) → mark_bytes marks [] ≡ xs ++ (34 ∷ []) → 0 < length xs → get_or xs 0 0 ≡ 92 → IsEscape marks xs ⊎ IsUnit marks xs
after_backslash [] xs e r b = absurd (omega (arith, lengths _ xs e, r))
after_backslash (plain x p ∷ marks) xs e r b = absurd (not_plain x p (sym (at_index _ xs 0 e r) ∙ b))
  where
    not_plain : (x : ℕ) → is_plain x ≡ true → x ≡ 92 → ⊥
    not_plain x p e = grind (arith, subst (λ n. is_plain n ≡ true) e p)
after_backslash (escape x p ∷ marks) xs e r b =
    let two : 2 ≤ length xs = omega (arith, lengths _ xs e, marks_length marks) in
    inl (record { letter = x; escapes = p; rest = marks; is = refl; value = at_index _ xs 1 e (omega (arith, two)); within = two; bytes = behind _ xs 2 e two })
after_backslash (unit x y z w ∷ marks) xs e r b =
    let six : 6 ≤ length xs = omega (arith, lengths _ xs e, marks_length marks) in
    inr (record {
      a = x;
      b = y;
      c = z;
      d = w;
      rest = marks;
      is = refl;
      letter = at_index _ xs 1 e (omega (arith, six));
      value_a = at_index _ xs 2 e (omega (arith, six));
      value_b = at_index _ xs 3 e (omega (arith, six));
      value_c = at_index _ xs 4 e (omega (arith, six));
      value_d = at_index _ xs 5 e (omega (arith, six));
      within = six;
      bytes = behind _ xs 6 e six;
    })

-- The same by indices into the string.
pub record EscapeAt (marks : List Mark) (raw : List ℕ) (at : ℕ) : Type 0 where
  pub letter : ℕ
  pub escapes : is_escape letter ≡ true
  pub rest : List Mark
  pub is : marks ≡ escape letter escapes ∷ rest
  pub value : get_or raw (at + 1) 0 ≡ letter
  pub within : at + 2 ≤ length raw
  pub bytes : mark_bytes rest [] ≡ drop (at + 2) raw ++ (34 ∷ [])

pub record UnitAt (marks : List Mark) (raw : List ℕ) (at : ℕ) : Type 0 where
  pub a : HexDigit
  pub b : HexDigit
  pub c : HexDigit
  pub d : HexDigit
  pub rest : List Mark
  pub is : marks ≡ unit a b c d ∷ rest
  pub letter : get_or raw (at + 1) 0 ≡ 117
  pub value : unit_value a b c d ≡ unit_at raw (at + 2)
  pub last : get_or raw (at + 5) 0 ≡ d.byte
  pub within : at + 6 ≤ length raw
  pub bytes : mark_bytes rest [] ≡ drop (at + 6) raw ++ (34 ∷ [])

indexed : (raw : List ℕ) (at i j x : ℕ) → at + i ≡ j → get_or (drop at raw) i 0 ≡ x → get_or raw j 0 ≡ x
indexed raw at i j x e f = ap (λ k. get_or raw k 0) (sym e) ∙ sym (get_or-drop at raw i 0) ∙ f

dropped : (raw : List ℕ) (at n : ℕ) (bytes : List ℕ) → bytes ≡ drop n (drop at raw) ++ (34 ∷ []) → bytes ≡ drop (at + n) raw ++ (34 ∷ [])
dropped raw at n bytes e = e ∙ ap (λ z. z ++ (34 ∷ [])) (drop-drop n at raw)

four : (a b c d x y z w : ℕ) → x ≡ a → y ≡ b → z ≡ c → w ≡ d
    → hex_value a * 4096 + hex_value b * 256 + hex_value c * 16 + hex_value d ≡ hex_value x * 4096 + hex_value y * 256 + hex_value z * 16 + hex_value w
four a b c d x y z w e f g h =
    ap (λ n. hex_value n * 4096 + hex_value b * 256 + hex_value c * 16 + hex_value d) (sym e)
    ∙ ap (λ n. hex_value x * 4096 + hex_value n * 256 + hex_value c * 16 + hex_value d) (sym f)
    ∙ ap (λ n. hex_value x * 4096 + hex_value y * 256 + hex_value n * 16 + hex_value d) (sym g)
    ∙ ap (λ n. hex_value x * 4096 + hex_value y * 256 + hex_value z * 16 + hex_value n) (sym h)

pub escape_or_unit : (raw : List ℕ) (at : ℕ) (marks : List Mark) → mark_bytes marks [] ≡ drop at raw ++ (34 ∷ []) → at < length raw → get_or raw at 0 ≡ 92
    → EscapeAt marks raw at ⊎ UnitAt marks raw at
escape_or_unit raw at marks e r b = by_mark (after_backslash marks (drop at raw) e (omega (arith, r, length-drop at raw)) (get_or-drop at raw 0 0 ∙ here b))
  where
    here : get_or raw at 0 ≡ 92 → get_or raw (at + 0) 0 ≡ 92
    here b = let e : at + 0 ≡ at = omega arith in ap (λ k. get_or raw k 0) e ∙ b

    by_mark : IsEscape marks (drop at raw) ⊎ IsUnit marks (drop at raw) → EscapeAt marks raw at ⊎ UnitAt marks raw at
    by_mark (inl k) = inl (record {
      letter = k.letter;
      escapes = k.escapes;
      rest = k.rest;
      is = k.is;
      value = indexed raw at 1 (at + 1) k.letter (omega arith) k.value;
      within = omega (arith, k.within, length-drop at raw);
      bytes = dropped raw at 2 (mark_bytes k.rest []) k.bytes;
    })
    by_mark (inr k) = inr (record {
      a = k.a;
      b = k.b;
      c = k.c;
      d = k.d;
      rest = k.rest;
      is = k.is;
      letter = indexed raw at 1 (at + 1) 117 (omega arith) k.letter;
      value = four k.a.byte k.b.byte k.c.byte k.d.byte _ _ _ _ (indexed raw at 2 (at + 2) k.a.byte (omega arith) k.value_a) (indexed raw at 3 (at + 2 + 1) k.b.byte (omega arith) k.value_b)
          (indexed raw at 4 (at + 2 + 2) k.c.byte (omega arith) k.value_c) (indexed raw at 5 (at + 2 + 3) k.d.byte (omega arith) k.value_d);
      last = indexed raw at 5 (at + 5) k.d.byte (omega arith) k.value_d;
      within = omega (arith, k.within, length-drop at raw);
      bytes = dropped raw at 6 (mark_bytes k.rest []) k.bytes;
    })

escape_small : (b : ℕ) → is_escape b ≡ true → b < 128
escape_small b e = grind (arith, e)

escape_no_unit : (b : ℕ) → is_escape b ≡ true → b ≡ 117 → ⊥
escape_no_unit b e f = grind (arith, subst (λ n. is_escape n ≡ true) f e)

hex_small : (b : ℕ) → is_hex_digit b ≡ true → b < 128
hex_small b e = grind (arith, e)

hex_below : (b : ℕ) → is_hex_digit b ≡ true → hex_value b < 16
hex_below b e = grind (arith, e)

pub letter_within : (raw : List ℕ) (at : ℕ) → HasMarks (drop at raw) → at < length raw → get_or raw at 0 ≡ 92 → (at + 2 ≤ length raw) × (get_or raw (at + 1) 0 < 128)
letter_within raw at has r b = by_mark (escape_or_unit raw at has.0 has.1 r b)
  where
    by_mark : EscapeAt has.0 raw at ⊎ UnitAt has.0 raw at → (at + 2 ≤ length raw) × (get_or raw (at + 1) 0 < 128)
    by_mark (inl k) = (k.within, omega (arith, k.value, escape_small k.letter k.escapes))
    by_mark (inr k) = (omega (arith, k.within), omega (arith, k.letter))

-- Where the letter is u, a unit stands there.
pub unit_there : (raw : List ℕ) (at : ℕ) (marks : List Mark) → mark_bytes marks [] ≡ drop at raw ++ (34 ∷ []) → at < length raw → get_or raw at 0 ≡ 92
    → get_or raw (at + 1) 0 ≡ 117 → UnitAt marks raw at
unit_there raw at marks e r b l = by_mark (escape_or_unit raw at marks e r b)
  where
    by_mark : EscapeAt marks raw at ⊎ UnitAt marks raw at → UnitAt marks raw at
    by_mark (inl k) = absurd (escape_no_unit k.letter k.escapes (sym k.value ∙ l))
    by_mark (inr k) = k

escape_there : (raw : List ℕ) (at : ℕ) (marks : List Mark) → mark_bytes marks [] ≡ drop at raw ++ (34 ∷ []) → at < length raw → get_or raw at 0 ≡ 92
    → (get_or raw (at + 1) 0 ≡ 117 → ⊥) → EscapeAt marks raw at
escape_there raw at marks e r b l = by_mark (escape_or_unit raw at marks e r b)
  where
    by_mark : EscapeAt marks raw at ⊎ UnitAt marks raw at → EscapeAt marks raw at
    by_mark (inl k) = k
    by_mark (inr k) = absurd (l k.letter)

unit_below : (raw : List ℕ) (at : ℕ) (marks : List Mark) → UnitAt marks raw at → unit_at raw (at + 2) < 65536
unit_below raw at marks k =
    omega (arith, k.value, hex_below k.a.byte k.a.digit, hex_below k.b.byte k.b.digit, hex_below k.c.byte k.c.digit, hex_below k.d.byte k.d.digit)

-- What a unit tells of the bytes there.
pub unit_facts : (raw : List ℕ) (at : ℕ) → HasMarks (drop at raw) → at < length raw → get_or raw at 0 ≡ 92 → get_or raw (at + 1) 0 ≡ 117
    → (at + 6 ≤ length raw) × (get_or raw (at + 5) 0 < 128) × (unit_at raw (at + 2) < 65536) × HasMarks (drop (at + 6) raw)
unit_facts raw at has r b l =
    let k = unit_there raw at has.0 has.1 r b l in
    (k.within, omega (arith, k.last, hex_small k.d.byte k.d.digit), unit_below raw at has.0 k, (k.rest, k.bytes))

escaped_small : (b : ℕ) → is_escape b ≡ true → escaped_byte b < 128
escaped_small b e = grind (arith, e)

pub escape_passes : (raw : List ℕ) (at character : ℕ) → at < length raw → get_or raw at 0 ≡ 92 → (get_or raw (at + 1) 0 ≡ 117 → ⊥)
    → character ≡ escaped_byte (get_or raw (at + 1) 0) → Passes raw at (at + 2) (encode_utf8 character)
escape_passes raw at character r b l e = λ marks m.
    let k = escape_there raw at marks m r b l in
    let same : character ≡ escaped_byte k.letter = e ∙ ap escaped_byte k.value in
    (k.rest, k.bytes, ap string_text k.is ∙ ap (λ z. z ++ string_text k.rest) (sym (ap encode_utf8 same ∙ encode_ascii (escaped_byte k.letter) (escaped_small k.letter k.escapes))))

nothing_behind : (xs : List ℕ) → xs ≡ xs ++ []
nothing_behind [] = refl
nothing_behind (x ∷ xs) = ap (λ z. x ∷ z) (nothing_behind xs)

-- A unit that goes into no pair stands alone.
stands_alone : (u : ℕ) (rest : List Mark)
    → ((a b c d : HexDigit) (more : List Mark) → rest ≡ unit a b c d ∷ more → (is_high u && is_low (unit_value a b c d)) ≡ false)
    → text_after_unit u rest ≡ encode_utf8 (alone u) ++ string_text rest
stands_alone u [] f = nothing_behind (encode_utf8 (alone u))
stands_alone u (plain b p ∷ rest) f = refl
stands_alone u (escape b p ∷ rest) f = refl
stands_alone u (unit a b c d ∷ rest) f = rw (f a b c d rest refl) refl

alone_passes : (raw : List ℕ) (at character : ℕ) → at < length raw → get_or raw at 0 ≡ 92 → get_or raw (at + 1) 0 ≡ 117
    → character ≡ alone (unit_at raw (at + 2))
    → ((rest : List Mark) → mark_bytes rest [] ≡ drop (at + 6) raw ++ (34 ∷ []) → (a b c d : HexDigit) (more : List Mark) → rest ≡ unit a b c d ∷ more
    → (is_high (unit_at raw (at + 2)) && is_low (unit_value a b c d)) ≡ false)
    → Passes raw at (at + 6) (encode_utf8 character)
alone_passes raw at character r b l e f = λ marks m.
    let k = unit_there raw at marks m r b l in (
      k.rest,
      k.bytes,
      ap string_text k.is ∙ ap (λ u. text_after_unit u k.rest) k.value
          ∙ stands_alone (unit_at raw (at + 2)) k.rest (f k.rest k.bytes) ∙ ap (λ z. encode_utf8 z ++ string_text k.rest) (sym e),
    )

-- It is no first half of a pair.
pub low_or_other_passes : (raw : List ℕ) (at character : ℕ) → at < length raw → get_or raw at 0 ≡ 92 → get_or raw (at + 1) 0 ≡ 117
    → character ≡ alone (unit_at raw (at + 2)) → is_high (unit_at raw (at + 2)) ≡ false → Passes raw at (at + 6) (encode_utf8 character)
low_or_other_passes raw at character r b l e h =
    alone_passes raw at character r b l e (λ rest m a b c d more is. not_both (is_high (unit_at raw (at + 2))) _ h)
  where
    not_both : (x y : Bool) → x ≡ false → (x && y) ≡ false
    not_both true y e = absurd (grind (arith, e))
    not_both false y e = refl

-- No second half follows it.
pub half_passes : (raw : List ℕ) (at character : ℕ) → at < length raw → get_or raw at 0 ≡ 92 → get_or raw (at + 1) 0 ≡ 117
    → character ≡ alone (unit_at raw (at + 2)) → LacksLow raw (at + 6) → Passes raw at (at + 6) (encode_utf8 character)
half_passes raw at character r b l e lacks =
    alone_passes raw at character r b l e (λ rest m a b c d more is. not_both (is_high (unit_at raw (at + 2))) _ (other rest m a b c d more is))
  where
    not_both : (x y : Bool) → y ≡ false → (x && y) ≡ false
    not_both true y e = e
    not_both false y e = refl

    first : (rest : List Mark) (a b c d : HexDigit) (more : List Mark) → mark_bytes rest [] ≡ drop (at + 6) raw ++ (34 ∷ []) → rest ≡ unit a b c d ∷ more
        → (at + 6 < length raw) × (get_or raw (at + 6) 0 ≡ 92)
    first rest a b c d more m is =
        let all : 92 ∷ 117 ∷ a.byte ∷ b.byte ∷ c.byte ∷ d.byte ∷ mark_bytes more [] ≡ drop (at + 6) raw ++ (34 ∷ []) = ap (λ z. mark_bytes z []) (sym is) ∙ m in
        let some : 0 < length (drop (at + 6) raw) = omega (arith, lengths _ (drop (at + 6) raw) all, marks_length more) in
        (omega (arith, some, length-drop (at + 6) raw), indexed raw (at + 6) 0 (at + 6) 92 (omega arith) (at_index _ (drop (at + 6) raw) 0 all some))

    unit_of : Mark → HexDigit → HexDigit → HexDigit → HexDigit → ℕ
    unit_of (plain x p) a b c d = 0
    unit_of (escape x p) a b c d = 0
    unit_of (unit x y z w) a b c d = unit_value x y z w

    head_of : List Mark → ℕ
    head_of [] = 0
    head_of (plain x p ∷ marks) = 0
    head_of (escape x p ∷ marks) = 0
    head_of (unit x y z w ∷ marks) = unit_value x y z w

    letter_of : (rest : List Mark) (a b c d : HexDigit) (more : List Mark) → mark_bytes rest [] ≡ drop (at + 6) raw ++ (34 ∷ []) → rest ≡ unit a b c d ∷ more
        → get_or raw (at + 6 + 1) 0 ≡ 117
    letter_of rest a b c d more m is =
        let all : 92 ∷ 117 ∷ a.byte ∷ b.byte ∷ c.byte ∷ d.byte ∷ mark_bytes more [] ≡ drop (at + 6) raw ++ (34 ∷ []) = ap (λ z. mark_bytes z []) (sym is) ∙ m in
        let some : 1 < length (drop (at + 6) raw) = omega (arith, lengths _ (drop (at + 6) raw) all, marks_length more) in
        indexed raw (at + 6) 1 (at + 6 + 1) 117 (omega arith) (at_index _ (drop (at + 6) raw) 1 all some)

    other : (rest : List Mark) → mark_bytes rest [] ≡ drop (at + 6) raw ++ (34 ∷ []) → (a b c d : HexDigit) (more : List Mark) → rest ≡ unit a b c d ∷ more
        → is_low (unit_value a b c d) ≡ false
    other rest m a b c d more is =
        let f = first rest a b c d more m is in
        let k = unit_there raw (at + 6) rest m f.0 f.1 (letter_of rest a b c d more m is) in
        let same : unit_value a b c d ≡ unit_at raw (at + 6 + 2) = ap head_of (sym is ∙ k.is) ∙ k.value in
        ap is_low same ∙ lacks k.within f.1 k.letter

-- Two halves are one character.
pub pair_passes : (raw : List ℕ) (at low character : ℕ) → at < length raw → get_or raw at 0 ≡ 92 → get_or raw (at + 1) 0 ≡ 117
    → is_high (unit_at raw (at + 2)) ≡ true → IsLowAt raw (at + 6) low → character ≡ paired (unit_at raw (at + 2)) low
    → Passes raw at (at + 12) (encode_utf8 character)
pair_passes raw at low character r b l h k e = λ marks m.
    let x = unit_there raw at marks m r b l in
    let y = unit_there raw (at + 6) x.rest x.bytes (omega (arith, k.within)) k.backslash k.letter in
    let there : at + 6 + 6 ≡ at + 12 = omega arith in (
      y.rest,
      y.bytes ∙ ap (λ n. drop n raw ++ (34 ∷ [])) there,
      ◌∙◌ {a = string_text marks} (ap string_text x.is) refl ∙ ap (λ u. text_after_unit u x.rest) x.value ∙ ap (text_after_unit (unit_at raw (at + 2))) y.is
          ∙ joined (unit_at raw (at + 2)) y.a y.b y.c y.d y.rest h (ap is_low (y.value ∙ sym k.value) ∙ k.low)
          ∙ ap (λ z. encode_utf8 (paired (unit_at raw (at + 2)) z) ++ string_text y.rest) (y.value ∙ sym k.value) ∙ ap (λ z. encode_utf8 z ++ string_text y.rest) (sym e),
    )
  where
    joined : (u : ℕ) (a b c d : HexDigit) (rest : List Mark) → is_high u ≡ true → is_low (unit_value a b c d) ≡ true
        → text_after_unit u (unit a b c d ∷ rest) ≡ encode_utf8 (paired u (unit_value a b c d)) ++ string_text rest
    joined u a b c d rest h k = rw h (rw k refl)

pub low_small : (raw : List ℕ) (at low : ℕ) → HasMarks (drop at raw) → at < length raw → get_or raw at 0 ≡ 92 → get_or raw (at + 1) 0 ≡ 117 → IsLowAt raw (at + 6) low
    → get_or raw (at + 6 + 5) 0 < 128
low_small raw at low has r b l k = (unit_facts raw (at + 6) (unit_facts raw at has r b l).3 (omega (arith, k.within)) k.backslash k.letter).1

-- Parts one after another.
pub passes_nothing : (raw : List ℕ) → Passes raw 0 0 []
passes_nothing raw = λ marks m. (marks, m, refl)

pub passes_then : (raw : List ℕ) (from mid to : ℕ) (first second : List ℕ) → Passes raw from mid first → Passes raw mid to second → Passes raw from to (first ++ second)
passes_then raw from mid to first second p q = λ marks m.
    let x = p marks m in
    let y = q x.0 x.1 in
    (y.0, y.1, x.2 ∙ ap (λ z. first ++ z) y.2 ∙ sym (append_assoc first second (string_text y.0)))

pub has_after : (raw : List ℕ) (from to : ℕ) (part : List ℕ) → HasMarks (drop from raw) → Passes raw from to part → HasMarks (drop to raw)
has_after raw from to part has p = let x = p has.0 has.1 in (x.0, x.1)

-- A byte that is no backslash stands for itself.
plain_byte : (marks : List Mark) (x : ℕ) (xs : List ℕ) → mark_bytes marks [] ≡ x ∷ (xs ++ (34 ∷ [])) → (x ≡ 92 → ⊥)
    → (rest : List Mark) × (mark_bytes rest [] ≡ xs ++ (34 ∷ [])) × (string_text marks ≡ x ∷ string_text rest)
plain_byte [] x xs e f = absurd (omega (arith, ap length e, length-append xs (34 ∷ [])))
plain_byte (plain y p ∷ marks) x xs e f = (marks, ap (drop 1) e, ap (λ z. get_or z 0 0 ∷ string_text marks) e)
plain_byte (escape y p ∷ marks) x xs e f = absurd (f (sym (ap (λ z. get_or z 0 0) e)))
plain_byte (unit a b c d ∷ marks) x xs e f = absurd (f (sym (ap (λ z. get_or z 0 0) e)))

plain_bytes : (xs ys : List ℕ) → ((k : ℕ) → k < length xs → get_or xs k 0 ≡ 92 → ⊥) → (marks : List Mark) → mark_bytes marks [] ≡ (xs ++ ys) ++ (34 ∷ [])
    → (rest : List Mark) × (mark_bytes rest [] ≡ ys ++ (34 ∷ [])) × (string_text marks ≡ xs ++ string_text rest)
plain_bytes [] ys f marks m = (marks, m, refl)
plain_bytes (x ∷ xs) ys f marks m =
    let p = plain_byte marks x (xs ++ ys) m (f 0 (omega arith)) in
    let q = plain_bytes xs ys (λ k r. f (suc k) (omega (arith, r))) p.0 p.1 in
    (q.0, q.1, p.2 ∙ ap (λ z. x ∷ z) q.2)

get_take : (xs : List ℕ) (n k : ℕ) → k < n → get_or (take n xs) k 0 ≡ get_or xs k 0
get_take [] zero k r = refl
get_take [] (suc n) k r = refl
get_take (x ∷ xs) zero k r = absurd (omega (arith, r))
get_take (x ∷ xs) (suc n) zero r = refl
get_take (x ∷ xs) (suc n) (suc k) r = get_take xs n k (omega (arith, r))

length_take : (n : ℕ) (xs : List ℕ) → length (take n xs) ≤ n
length_take zero [] = omega arith
length_take zero (x ∷ xs) = omega arith
length_take (suc n) [] = omega arith
length_take (suc n) (x ∷ xs) = omega (arith, length_take n xs)

pub passes_plain : (raw : List ℕ) (from to : ℕ) → from ≤ to → ((k : ℕ) → from ≤ k → k < to → get_or raw k 0 ≡ 92 → ⊥) → Passes raw from to (slice_range raw from to)
passes_plain raw from to r f = λ marks m.
    plain_bytes (slice_range raw from to) (drop to raw) plain marks (m ∙ ap (λ z. z ++ (34 ∷ [])) (drop_split raw from to r))
  where
    plain : (k : ℕ) → k < length (slice_range raw from to) → get_or (slice_range raw from to) k 0 ≡ 92 → ⊥
    plain k s e =
        let short : k < to - from = omega (arith, s, length_take (to - from) (drop from raw)) in
        f (from + k) (omega arith) (omega (arith, short)) (sym (get_or-drop from raw k 0) ∙ sym (get_take (drop from raw) (to - from) k short) ∙ e)

drop_past : (n : ℕ) (xs : List ℕ) → length xs ≤ n → drop n xs ≡ []
drop_past zero [] r = refl
drop_past (suc n) [] r = refl
drop_past zero (x ∷ xs) r = absurd (omega (arith, r))
drop_past (suc n) (x ∷ xs) r = drop_past n xs (omega (arith, r))

no_marks : (marks : List Mark) → mark_bytes marks [] ≡ 34 ∷ [] → string_text marks ≡ []
no_marks [] e = refl
no_marks (plain x p ∷ marks) e = absurd (omega (arith, ap length e, marks_length marks))
no_marks (escape x p ∷ marks) e = absurd (omega (arith, ap length e, marks_length marks))
no_marks (unit a b c d ∷ marks) e = absurd (omega (arith, ap length e, marks_length marks))

pub passes_all : (raw : List ℕ) (to : ℕ) (text : List ℕ) → length raw ≤ to → Passes raw 0 to text → ReadsAs raw text
passes_all raw to text r p = λ marks m.
    let x = p marks m in
    sym (x.2 ∙ ap (λ z. text ++ z) (no_marks x.0 (x.1 ∙ ap (λ z. z ++ (34 ∷ [])) (drop_past to raw r))) ∙ sym (nothing_behind text))

pub starts : (raw text : List ℕ) → IsUtf8 raw → HasMarks raw → text ≡ [] → IsUnescaping raw 0 text
starts raw text utf8 has e = record { within = omega arith; boundary = IsCharBoundary-start raw utf8; marks = has; passes = subst (Passes raw 0 0) (sym e) (passes_nothing raw) }

-- Up to a backslash or the end.
pub plain_on : (raw bytes : List ℕ) (from to : ℕ) (text next : List ℕ) → bytes ≡ raw → IsUnescaping raw from text → from ≤ to → to ≤ length bytes
    → ((k : ℕ) → from ≤ k → k < to → get_or bytes k 0 ≡ 92 → ⊥) → (to < length bytes → get_or bytes to 0 ≡ 92) → next ≡ text ++ slice_range raw from to
    → IsUnescaping raw to next
plain_on raw bytes from to text next e u r w no_escape last n = record {
  within = short;
  boundary = boundary (le_cases to (length raw) short);
  marks = has_after raw from to (slice_range raw from to) u.marks part;
  passes = subst (Passes raw 0 to) (sym n) (passes_then raw 0 from to text (slice_range raw from to) u.passes part);
}
  where
    short : to ≤ length raw
    short = subst (λ z. to ≤ length z) e w

    part : Passes raw from to (slice_range raw from to)
    part = passes_plain raw from to r (λ k a b f. no_escape k a b (ap (λ z. get_or z k 0) e ∙ f))

    le_cases : (n m : ℕ) → n ≤ m → (n < m) ⊎ (n ≡ m)
    le_cases zero zero r = inr refl
    le_cases zero (suc m) r = inl (omega arith)
    le_cases (suc n) zero r = absurd (omega (arith, r))
    le_cases (suc n) (suc m) r = by (le_cases n m (omega (arith, r)))
      where
        by : (n < m) ⊎ (n ≡ m) → (suc n < suc m) ⊎ (suc n ≡ suc m)
        by (inl r) = inl (omega (arith, r))
        by (inr f) = inr (ap suc f)

    boundary : (to < length raw) ⊎ (to ≡ length raw) → IsCharBoundary raw to
    boundary (inl r) = IsCharBoundary-before_ascii raw to r (omega (arith, sym (ap (λ z. get_or z to 0) e) ∙ last (subst (λ z. to < length z) (sym e) r)))
    boundary (inr f) = subst (IsCharBoundary raw) (sym f) (IsCharBoundary-end raw)

-- Behind an escape.
pub escape_on : (raw bytes : List ℕ) (from end : ℕ) (text part next : List ℕ) → IsUtf8 raw → bytes ≡ raw → IsUnescaping raw from text → from < end → end ≤ length bytes
    → Passes bytes from end part → get_or bytes (end - 1) 0 < 128 → next ≡ text ++ part → IsUnescaping raw end next
escape_on raw bytes from end text part next utf8 e u r w p a n = record {
  within = short;
  boundary = subst (IsCharBoundary raw) (omega (arith, r)) (IsCharBoundary-after_ascii raw (end - 1) utf8 (omega (arith, short, r)) (subst (λ z. get_or z (end - 1) 0 < 128) e a));
  marks = has_after raw from end part u.marks passes;
  passes = subst (Passes raw 0 end) (sym n) (passes_then raw 0 from end text part u.passes passes);
}
  where
    short : end ≤ length raw
    short = subst (λ z. end ≤ length z) e w

    passes : Passes raw from end part
    passes = subst (λ z. Passes z from end part) e p

pub plain_reads : (raw bytes : List ℕ) (to : ℕ) → bytes ≡ raw → to ≡ length raw → ((k : ℕ) → 0 ≤ k → k < to → get_or bytes k 0 ≡ 92 → ⊥) → ReadsAs raw raw
plain_reads raw bytes to e l no_escape =
    passes_all raw to raw (omega (arith, l))
    (subst (Passes raw 0 to) (all to (omega (arith, l))) (passes_plain raw 0 to (omega arith) (λ k a b f. no_escape k a b (ap (λ z. get_or z k 0) e ∙ f))))
  where
    take_all : (n : ℕ) (xs : List ℕ) → length xs ≤ n → take n xs ≡ xs
    take_all zero [] r = refl
    take_all (suc n) [] r = refl
    take_all zero (x ∷ xs) r = absurd (omega (arith, r))
    take_all (suc n) (x ∷ xs) r = ap (λ z. x ∷ z) (take_all n xs (omega (arith, r)))

    all : (n : ℕ) → length raw ≤ n → slice_range raw 0 n ≡ raw
    all n r = let f : n - 0 ≡ n = omega arith in ap (λ m. take m raw) f ∙ take_all n raw r
