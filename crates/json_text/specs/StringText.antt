-- The text of a string: what its characters and its escapes stand for (RFC 8259).
use Rattle.std.specs.Prelude.{ℕ, ◌+◌, ◌-◌, ◌*◌, List, [], ◌∷◌, ◌++◌, Bool, cond, ◌==◌, nat_lt, nat_le, ◌&&◌, encode_utf8}
use Rattle.json_text.specs.Syntax.{HexDigit, Mark, plain, escape, unit}

abbrev pub hex_value : ℕ → ℕ
hex_value b = cond (nat_le 97 b) (b - 87) (cond (nat_le 65 b) (b - 55) (b - 48))

abbrev pub unit_value : HexDigit → HexDigit → HexDigit → HexDigit → ℕ
unit_value a b c d =
    hex_value a.byte * 4096 + hex_value b.byte * 256 + hex_value c.byte * 16 + hex_value d.byte

-- What a letter stands for after a backslash: a quotation mark, a backslash and a slash for
-- themselves.
abbrev pub escaped_byte : ℕ → ℕ
escaped_byte b =
    cond (b == 98) 8
    (cond (b == 102) 12 (cond (b == 110) 10 (cond (b == 114) 13 (cond (b == 116) 9 b))))

abbrev pub is_high : ℕ → Bool
is_high u = nat_le 55296 u && nat_lt u 56320

abbrev pub is_low : ℕ → Bool
is_low u = nat_le 56320 u && nat_lt u 57344

-- the character of a unit that stands alone: U+FFFD of half a pair
abbrev pub alone : ℕ → ℕ
alone u = cond (nat_le 55296 u && nat_lt u 57344) 65533 u

-- the character of a pair of units
abbrev pub paired : ℕ → ℕ → ℕ
paired high low = 65536 + (high - 55296) * 1024 + (low - 56320)

-- The text of a string, after its escapes are read. A unit in hand may be the first half of a pair.
abbrev mutual
  pub string_text : List Mark → List ℕ
  string_text [] = []
  string_text (plain b _ ∷ marks) = b ∷ string_text marks
  string_text (escape letter _ ∷ marks) = escaped_byte letter ∷ string_text marks
  string_text (unit a b c d ∷ marks) = text_after_unit (unit_value a b c d) marks

  pub text_after_unit : ℕ → List Mark → List ℕ
  text_after_unit u [] = encode_utf8 (alone u)
  text_after_unit u (plain b _ ∷ marks) = encode_utf8 (alone u) ++ (b ∷ string_text marks)
  text_after_unit u (escape letter _ ∷ marks) =
      encode_utf8 (alone u) ++ (escaped_byte letter ∷ string_text marks)
  text_after_unit u (unit a b c d ∷ marks) =
      cond (is_high u && is_low (unit_value a b c d))
      (encode_utf8 (paired u (unit_value a b c d)) ++ string_text marks)
      (encode_utf8 (alone u) ++ text_after_unit (unit_value a b c d) marks)
