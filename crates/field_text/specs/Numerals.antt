-- The degree of a numeral in parts.
use Rattle.std.specs.Prelude.{◌++◌, ℤ, pos, ◌+ℤ◌, ◌-ℤ◌, int_le, not, ◌&&◌, ◌||◌, Option, length}
use Rattle.field_text.specs.declared.numeral.Numeral.{Numeral}
use Rattle.field_text.specs.Grammars.{has_digits, number, scaled, signed, some_if}

-- the degree that the parts write, as `degree_within` says of a text
abbrev pub degree_of_numeral : ℤ → Numeral → Option ℤ
degree_of_numeral greatest numeral =
    let digits = numeral.whole.now ++ numeral.fraction.now in
    let shift = signed numeral.is_small (number numeral.exponent.now) in
    let power = (shift -ℤ pos (length numeral.fraction.now)) +ℤ pos 15 in
    let size = scaled (number digits) power in
    some_if (has_digits 1 64 digits
    && (not numeral.has_exponent || has_digits 1 4 numeral.exponent.now)
    && int_le (pos size) greatest)
    (signed numeral.is_negative size)
