-- Printed numbers.
use Rattle.std.proofs.Common.{◌≡◌, ℕ, ◌^◌, ◌<◌, true, length, sym, arith, rules}
use Rattle.std.specs.Prelude.{decimal}
use Rattle.std.specs.Char.{is_ascii_digit}
use Rattle.std.specs.List.{list_all}
use Rattle.std.proofs.lemmas.Bool.{and_from, le-leb}
use Rattle.std.proofs.lemmas.Fmt.{decimal_nonempty, digits_decimal, digits_value-decimal, length-decimal-le}
use Rattle.std.proofs.lemmas.Str.Parse.{IsNumeralModel, numerals_by_fold}
use Rattle.field_text.specs.Grammars.{number, number_after}
use Rattle.field_text.specs.Laws.{NumbersAreReadBack}
use Rattle.field_text.proofs.DateLemmas.{lies_in-from}
use Rattle.field_text.proofs.NumberLemmas.{some_if-passes}

-- digits, and the number that they write
own : IsNumeralModel (λ ds. list_all is_ascii_digit ds ≡ true) number
own = numerals_by_fold _ (search rules) number_after (search rules)

pub decimal-are_digits : (n : ℕ) → n < 2 ^ 64 → list_all is_ascii_digit (decimal n) ≡ true
decimal-are_digits n small = digits_decimal own n small

pub number-decimal : (n : ℕ) → n < 2 ^ 64 → number (decimal n) ≡ n
number-decimal n small = digits_value-decimal own n small

pub numbers_are_read_back : NumbersAreReadBack
numbers_are_read_back n greatest within small =
    let length_in = lies_in-from 1 20 (length (decimal n)) (decimal_nonempty n small) (length-decimal-le 20 n (omega arith) (omega arith) small) in
    let value = number-decimal n small in
    sym (some_if-passes _ _ _ (and_from _ _ (and_from _ _ (decimal-are_digits n small) length_in) (le-leb (number (decimal n)) greatest (omega arith))) (sym value))
