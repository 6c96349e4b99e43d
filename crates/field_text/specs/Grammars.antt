-- The kinds of fields: which texts are of a kind, and the values of those. A text that isn't of the
-- kind has no value.
use Rattle.std.specs.Prelude.{ℕ, ◌+◌, ◌-◌, ◌*◌, ◌/◌, ◌%◌, ◌^◌, ◌==◌, nat_lt, nat_le, ◌≡◌, ◌≢◌}
use Rattle.std.specs.Prelude.{Bool, true, false, not, ◌&&◌, ◌||◌, if◌then◌else◌, Option, Some, None}
use Rattle.std.specs.Prelude.{ℤ, pos, ◌+ℤ◌, ◌-ℤ◌, ◌*ℤ◌, neg_ℤ, int_le, unsigned_abs}
use Rattle.std.specs.Prelude.{List, [], ◌∷◌, ◌++◌, length, slice_range, codes, IsUtf8}
use Rattle.std.specs.Char.{is_ascii_digit}
use Rattle.std.specs.List.{after_first, before_first, flat_map, fold, list_all, list_any}
use Rattle.std.specs.Str.{byte}
use Rattle.jiff_core.specs.Calendar.{days_from_civil, days_in_month}

-- the value, where the test holds
abbrev pub some_if : {X : Type 0} → Bool → X → Option X
some_if test value = if test then Some value else None

-- whether a number lies from the least to the greatest
abbrev pub lies_in : ℕ → ℕ → ℕ → Bool
lies_in least greatest n = nat_le least n && nat_le n greatest

-- so many digits, and nothing else
abbrev pub has_digits : ℕ → ℕ → List ℕ → Bool
has_digits fewest most text = list_all is_ascii_digit text && lies_in fewest most (length text)

-- the number that digits write after those of another number
abbrev pub number_after : ℕ → List ℕ → ℕ
number_after before digits = fold (λ n digit. 10 * n + (digit - byte "0")) before digits

-- the number that digits write
abbrev pub number : List ℕ → ℕ
number digits = number_after 0 digits

-- a number of so many digits, leading zeros among them, up to the greatest
abbrev pub digits_within : ℕ → ℕ → ℕ → List ℕ → Option ℕ
digits_within fewest most greatest text =
    some_if (has_digits fewest most text && nat_le (number text) greatest) (number text)

-- an id: any text but the empty one
abbrev pub id : List ℕ → Option (List ℕ)
id [] = None
id (b ∷ rest) = Some (b ∷ rest)

-- one digit from the least to the greatest
abbrev pub choice : ℕ → ℕ → List ℕ → Option ℕ
choice least greatest text =
    some_if (has_digits 1 1 text && lies_in least greatest (number text)) (number text)

-- one to twenty digits
abbrev pub count : ℕ → List ℕ → Option ℕ
count greatest text = digits_within 1 20 greatest text

abbrev pub is_colon : ℕ → Bool
is_colon b = b == byte ":"

-- a time in seconds: hours of one to three digits, minutes and seconds of two, up to 167:59:59
abbrev pub time : List ℕ → Option ℕ
time text =
    let hours = before_first is_colon text in
    let minutes = before_first is_colon (after_first is_colon text) in
    let seconds = after_first is_colon (after_first is_colon text) in
    some_if (has_digits 1 3 hours && nat_le (number hours) 167
    && has_digits 2 2 minutes && nat_le (number minutes) 59
    && has_digits 2 2 seconds && nat_le (number seconds) 59)
    (3600 * number hours + 60 * number minutes + number seconds)

-- whether the calendar has a date, in a year from the first to the last
abbrev pub is_civil : ℕ → ℕ → ℕ → ℕ → ℕ → Bool
is_civil first last year month day =
    lies_in first last year && lies_in 1 12 month && lies_in 1 (days_in_month (pos year) month) day

-- a date as YYYYMMDD, of the years 0001 to 9999, in days since 1970-01-01
abbrev pub date : List ℕ → Option ℤ
date text =
    let year = number (slice_range text 0 4) in
    let month = number (slice_range text 4 6) in
    let day = number (slice_range text 6 8) in
    some_if (has_digits 8 8 text && is_civil 1 9999 year month day)
    (days_from_civil (pos year) month day)

-- whether a byte is a digit where a 0 is expected, and elsewhere the expected byte
abbrev pub is_as_expected : ℕ → ℕ → Bool
is_as_expected expected b = if expected == byte "0" then is_ascii_digit b else expected == b

-- whether a text has a digit wherever the pattern has a 0, and elsewhere the pattern's own bytes
unfoldable pub is_shaped : List ℕ → List ℕ → Bool
is_shaped [] [] = true
is_shaped [] (b ∷ text) = false
is_shaped (p ∷ pattern) [] = false
is_shaped (p ∷ pattern) (b ∷ text) = is_as_expected p b && is_shaped pattern text

-- a moment as YYYY-MM-DDTHH:MM:SSZ, in a year from the first to the last, in seconds since
-- 1970-01-01T00:00:00Z
abbrev pub moment : ℕ → ℕ → List ℕ → Option ℤ
moment first last text =
    let year = number (slice_range text 0 4) in
    let month = number (slice_range text 5 7) in
    let day = number (slice_range text 8 10) in
    let hours = number (slice_range text 11 13) in
    let minutes = number (slice_range text 14 16) in
    let seconds = number (slice_range text 17 19) in
    some_if (is_shaped (codes "0000-00-00T00:00:00Z") text && is_civil first last year month day
    && nat_le hours 23 && nat_le minutes 59 && nat_le seconds 59)
    ((pos 86400 *ℤ days_from_civil (pos year) month day)
    +ℤ pos (3600 * hours + 60 * minutes + seconds))

abbrev pub is_sign : ℕ → Bool
is_sign b = (b == byte "+") || (b == byte "-")

-- whether a text begins with a minus
abbrev pub is_minus : List ℕ → Bool
is_minus [] = false
is_minus (b ∷ rest) = b == byte "-"

-- a text without one sign at its start
abbrev pub unsigned : List ℕ → List ℕ
unsigned [] = []
unsigned (b ∷ rest) = if is_sign b then rest else b ∷ rest

abbrev pub is_exponent_mark : ℕ → Bool
is_exponent_mark b = (b == byte "e") || (b == byte "E")

abbrev pub is_point : ℕ → Bool
is_point b = b == byte "."

-- a number with its sign
abbrev pub signed : Bool → ℕ → ℤ
signed is_negative n = if is_negative then neg_ℤ (pos n) else pos n

-- a number times a power of ten, cut to a whole number
abbrev pub scaled : ℕ → ℤ → ℕ
scaled n power =
    let factor = 10 ^ unsigned_abs power in
    if int_le (pos 0) power then n * factor else n / factor

-- A degree, in units of 10^-15 degree cut towards zero, whose size is at most the greatest. The
-- text has at most 64 bytes: an optional sign, digits with or without a point among, before or
-- after them, and maybe an exponent of one to four digits with an optional sign. Its value is the
-- number of all its digits times ten to the exponent, less one for each digit after the point; 15
-- more are for the unit.
abbrev pub degree_within : ℤ → List ℕ → Option ℤ
degree_within greatest text =
    let has_exponent = list_any is_exponent_mark text in
    let numeral = before_first is_exponent_mark text in
    let exponent = after_first is_exponent_mark text in
    let whole = before_first is_point (unsigned numeral) in
    let fraction = after_first is_point (unsigned numeral) in
    let shift = signed (is_minus exponent) (number (unsigned exponent)) in
    let power = (shift -ℤ pos (length fraction)) +ℤ pos 15 in
    let size = scaled (number (whole ++ fraction)) power in
    some_if (nat_le (length text) 64 && has_digits 1 64 (whole ++ fraction)
    && (not has_exponent || has_digits 1 4 (unsigned exponent)) && int_le (pos size) greatest)
    (signed (is_minus numeral) size)

-- the same up to so many whole degrees
abbrev pub degree : ℕ → List ℕ → Option ℤ
degree greatest text = degree_within (pos (greatest * 10 ^ 15)) text

-- a hexadecimal digit, with capital letters
abbrev pub hex_digit : ℕ → ℕ
hex_digit n = if nat_lt n 10 then byte "0" + n else byte "A" + (n - 10)

-- a byte from ! to ~ other than %
abbrev pub stands_for_itself : ℕ → Bool
stands_for_itself b = lies_in (byte "!") (byte "~") b && not (b == byte "%")

-- a byte that stands for itself, and each other byte as % and two hexadecimal digits
abbrev pub escaped_byte : ℕ → List ℕ
escaped_byte b =
    if stands_for_itself b then b ∷ []
    else byte "%" ∷ hex_digit (b / 16) ∷ hex_digit (b % 16) ∷ []

-- the escape of an id
abbrev pub escape : List ℕ → List ℕ
escape id = flat_map escaped_byte id

-- The text is the escape of the id, which is a text and isn't empty.
abbrev pub IsEscapeOf : List ℕ → List ℕ → Type 0
IsEscapeOf text id = (id ≢ []) × IsUtf8 id × (text ≡ escape id)
