-- What is noted of a text's bytes are the shapes of its values: parts that are no array and no object.
use Rattle.std.proofs.Common.{◌≡◌, ℕ, suc, Bool, true, false, ◌==◌, List, [], ◌∷◌, Option, Some, None, refl, arith, ◌+◌, length}
use Rattle.json_text.specs.Byte.{is_digit, is_exponent}
use Rattle.json_text.specs.Syntax.{White, space, tab, line_feed, carriage_return, Digit, Digits, Whole, nought, positive, Sign, unsigned, plus, minus, ExponentLetter, lower, upper, Exponent, Mark, plain, escape, unit}
use Rattle.json_text.specs.Grammar.{white_byte, white_bytes, digit_bytes, whole_bytes, fraction_bytes, exponent_bytes, sign_bytes, minus_bytes, mark_bytes}
use Rattle.json_text.specs.Machine as Machine
use Rattle.json_text.specs.Machine.{State, Frame, step}
use Rattle.json_text.specs.Recording.{Notes, recorded, noted, settled, settled_notes, moved_notes, begin_value, end_value, end_name}
use Rattle.json_text.specs.declared.kind.JsonKind.TheVariants as Kind
use Rattle.json_text.proofs.Lengths.{digits_long}
use mathlib.Core.Path.{ap, ◌∙◌}

-- What may follow a value: nothing, or a byte that goes on with no number.
abbrev pub Follows : List ℕ → Type 0
Follows [] = Unit {0}
Follows (b ∷ bytes) = (is_digit b ≡ false) × ((b == 46) ≡ false) × (is_exponent b ≡ false)

pub follows_white : (whites : List White) (rest : List ℕ) → Follows rest → Follows (white_bytes whites rest)
follows_white [] rest f = f
follows_white (space ∷ whites) rest f = (refl, refl, refl)
follows_white (tab ∷ whites) rest f = (refl, refl, refl)
follows_white (line_feed ∷ whites) rest f = (refl, refl, refl)
follows_white (carriage_return ∷ whites) rest f = (refl, refl, refl)

-- the same at a place that is written otherwise
pub here : {a b : ℕ} (q : State) (n : Notes) (rest : List ℕ) → a ≡ b → recorded q n a rest ≡ recorded q n b rest
here q n rest e = ap (λ place. recorded q n place rest) e

-- White space changes nothing in the states that pass over it.
abbrev pub Skips : State → Type 0
Skips q = (w : White) (n : Notes) (place : ℕ) (rest : List ℕ) → recorded q n place (white_byte w ∷ rest) ≡ recorded q n (suc place) rest

pub skip : (q : State) → Skips q → (whites : List White) (n : Notes) (place : ℕ) (rest : List ℕ)
    → recorded q n place (white_bytes whites rest) ≡ recorded q n (place + length whites) rest
skip q s [] n place rest = here q n rest (omega arith)
skip q s (w ∷ whites) n place rest = s w n place (white_bytes whites rest) ∙ skip q s whites n (suc place) rest ∙ here q n rest (omega arith)

pub before_value_skips : (stack : List Frame) → Skips (Machine.before_value stack)
before_value_skips stack space n place rest = refl
before_value_skips stack tab n place rest = refl
before_value_skips stack line_feed n place rest = refl
before_value_skips stack carriage_return n place rest = refl

pub after_open_array_skips : (stack : List Frame) → Skips (Machine.after_open_array stack)
after_open_array_skips stack space n place rest = refl
after_open_array_skips stack tab n place rest = refl
after_open_array_skips stack line_feed n place rest = refl
after_open_array_skips stack carriage_return n place rest = refl

pub after_open_object_skips : (stack : List Frame) → Skips (Machine.after_open_object stack)
after_open_object_skips stack space n place rest = refl
after_open_object_skips stack tab n place rest = refl
after_open_object_skips stack line_feed n place rest = refl
after_open_object_skips stack carriage_return n place rest = refl

pub before_name_skips : (stack : List Frame) → Skips (Machine.before_name stack)
before_name_skips stack space n place rest = refl
before_name_skips stack tab n place rest = refl
before_name_skips stack line_feed n place rest = refl
before_name_skips stack carriage_return n place rest = refl

pub after_name_skips : (stack : List Frame) → Skips (Machine.after_name stack)
after_name_skips stack space n place rest = refl
after_name_skips stack tab n place rest = refl
after_name_skips stack line_feed n place rest = refl
after_name_skips stack carriage_return n place rest = refl

pub after_value_skips : (stack : List Frame) → Skips (Machine.after_value stack)
after_value_skips [] space n place rest = refl
after_value_skips [] tab n place rest = refl
after_value_skips [] line_feed n place rest = refl
after_value_skips [] carriage_return n place rest = refl
after_value_skips (Machine.in_array ∷ stack) space n place rest = refl
after_value_skips (Machine.in_array ∷ stack) tab n place rest = refl
after_value_skips (Machine.in_array ∷ stack) line_feed n place rest = refl
after_value_skips (Machine.in_array ∷ stack) carriage_return n place rest = refl
after_value_skips (Machine.in_object ∷ stack) space n place rest = refl
after_value_skips (Machine.in_object ∷ stack) tab n place rest = refl
after_value_skips (Machine.in_object ∷ stack) line_feed n place rest = refl
after_value_skips (Machine.in_object ∷ stack) carriage_return n place rest = refl

-- A string ends with its quotation mark, which stands at the end.
pub name_recorded : (marks : List Mark) (stack : List Frame) (n : Notes) (place end : ℕ) (rest : List ℕ) → suc end ≡ place + length (mark_bytes marks [])
    → recorded (Machine.in_string Machine.as_name stack) n place (mark_bytes marks rest) ≡ recorded (Machine.after_name stack) (end_name end n) (suc end) rest
name_recorded [] stack n place end rest e = ap (λ a. recorded (Machine.after_name stack) (end_name a n) (suc a) rest) (omega (arith, e))
name_recorded (plain b p ∷ marks) stack n place end rest e = rw (p, recorded) (name_recorded marks stack n (suc place) end rest (omega (arith, e)))
name_recorded (escape b p ∷ marks) stack n place end rest e = rw (p, recorded) (name_recorded marks stack n (suc (suc place)) end rest (omega (arith, e)))
name_recorded (unit x y z w ∷ marks) stack n place end rest e =
    rw (x.digit, recorded) (rw (y.digit, recorded) (rw (z.digit, recorded) (rw (w.digit, recorded) (name_recorded marks stack n (suc (suc (suc (suc (suc (suc place)))))) end rest (omega (arith, e))))))

pub string_recorded : (marks : List Mark) (stack : List Frame) (n : Notes) (place end : ℕ) (rest : List ℕ) → end ≡ place + length (mark_bytes marks [])
    → recorded (Machine.in_string Machine.as_value stack) n place (mark_bytes marks rest) ≡ recorded (Machine.after_value stack) (end_value end n) end rest
string_recorded [] stack n place end rest e = ap (λ a. recorded (Machine.after_value stack) (end_value a n) a rest) (omega (arith, e))
string_recorded (plain b p ∷ marks) stack n place end rest e = rw (p, recorded) (string_recorded marks stack n (suc place) end rest (omega (arith, e)))
string_recorded (escape b p ∷ marks) stack n place end rest e = rw (p, recorded) (string_recorded marks stack n (suc (suc place)) end rest (omega (arith, e)))
string_recorded (unit x y z w ∷ marks) stack n place end rest e =
    rw (x.digit, recorded) (rw (y.digit, recorded) (rw (z.digit, recorded) (rw (w.digit, recorded) (string_recorded marks stack n (suc (suc (suc (suc (suc (suc place)))))) end rest (omega (arith, e))))))

-- A number ends before what follows.
abbrev Ends : State → List Frame → Type 0
Ends q stack = (n : Notes) (place : ℕ) (rest : List ℕ) → Follows rest → recorded q n place rest ≡ recorded (Machine.after_value stack) (end_value place n) place rest

nought_ends : (stack : List Frame) → Ends (Machine.after_nought stack) stack
nought_ends stack n place [] f = refl
nought_ends stack n place (b ∷ rest) f = rw f.1 (rw f.2 refl)

whole_ends : (stack : List Frame) → Ends (Machine.in_whole stack) stack
whole_ends stack n place [] f = refl
whole_ends stack n place (b ∷ rest) f = rw f.0 (rw f.1 (rw f.2 refl))

fraction_ends : (stack : List Frame) → Ends (Machine.in_fraction stack) stack
fraction_ends stack n place [] f = refl
fraction_ends stack n place (b ∷ rest) f = rw f.0 (rw f.2 refl)

power_ends : (stack : List Frame) → Ends (Machine.in_power stack) stack
power_ends stack n place [] f = refl
power_ends stack n place (b ∷ rest) f = rw f.0 refl

-- a byte that leaves all as it is
stays : (q : State) (n : Notes) (place b : ℕ) (rest : List ℕ) → step q b ≡ q → settled q b ≡ q → settled_notes q b place n ≡ n → moved_notes q b place n ≡ n
    → recorded q n place (b ∷ rest) ≡ recorded q n (suc place) rest
stays q n place b rest e s t m =
    ap (λ z. recorded z (noted q b place n) (suc place) rest) e
    ∙ ap (λ z. recorded q z (suc place) rest) (ap (λ z. moved_notes z b place (settled_notes q b place n)) s ∙ ap (moved_notes q b place) t ∙ m)

-- Digits change nothing in the states that they stay in.
whole_goes_on : (digits : List Digit) (stack : List Frame) (n : Notes) (place : ℕ) (rest : List ℕ)
    → recorded (Machine.in_whole stack) n place (digit_bytes digits rest) ≡ recorded (Machine.in_whole stack) n (place + length digits) rest
whole_goes_on [] stack n place rest = here _ n rest (omega arith)
whole_goes_on (d ∷ digits) stack n place rest =
    stays (Machine.in_whole stack) n place d.byte (digit_bytes digits rest) (rw d.digit refl) (rw d.digit refl) (rw d.digit refl) (rw d.digit refl)
    ∙ whole_goes_on digits stack n (suc place) rest ∙ here _ n rest (omega arith)

fraction_goes_on : (digits : List Digit) (stack : List Frame) (n : Notes) (place : ℕ) (rest : List ℕ)
    → recorded (Machine.in_fraction stack) n place (digit_bytes digits rest) ≡ recorded (Machine.in_fraction stack) n (place + length digits) rest
fraction_goes_on [] stack n place rest = here _ n rest (omega arith)
fraction_goes_on (d ∷ digits) stack n place rest =
    stays (Machine.in_fraction stack) n place d.byte (digit_bytes digits rest) (rw d.digit refl) (rw d.digit refl) (rw d.digit refl) (rw d.digit refl)
    ∙ fraction_goes_on digits stack n (suc place) rest ∙ here _ n rest (omega arith)

power_goes_on : (digits : List Digit) (stack : List Frame) (n : Notes) (place : ℕ) (rest : List ℕ)
    → recorded (Machine.in_power stack) n place (digit_bytes digits rest) ≡ recorded (Machine.in_power stack) n (place + length digits) rest
power_goes_on [] stack n place rest = here _ n rest (omega arith)
power_goes_on (d ∷ digits) stack n place rest =
    stays (Machine.in_power stack) n place d.byte (digit_bytes digits rest) (rw d.digit refl) (rw d.digit refl) (rw d.digit refl) (rw d.digit refl)
    ∙ power_goes_on digits stack n (suc place) rest ∙ here _ n rest (omega arith)

-- The number ends at the place where its bytes do.
abbrev EndsAt : State → List Frame → List ℕ → List ℕ → Type 0
EndsAt q stack bytes rest = (n : Notes) (place end : ℕ) → end + length rest ≡ place + length bytes
    → recorded q n place bytes ≡ recorded (Machine.after_value stack) (end_value end n) end rest

moved_end : (stack : List Frame) (n : Notes) (rest : List ℕ) {a b : ℕ} → a ≡ b
    → recorded (Machine.after_value stack) (end_value a n) a rest ≡ recorded (Machine.after_value stack) (end_value b n) b rest
moved_end stack n rest e = ap (λ a. recorded (Machine.after_value stack) (end_value a n) a rest) e

power_to_end : (digits : List Digit) (stack : List Frame) (rest : List ℕ) → Follows rest → EndsAt (Machine.in_power stack) stack (digit_bytes digits rest) rest
power_to_end digits stack rest f = λ n place end e.
    power_goes_on digits stack n place rest ∙ power_ends stack n (place + length digits) rest f
    ∙ moved_end stack n rest (omega (arith, e, digits_long digits rest))

sign_to_end : (sign : Sign) (digits : Digits) (stack : List Frame) (rest : List ℕ) → Follows rest
    → EndsAt (Machine.after_exponent stack) stack (sign_bytes sign (digits.first.byte ∷ digit_bytes digits.more rest)) rest
sign_to_end unsigned digits stack rest f = λ n place end e.
    rw (digits.first.digit, recorded) (power_to_end digits.more stack rest f n (suc place) end (omega (arith, e)))
sign_to_end plus digits stack rest f = λ n place end e.
    rw (digits.first.digit, recorded) (power_to_end digits.more stack rest f n (suc (suc place)) end (omega (arith, e)))
sign_to_end minus digits stack rest f = λ n place end e.
    rw (digits.first.digit, recorded) (power_to_end digits.more stack rest f n (suc (suc place)) end (omega (arith, e)))

nought_exponent : (exponent : Option Exponent) (stack : List Frame) (rest : List ℕ) → Follows rest → EndsAt (Machine.after_nought stack) stack (exponent_bytes exponent rest) rest
nought_exponent None stack rest f = λ n place end e. nought_ends stack n place rest f ∙ moved_end stack n rest (omega (arith, e))
nought_exponent (Some exponent) stack rest f = λ n place end e.
    by_letter exponent.letter n place end e
  where
    by_letter : (letter : ExponentLetter) (n : Notes) (place end : ℕ)
        → end + length rest ≡ place + length (exponent_bytes (Some (record { letter = letter; sign = exponent.sign; digits = exponent.digits })) rest)
        → recorded (Machine.after_nought stack) n place (exponent_bytes (Some (record { letter = letter; sign = exponent.sign; digits = exponent.digits })) rest)
        ≡ recorded (Machine.after_value stack) (end_value end n) end rest
    by_letter lower n place end e = sign_to_end exponent.sign exponent.digits stack rest f n (suc place) end (omega (arith, e))
    by_letter upper n place end e = sign_to_end exponent.sign exponent.digits stack rest f n (suc place) end (omega (arith, e))

whole_exponent : (exponent : Option Exponent) (stack : List Frame) (rest : List ℕ) → Follows rest → EndsAt (Machine.in_whole stack) stack (exponent_bytes exponent rest) rest
whole_exponent None stack rest f = λ n place end e. whole_ends stack n place rest f ∙ moved_end stack n rest (omega (arith, e))
whole_exponent (Some exponent) stack rest f = λ n place end e.
    by_letter exponent.letter n place end e
  where
    by_letter : (letter : ExponentLetter) (n : Notes) (place end : ℕ)
        → end + length rest ≡ place + length (exponent_bytes (Some (record { letter = letter; sign = exponent.sign; digits = exponent.digits })) rest)
        → recorded (Machine.in_whole stack) n place (exponent_bytes (Some (record { letter = letter; sign = exponent.sign; digits = exponent.digits })) rest)
        ≡ recorded (Machine.after_value stack) (end_value end n) end rest
    by_letter lower n place end e = sign_to_end exponent.sign exponent.digits stack rest f n (suc place) end (omega (arith, e))
    by_letter upper n place end e = sign_to_end exponent.sign exponent.digits stack rest f n (suc place) end (omega (arith, e))

fraction_exponent : (exponent : Option Exponent) (stack : List Frame) (rest : List ℕ) → Follows rest → EndsAt (Machine.in_fraction stack) stack (exponent_bytes exponent rest) rest
fraction_exponent None stack rest f = λ n place end e. fraction_ends stack n place rest f ∙ moved_end stack n rest (omega (arith, e))
fraction_exponent (Some exponent) stack rest f = λ n place end e.
    by_letter exponent.letter n place end e
  where
    by_letter : (letter : ExponentLetter) (n : Notes) (place end : ℕ)
        → end + length rest ≡ place + length (exponent_bytes (Some (record { letter = letter; sign = exponent.sign; digits = exponent.digits })) rest)
        → recorded (Machine.in_fraction stack) n place (exponent_bytes (Some (record { letter = letter; sign = exponent.sign; digits = exponent.digits })) rest)
        ≡ recorded (Machine.after_value stack) (end_value end n) end rest
    by_letter lower n place end e = sign_to_end exponent.sign exponent.digits stack rest f n (suc place) end (omega (arith, e))
    by_letter upper n place end e = sign_to_end exponent.sign exponent.digits stack rest f n (suc place) end (omega (arith, e))

point_to_end : (digits : Digits) (exponent : Option Exponent) (stack : List Frame) (rest : List ℕ) → Follows rest
    → EndsAt (Machine.after_point stack) stack (digits.first.byte ∷ digit_bytes digits.more (exponent_bytes exponent rest)) rest
point_to_end digits exponent stack rest f = λ n place end e.
    rw (digits.first.digit, recorded)
    (fraction_goes_on digits.more stack n (suc place) (exponent_bytes exponent rest)
    ∙ fraction_exponent exponent stack rest f n (suc place + length digits.more) end (omega (arith, e, digits_long digits.more (exponent_bytes exponent rest))))

nought_to_end : (fraction : Option Digits) (exponent : Option Exponent) (stack : List Frame) (rest : List ℕ) → Follows rest
    → EndsAt (Machine.after_nought stack) stack (fraction_bytes fraction (exponent_bytes exponent rest)) rest
nought_to_end None exponent stack rest f = nought_exponent exponent stack rest f
nought_to_end (Some digits) exponent stack rest f = λ n place end e. point_to_end digits exponent stack rest f n (suc place) end (omega (arith, e))

whole_to_end : (fraction : Option Digits) (exponent : Option Exponent) (stack : List Frame) (rest : List ℕ) → Follows rest
    → EndsAt (Machine.in_whole stack) stack (fraction_bytes fraction (exponent_bytes exponent rest)) rest
whole_to_end None exponent stack rest f = whole_exponent exponent stack rest f
whole_to_end (Some digits) exponent stack rest f = λ n place end e. point_to_end digits exponent stack rest f n (suc place) end (omega (arith, e))

-- where the digits before a point or an exponent end
first_to_end : (more : List Digit) (fraction : Option Digits) (exponent : Option Exponent) (stack : List Frame) (rest : List ℕ) → Follows rest
    → EndsAt (Machine.in_whole stack) stack (digit_bytes more (fraction_bytes fraction (exponent_bytes exponent rest))) rest
first_to_end more fraction exponent stack rest f = λ n place end e.
    whole_goes_on more stack n place (fraction_bytes fraction (exponent_bytes exponent rest))
    ∙ whole_to_end fraction exponent stack rest f n (place + length more) end (omega (arith, e, digits_long more (fraction_bytes fraction (exponent_bytes exponent rest))))

minus_to_end : (whole : Whole) (fraction : Option Digits) (exponent : Option Exponent) (stack : List Frame) (rest : List ℕ) → Follows rest
    → EndsAt (Machine.after_minus stack) stack (whole_bytes whole (fraction_bytes fraction (exponent_bytes exponent rest))) rest
minus_to_end nought fraction exponent stack rest f = λ n place end e. nought_to_end fraction exponent stack rest f n (suc place) end (omega (arith, e))
minus_to_end (positive first more) fraction exponent stack rest f = λ n place end e.
    rw (first.digit, recorded) (first_to_end more fraction exponent stack rest f n (suc place) end (omega (arith, e)))

pub number_recorded : (negative : Bool) (whole : Whole) (fraction : Option Digits) (exponent : Option Exponent) (stack : List Frame) (rest : List ℕ) → Follows rest
    → (n : Notes) (place end : ℕ) → end + length rest ≡ place + length (minus_bytes negative (whole_bytes whole (fraction_bytes fraction (exponent_bytes exponent rest))))
    → recorded (Machine.before_value stack) n place (minus_bytes negative (whole_bytes whole (fraction_bytes fraction (exponent_bytes exponent rest))))
    ≡ recorded (Machine.after_value stack) (end_value end (begin_value Kind.Number place n)) end rest
number_recorded true whole fraction exponent stack rest f n place end e =
    minus_to_end whole fraction exponent stack rest f (begin_value Kind.Number place n) (suc place) end (omega (arith, e))
number_recorded false nought fraction exponent stack rest f n place end e =
    nought_to_end fraction exponent stack rest f (begin_value Kind.Number place n) (suc place) end (omega (arith, e))
number_recorded false (positive first more) fraction exponent stack rest f n place end e =
    rw (first.digit, recorded) (first_to_end more fraction exponent stack rest f (begin_value Kind.Number place n) (suc place) end (omega (arith, e)))
