-- No bytes are spelled by two trees: what a production spells, and what is behind it, is known from the bytes, where
-- what is behind it can't be a part of it.
use Rattle.std.proofs.Common.{◌≡◌, ℕ, Bool, true, false, cond, ◌||◌, List, [], ◌∷◌, Option, Some, None, refl, arith, ◌==◌}
use Rattle.json_text.specs.Byte.{is_white, is_digit, is_first_digit, is_hex_digit, is_exponent, is_plain, is_escape}
use Rattle.json_text.specs.Syntax.{White, space, tab, line_feed, carriage_return, ExponentLetter, lower, upper, Digit, FirstDigit, HexDigit, Digits, Whole, nought, positive, Sign, unsigned, plus, minus, Exponent, Number, Mark, plain, escape, unit, Literal, null_literal, true_literal, false_literal, Value, literal, number, string, array, object, Items, no_items, items, MoreItems, last_item, next_item, Members, no_members, members, MoreMembers, last_member, next_member, Text}
use Rattle.json_text.specs.Grammar.{white_byte, white_bytes, digit_bytes, whole_bytes, fraction_bytes, sign_bytes, letter_byte, exponent_bytes, minus_bytes, number_bytes, mark_bytes, literal_bytes, value_bytes, items_bytes, more_items_bytes, members_bytes, more_members_bytes, TextsAreUnambiguous}
use mathlib.Core.Bool.{Bool-set}
use mathlib.Core.Path.{subst, ap, sym, ◌∙◌}

-- the first byte, or a byte that the grammar doesn't name
abbrev first : List ℕ → ℕ
first [] = 0
first (b ∷ bytes) = b

abbrev tail : List ℕ → List ℕ
tail [] = []
tail (b ∷ bytes) = bytes

wrong : {A : Type 0} → false ≡ true → A
wrong e = grind (arith, e)

-- Equal bytes pass the same test.
differ : {A : Type 0} (test : ℕ → Bool) (x y : ℕ) → test x ≡ true → test y ≡ false → x ≡ y → A
differ test x y p q e = wrong (sym q ∙ ap test (sym e) ∙ p)

-- A byte that passes a test does so in one way.
module _ {A : Type 0} (test : ℕ → Bool) (make : (b : ℕ) → test b ≡ true → A) where
  tested_same : (x y : ℕ) (p : test x ≡ true) (q : test y ≡ true) → x ≡ y → make x p ≡ make y q
  tested_same x y p q e = subst (λ y. (q : test y ≡ true) → make x p ≡ make y q) e (λ q. ap (make x) (Bool-set (test x) true p q)) q

digit_same : (d e : Digit) → d.byte ≡ e.byte → d ≡ e
digit_same d e s = tested_same is_digit (λ b p. let made : Digit = record { byte = b; digit = p } in made) d.byte e.byte d.digit e.digit s

first_digit_same : (d e : FirstDigit) → d.byte ≡ e.byte → d ≡ e
first_digit_same d e s = tested_same is_first_digit (λ b p. let made : FirstDigit = record { byte = b; digit = p } in made) d.byte e.byte d.digit e.digit s

hex_digit_same : (d e : HexDigit) → d.byte ≡ e.byte → d ≡ e
hex_digit_same d e s = tested_same is_hex_digit (λ b p. let made : HexDigit = record { byte = b; digit = p } in made) d.byte e.byte d.digit e.digit s

-- White space, before a byte that is none.
white_of : ℕ → White
white_of b = cond (b == 32) space (cond (b == 9) tab (cond (b == 10) line_feed carriage_return))

white_again : (w : White) → white_of (white_byte w) ≡ w
unfolding white_of
white_again space = refl
white_again tab = refl
white_again line_feed = refl
white_again carriage_return = refl

white_is : (w : White) → is_white (white_byte w) ≡ true
white_is space = refl
white_is tab = refl
white_is line_feed = refl
white_is carriage_return = refl

white_same : (w v : White) → white_byte w ≡ white_byte v → w ≡ v
white_same w v e = sym (white_again w) ∙ ap white_of e ∙ white_again v

whites_same : (ws vs : List White) (r s : List ℕ) → is_white (first r) ≡ false → is_white (first s) ≡ false
    → white_bytes ws r ≡ white_bytes vs s → (ws ≡ vs) × (r ≡ s)
whites_same [] [] r s p q e = (refl, e)
whites_same [] (v ∷ vs) r s p q e = differ is_white (white_byte v) (first r) (white_is v) p (sym (ap first e))
whites_same (w ∷ ws) [] r s p q e = differ is_white (white_byte w) (first s) (white_is w) q (ap first e)
whites_same (w ∷ ws) (v ∷ vs) r s p q e =
    let k = whites_same ws vs r s p q (ap tail e) in
    (cc (white_same w v (ap first e), k.0), k.1)

-- Digits, before a byte that is none.
digits_same : (ds es : List Digit) (r s : List ℕ) → is_digit (first r) ≡ false → is_digit (first s) ≡ false
    → digit_bytes ds r ≡ digit_bytes es s → (ds ≡ es) × (r ≡ s)
digits_same [] [] r s p q e = (refl, e)
digits_same [] (x ∷ es) r s p q e = differ is_digit x.byte (first r) x.digit p (sym (ap first e))
digits_same (d ∷ ds) [] r s p q e = differ is_digit d.byte (first s) d.digit q (ap first e)
digits_same (d ∷ ds) (x ∷ es) r s p q e =
    let k = digits_same ds es r s p q (ap tail e) in
    (cc (digit_same d x (ap first e), k.0), k.1)

some_digits_same : (d x : Digits) (r s : List ℕ) → is_digit (first r) ≡ false → is_digit (first s) ≡ false
    → d.first.byte ∷ digit_bytes d.more r ≡ x.first.byte ∷ digit_bytes x.more s → (d ≡ x) × (r ≡ s)
some_digits_same d x r s p q e =
    let k = digits_same d.more x.more r s p q (ap tail e) in
    let make : Digit → List Digit → Digits = λ first more. record { first = first; more = more } in
    (ap (λ z. make z d.more) (digit_same d.first x.first (ap first e)) ∙ ap (make x.first) k.0, k.1)

-- What is behind a number is no part of it.
pub record Ends (bytes : List ℕ) : Type 0 where
  pub digit : is_digit (first bytes) ≡ false
  pub point : (first bytes == 46) ≡ false
  pub exponent : is_exponent (first bytes) ≡ false

letter_of : ℕ → ExponentLetter
letter_of b = cond (b == 101) lower upper

letter_again : (l : ExponentLetter) → letter_of (letter_byte l) ≡ l
unfolding letter_of
letter_again lower = refl
letter_again upper = refl

letter_is : (l : ExponentLetter) → (is_exponent (letter_byte l) ≡ true) × (is_digit (letter_byte l) ≡ false) × ((letter_byte l == 46) ≡ false)
letter_is lower = (refl, refl, refl)
letter_is upper = (refl, refl, refl)

letter_same : (l m : ExponentLetter) → letter_byte l ≡ letter_byte m → l ≡ m
letter_same l m e = sym (letter_again l) ∙ ap letter_of e ∙ letter_again m

sign_same : (x y : Sign) (d c : Digits) (r s : List ℕ) → is_digit (first r) ≡ false → is_digit (first s) ≡ false
    → sign_bytes x (d.first.byte ∷ digit_bytes d.more r) ≡ sign_bytes y (c.first.byte ∷ digit_bytes c.more s) → (x ≡ y) × (d ≡ c) × (r ≡ s)
sign_same unsigned unsigned d c r s p q e = let k = some_digits_same d c r s p q e in (refl, k.0, k.1)
sign_same plus plus d c r s p q e = let k = some_digits_same d c r s p q (ap tail e) in (refl, k.0, k.1)
sign_same minus minus d c r s p q e = let k = some_digits_same d c r s p q (ap tail e) in (refl, k.0, k.1)
sign_same unsigned plus d c r s p q e = differ is_digit d.first.byte 43 d.first.digit refl (ap first e)
sign_same unsigned minus d c r s p q e = differ is_digit d.first.byte 45 d.first.digit refl (ap first e)
sign_same plus unsigned d c r s p q e = differ is_digit c.first.byte 43 c.first.digit refl (sym (ap first e))
sign_same minus unsigned d c r s p q e = differ is_digit c.first.byte 45 c.first.digit refl (sym (ap first e))
sign_same plus minus d c r s p q e = absurd (omega (arith, ap first e))
sign_same minus plus d c r s p q e = absurd (omega (arith, ap first e))

exponent_same : (x y : Option Exponent) (r s : List ℕ) → Ends r → Ends s → exponent_bytes x r ≡ exponent_bytes y s → (x ≡ y) × (r ≡ s)
exponent_same None None r s p q e = (refl, e)
exponent_same None (Some y) r s p q e = differ is_exponent (letter_byte y.letter) (first r) (letter_is y.letter).0 p.exponent (sym (ap first e))
exponent_same (Some x) None r s p q e = differ is_exponent (letter_byte x.letter) (first s) (letter_is x.letter).0 q.exponent (ap first e)
exponent_same (Some x) (Some y) r s p q e =
    let k = sign_same x.sign y.sign x.digits y.digits r s p.digit q.digit (ap tail e) in
    let make : ExponentLetter → Sign → Digits → Option Exponent = λ letter sign digits. Some (record { letter = letter; sign = sign; digits = digits }) in
    (ap (λ z. make z x.sign x.digits) (letter_same x.letter y.letter (ap first e)) ∙ ap (λ z. make y.letter z x.digits) k.0 ∙ ap (make y.letter y.sign) k.1, k.2)

after_fraction : (x : Option Exponent) (r : List ℕ) → Ends r → (is_digit (first (exponent_bytes x r)) ≡ false) × ((first (exponent_bytes x r) == 46) ≡ false)
after_fraction None r p = (p.digit, p.point)
after_fraction (Some x) r p = let l = letter_is x.letter in (l.1, l.2)

fraction_same : (x y : Option Digits) (r s : List ℕ) → (is_digit (first r) ≡ false) × ((first r == 46) ≡ false) → (is_digit (first s) ≡ false) × ((first s == 46) ≡ false)
    → fraction_bytes x r ≡ fraction_bytes y s → (x ≡ y) × (r ≡ s)
fraction_same None None r s p q e = (refl, e)
fraction_same None (Some y) r s p q e = differ (λ b. b == 46) 46 (first r) refl p.1 (sym (ap first e))
fraction_same (Some x) None r s p q e = differ (λ b. b == 46) 46 (first s) refl q.1 (ap first e)
fraction_same (Some x) (Some y) r s p q e = let k = some_digits_same x y r s p.0 q.0 (ap tail e) in (ap Some k.0, k.1)

after_whole : (x : Option Digits) (r : List ℕ) → is_digit (first r) ≡ false → is_digit (first (fraction_bytes x r)) ≡ false
after_whole None r p = p
after_whole (Some x) r p = refl

whole_same : (x y : Whole) (r s : List ℕ) → is_digit (first r) ≡ false → is_digit (first s) ≡ false
    → whole_bytes x r ≡ whole_bytes y s → (x ≡ y) × (r ≡ s)
whole_same nought nought r s p q e = (refl, ap tail e)
whole_same nought (positive y ys) r s p q e = differ is_first_digit y.byte 48 y.digit refl (sym (ap first e))
whole_same (positive x xs) nought r s p q e = differ is_first_digit x.byte 48 x.digit refl (ap first e)
whole_same (positive x xs) (positive y ys) r s p q e =
    let k = digits_same xs ys r s p q (ap tail e) in
    (cc (first_digit_same x y (ap first e), k.0), k.1)

no_minus : (x : Whole) (r : List ℕ) → (first (whole_bytes x r) == 45) ≡ false
no_minus nought r = refl
no_minus (positive x xs) r = grind (arith, x.digit)

minus_same : (m n : Bool) (r s : List ℕ) → (first r == 45) ≡ false → (first s == 45) ≡ false → minus_bytes m r ≡ minus_bytes n s → (m ≡ n) × (r ≡ s)
minus_same false false r s p q e = (refl, e)
minus_same true true r s p q e = (refl, ap tail e)
minus_same false true r s p q e = differ (λ b. b == 45) 45 (first r) refl p (sym (ap first e))
minus_same true false r s p q e = differ (λ b. b == 45) 45 (first s) refl q (ap first e)

number_same : (x y : Number) (r s : List ℕ) → Ends r → Ends s → number_bytes x r ≡ number_bytes y s → (x ≡ y) × (r ≡ s)
number_same x y r s p q e =
    let a = after_fraction x.exponent r p in
    let b = after_fraction y.exponent s q in
    let k = minus_same x.negative y.negative _ _ (no_minus x.whole _) (no_minus y.whole _) e in
    let l = whole_same x.whole y.whole _ _ (after_whole x.fraction _ a.0) (after_whole y.fraction _ b.0) k.1 in
    let m = fraction_same x.fraction y.fraction _ _ a b l.1 in
    let n = exponent_same x.exponent y.exponent r s p q m.1 in
    let make : Bool → Whole → Option Digits → Option Exponent → Number =
    λ negative whole fraction exponent. record { negative = negative; whole = whole; fraction = fraction; exponent = exponent } in (
      ap (λ z. make z x.whole x.fraction x.exponent) k.0 ∙ ap (λ z. make y.negative z x.fraction x.exponent) l.0
          ∙ ap (λ z. make y.negative y.whole z x.exponent) m.0 ∙ ap (make y.negative y.whole y.fraction) n.0,
      n.1,
    )

-- A string, whatever comes behind it.
marks_same : (xs ys : List Mark) (r s : List ℕ) → mark_bytes xs r ≡ mark_bytes ys s → (xs ≡ ys) × (r ≡ s)
marks_same [] [] r s e = (refl, ap tail e)
marks_same (plain x p ∷ xs) (plain y q ∷ ys) r s e =
    let k = marks_same xs ys r s (ap tail e) in
    (ap (λ z. z ∷ xs) (tested_same is_plain plain x y p q (ap first e)) ∙ ap (λ z. plain y q ∷ z) k.0, k.1)
marks_same (escape x p ∷ xs) (escape y q ∷ ys) r s e =
    let k = marks_same xs ys r s (ap (λ z. tail (tail z)) e) in
    (ap (λ z. z ∷ xs) (tested_same is_escape escape x y p q (ap (λ z. first (tail z)) e)) ∙ ap (λ z. escape y q ∷ z) k.0, k.1)
marks_same (unit a b c d ∷ xs) (unit a' b' c' d' ∷ ys) r s e =
    let behind = ap (λ z. tail (tail z)) e in
    let k = marks_same xs ys r s (ap (λ z. tail (tail (tail (tail z)))) behind) in (
      cc (
        hex_digit_same a a' (ap first behind),
        hex_digit_same b b' (ap (λ z. first (tail z)) behind),
        hex_digit_same c c' (ap (λ z. first (tail (tail z))) behind),
        hex_digit_same d d' (ap (λ z. first (tail (tail (tail z)))) behind),
        k.0,
      ),
      k.1,
    )
marks_same [] (plain y q ∷ ys) r s e = differ is_plain y 34 q refl (sym (ap first e))
marks_same (plain x p ∷ xs) [] r s e = differ is_plain x 34 p refl (ap first e)
marks_same (plain x p ∷ xs) (escape y q ∷ ys) r s e = differ is_plain x 92 p refl (ap first e)
marks_same (plain x p ∷ xs) (unit a b c d ∷ ys) r s e = differ is_plain x 92 p refl (ap first e)
marks_same (escape x p ∷ xs) (plain y q ∷ ys) r s e = differ is_plain y 92 q refl (sym (ap first e))
marks_same (unit a b c d ∷ xs) (plain y q ∷ ys) r s e = differ is_plain y 92 q refl (sym (ap first e))
marks_same (escape x p ∷ xs) (unit a b c d ∷ ys) r s e = differ is_escape x 117 p refl (ap (λ z. first (tail z)) e)
marks_same (unit a b c d ∷ xs) (escape y q ∷ ys) r s e = differ is_escape y 117 q refl (sym (ap (λ z. first (tail z)) e))
marks_same [] (escape y q ∷ ys) r s e = absurd (omega (arith, ap first e))
marks_same [] (unit a b c d ∷ ys) r s e = absurd (omega (arith, ap first e))
marks_same (escape x p ∷ xs) [] r s e = absurd (omega (arith, ap first e))
marks_same (unit a b c d ∷ xs) [] r s e = absurd (omega (arith, ap first e))

literal_same : (x y : Literal) (r s : List ℕ) → literal_bytes x r ≡ literal_bytes y s → (x ≡ y) × (r ≡ s)
literal_same null_literal null_literal r s e = (refl, ap (λ z. tail (tail (tail (tail z)))) e)
literal_same true_literal true_literal r s e = (refl, ap (λ z. tail (tail (tail (tail z)))) e)
literal_same false_literal false_literal r s e = (refl, ap (λ z. tail (tail (tail (tail (tail z))))) e)
literal_same x y r s e = absurd (omega (arith, ap first e))

-- The first byte of a value tells which production it is.
abbrev tag_of : Value → ℕ
tag_of (literal word) = 1
tag_of (number n) = 2
tag_of (string marks) = 3
tag_of (array between) = 4
tag_of (object between) = 5

abbrev tag : ℕ → ℕ
tag b =
    cond (is_first_digit b || (b == 48) || (b == 45)) 2
    (cond (b == 34) 3 (cond (b == 91) 4 (cond (b == 123) 5 1)))

pub record Begins (b kind : ℕ) : Type 0 where
  pub is : tag b ≡ kind
  pub black : is_white b ≡ false
  pub more : (b == 93) ≡ false

a_digit : (b : ℕ) → is_first_digit b ≡ true → Begins b 2
a_digit b p = record { is = rw p refl; black = grind (arith, p); more = grind (arith, p) }

number_begins : (negative : Bool) (whole : Whole) (r : List ℕ) → Begins (first (minus_bytes negative (whole_bytes whole r))) 2
number_begins true whole r = record { is = refl; black = refl; more = refl }
number_begins false nought r = record { is = refl; black = refl; more = refl }
number_begins false (positive first more) r = a_digit first.byte first.digit

value_begins : (v : Value) (r : List ℕ) → Begins (first (value_bytes v r)) (tag_of v)
value_begins (literal null_literal) r = record { is = refl; black = refl; more = refl }
value_begins (literal true_literal) r = record { is = refl; black = refl; more = refl }
value_begins (literal false_literal) r = record { is = refl; black = refl; more = refl }
value_begins (number n) r = number_begins n.negative n.whole _
value_begins (string marks) r = record { is = refl; black = refl; more = refl }
value_begins (array between) r = record { is = refl; black = refl; more = refl }
value_begins (object between) r = record { is = refl; black = refl; more = refl }

same_tags : (v w : Value) (r s : List ℕ) → value_bytes v r ≡ value_bytes w s → tag_of v ≡ tag_of w
same_tags v w r s e = sym (value_begins v r).is ∙ ap (λ z. tag (first z)) e ∙ (value_begins w s).is

-- What is behind a value.
white_ends : (ws : List White) (r : List ℕ) → Ends r → Ends (white_bytes ws r)
white_ends [] r p = p
white_ends (space ∷ ws) r p = record { digit = refl; point = refl; exponent = refl }
white_ends (tab ∷ ws) r p = record { digit = refl; point = refl; exponent = refl }
white_ends (line_feed ∷ ws) r p = record { digit = refl; point = refl; exponent = refl }
white_ends (carriage_return ∷ ws) r p = record { digit = refl; point = refl; exponent = refl }

items_end : (more : MoreItems) (r : List ℕ) → Ends (more_items_bytes more r)
items_end last_item r = record { digit = refl; point = refl; exponent = refl }
items_end (next_item before value after more) r = record { digit = refl; point = refl; exponent = refl }

items_black : (more : MoreItems) (r : List ℕ) → is_white (first (more_items_bytes more r)) ≡ false
items_black last_item r = refl
items_black (next_item before value after more) r = refl

members_end : (more : MoreMembers) (r : List ℕ) → Ends (more_members_bytes more r)
members_end last_member r = record { digit = refl; point = refl; exponent = refl }
members_end (next_member before name after_name before_value value after more) r = record { digit = refl; point = refl; exponent = refl }

members_black : (more : MoreMembers) (r : List ℕ) → is_white (first (more_members_bytes more r)) ≡ false
members_black last_member r = refl
members_black (next_member before name after_name before_value value after more) r = refl

mutual
  value_same : (v w : Value) (r s : List ℕ) → Ends r → Ends s → value_bytes v r ≡ value_bytes w s → (v ≡ w) × (r ≡ s)
  value_same (literal x) (literal y) r s p q e = let k = literal_same x y r s e in (ap literal k.0, k.1)
  value_same (number x) (number y) r s p q e = let k = number_same x y r s p q e in (ap number k.0, k.1)
  value_same (string x) (string y) r s p q e = let k = marks_same x y r s (ap tail e) in (ap string k.0, k.1)
  value_same (array x) (array y) r s p q e = let k = items_same x y r s (ap tail e) in (ap array k.0, k.1)
  value_same (object x) (object y) r s p q e = let k = members_same x y r s (ap tail e) in (ap object k.0, k.1)
  value_same v w r s p q e = absurd (omega (arith, same_tags v w r s e))

  items_same : (x y : Items) (r s : List ℕ) → items_bytes x r ≡ items_bytes y s → (x ≡ y) × (r ≡ s)
  items_same (no_items ws) (no_items vs) r s e =
      let k = whites_same ws vs (93 ∷ r) (93 ∷ s) refl refl e in
      (ap no_items k.0, ap tail k.1)
  items_same (no_items ws) (items c w d n) r s e =
      let t = value_begins w (white_bytes d (more_items_bytes n s)) in
      let k = whites_same ws c (93 ∷ r) _ refl t.black e in
      differ (λ b. b == 93) 93 _ refl t.more (ap first k.1)
  items_same (items b v a m) (no_items vs) r s e =
      let t = value_begins v (white_bytes a (more_items_bytes m r)) in
      let k = whites_same b vs _ (93 ∷ s) t.black refl e in
      differ (λ b. b == 93) 93 _ refl t.more (sym (ap first k.1))
  items_same (items b v a m) (items c w d n) r s e =
      let k = whites_same b c _ _ (value_begins v _).black (value_begins w _).black e in
      let l = value_same v w _ _ (white_ends a _ (items_end m r)) (white_ends d _ (items_end n s)) k.1 in
      let o = whites_same a d _ _ (items_black m r) (items_black n s) l.1 in
      let z = more_items_same m n r s o.1 in
      (cc (k.0, l.0, o.0, z.0), z.1)

  more_items_same : (x y : MoreItems) (r s : List ℕ) → more_items_bytes x r ≡ more_items_bytes y s → (x ≡ y) × (r ≡ s)
  more_items_same last_item last_item r s e = (refl, ap tail e)
  more_items_same last_item (next_item c w d n) r s e = absurd (omega (arith, ap first e))
  more_items_same (next_item b v a m) last_item r s e = absurd (omega (arith, ap first e))
  more_items_same (next_item b v a m) (next_item c w d n) r s e =
      let k = whites_same b c _ _ (value_begins v _).black (value_begins w _).black (ap tail e) in
      let l = value_same v w _ _ (white_ends a _ (items_end m r)) (white_ends d _ (items_end n s)) k.1 in
      let o = whites_same a d _ _ (items_black m r) (items_black n s) l.1 in
      let z = more_items_same m n r s o.1 in
      (cc (k.0, l.0, o.0, z.0), z.1)

  members_same : (x y : Members) (r s : List ℕ) → members_bytes x r ≡ members_bytes y s → (x ≡ y) × (r ≡ s)
  members_same (no_members ws) (no_members vs) r s e =
      let k = whites_same ws vs (125 ∷ r) (125 ∷ s) refl refl e in
      (ap no_members k.0, ap tail k.1)
  members_same (no_members ws) (members c y f g w d n) r s e =
      let k = whites_same ws c (125 ∷ r) _ refl refl e in
      absurd (omega (arith, ap first k.1))
  members_same (members b x h i v a m) (no_members vs) r s e =
      let k = whites_same b vs _ (125 ∷ s) refl refl e in
      absurd (omega (arith, ap first k.1))
  members_same (members b x h i v a m) (members c y f g w d n) r s e =
      let k = whites_same b c _ _ refl refl e in
      let t = marks_same x y _ _ (ap tail k.1) in
      let j = whites_same h f _ _ refl refl t.1 in
      let u = whites_same i g _ _ (value_begins v _).black (value_begins w _).black (ap tail j.1) in
      let l = value_same v w _ _ (white_ends a _ (members_end m r)) (white_ends d _ (members_end n s)) u.1 in
      let o = whites_same a d _ _ (members_black m r) (members_black n s) l.1 in
      let z = more_members_same m n r s o.1 in
      (cc (k.0, t.0, j.0, u.0, l.0, o.0, z.0), z.1)

  more_members_same : (x y : MoreMembers) (r s : List ℕ) → more_members_bytes x r ≡ more_members_bytes y s → (x ≡ y) × (r ≡ s)
  more_members_same last_member last_member r s e = (refl, ap tail e)
  more_members_same last_member (next_member c y f g w d n) r s e = absurd (omega (arith, ap first e))
  more_members_same (next_member b x h i v a m) last_member r s e = absurd (omega (arith, ap first e))
  more_members_same (next_member b x h i v a m) (next_member c y f g w d n) r s e =
      let k = whites_same b c _ _ refl refl (ap tail e) in
      let t = marks_same x y _ _ (ap tail k.1) in
      let j = whites_same h f _ _ refl refl t.1 in
      let u = whites_same i g _ _ (value_begins v _).black (value_begins w _).black (ap tail j.1) in
      let l = value_same v w _ _ (white_ends a _ (members_end m r)) (white_ends d _ (members_end n s)) u.1 in
      let o = whites_same a d _ _ (members_black m r) (members_black n s) l.1 in
      let z = more_members_same m n r s o.1 in
      (cc (k.0, t.0, j.0, u.0, l.0, o.0, z.0), z.1)

pub texts_are_unambiguous : TextsAreUnambiguous
texts_are_unambiguous x y e =
    let nothing : Ends [] = record { digit = refl; point = refl; exponent = refl } in
    let k = whites_same x.before y.before _ _ (value_begins x.value _).black (value_begins y.value _).black e in
    let l = value_same x.value y.value _ _ (white_ends x.after [] nothing) (white_ends y.after [] nothing) k.1 in
    let o = whites_same x.after y.after [] [] refl refl l.1 in
    let make : List White → Value → List White → Text = λ before value after. record { before = before; value = value; after = after } in
    ap (λ z. make z x.value x.after) k.0 ∙ ap (λ z. make y.before z x.after) l.0 ∙ ap (make y.before y.value) o.0
