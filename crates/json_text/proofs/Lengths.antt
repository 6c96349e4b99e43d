-- What follows a production follows its own bytes, and how many nodes there are.
use Rattle.std.proofs.Common.{◌≡◌, ℕ, suc, Bool, true, false, List, [], ◌∷◌, ◌++◌, Option, Some, None, refl, arith, ◌+◌, length, append_assoc, length-append}
use Rattle.json_text.specs.Syntax.{White, Digit, Digits, Whole, nought, positive, Sign, unsigned, plus, minus, Exponent, Number, Mark, plain, escape, unit, Literal, null_literal, true_literal, false_literal, Value, literal, number, string, array, object, Items, no_items, items, MoreItems, last_item, next_item, Members, no_members, members, MoreMembers, last_member, next_member}
use Rattle.json_text.specs.Grammar.{white_byte, white_bytes, digit_bytes, whole_bytes, fraction_bytes, letter_byte, exponent_bytes, sign_bytes, minus_bytes, number_bytes, mark_bytes, literal_bytes, value_bytes, items_bytes, more_items_bytes, members_bytes, more_members_bytes}
use Rattle.json_text.specs.Node.{value_nodes, items_nodes, more_items_nodes, members_nodes, more_members_nodes}
use Rattle.json_text.specs.Shapes.{value_shapes, items_shapes, more_items_shapes, members_shapes, more_members_shapes}
use mathlib.Core.Path.{ap, sym, ◌∙◌}

abbrev pub Splits : (List ℕ → List ℕ) → Type 0
Splits f = (rest : List ℕ) → f rest ≡ f [] ++ rest

-- one byte, and then others
byte_then : (b : ℕ) (f : List ℕ → List ℕ) → Splits f → Splits (λ rest. b ∷ f rest)
byte_then b f s = λ rest. ap (λ z. b ∷ z) (s rest)

both : (f g : List ℕ → List ℕ) → Splits f → Splits g → Splits (λ rest. f (g rest))
both f g s t = λ rest. ap f (t rest) ∙ s (g [] ++ rest) ∙ sym (append_assoc (f []) (g []) rest) ∙ ap (λ z. z ++ rest) (sym (s (g [])))

none : Splits (λ rest. rest)
none = λ rest. refl

pub white_splits : (whites : List White) → Splits (white_bytes whites)
white_splits [] = none
white_splits (w ∷ whites) = byte_then (white_byte w) (white_bytes whites) (white_splits whites)

pub digits_split : (digits : List Digit) → Splits (digit_bytes digits)
digits_split [] = none
digits_split (d ∷ digits) = byte_then d.byte (digit_bytes digits) (digits_split digits)

whole_splits : (whole : Whole) → Splits (whole_bytes whole)
whole_splits nought = byte_then 48 (λ rest. rest) none
whole_splits (positive first more) = byte_then first.byte (digit_bytes more) (digits_split more)

fraction_splits : (fraction : Option Digits) → Splits (fraction_bytes fraction)
fraction_splits None = none
fraction_splits (Some digits) = byte_then 46 (λ rest. digits.first.byte ∷ digit_bytes digits.more rest) (byte_then digits.first.byte (digit_bytes digits.more) (digits_split digits.more))

sign_splits : (sign : Sign) → Splits (sign_bytes sign)
sign_splits unsigned = none
sign_splits plus = byte_then 43 (λ rest. rest) none
sign_splits minus = byte_then 45 (λ rest. rest) none

exponent_splits : (exponent : Option Exponent) → Splits (exponent_bytes exponent)
exponent_splits None = none
exponent_splits (Some e) =
    byte_then (letter_byte e.letter) (λ rest. sign_bytes e.sign (e.digits.first.byte ∷ digit_bytes e.digits.more rest))
    (both (sign_bytes e.sign) (λ rest. e.digits.first.byte ∷ digit_bytes e.digits.more rest) (sign_splits e.sign)
    (byte_then e.digits.first.byte (digit_bytes e.digits.more) (digits_split e.digits.more)))

minus_splits : (negative : Bool) → Splits (minus_bytes negative)
minus_splits true = byte_then 45 (λ rest. rest) none
minus_splits false = none

pub number_splits : (n : Number) → Splits (number_bytes n)
number_splits n =
    both (minus_bytes n.negative) (λ rest. whole_bytes n.whole (fraction_bytes n.fraction (exponent_bytes n.exponent rest))) (minus_splits n.negative)
    (both (whole_bytes n.whole) (λ rest. fraction_bytes n.fraction (exponent_bytes n.exponent rest)) (whole_splits n.whole)
    (both (fraction_bytes n.fraction) (exponent_bytes n.exponent) (fraction_splits n.fraction) (exponent_splits n.exponent)))

pub marks_split : (marks : List Mark) → Splits (mark_bytes marks)
marks_split [] = byte_then 34 (λ rest. rest) none
marks_split (plain b _ ∷ marks) = byte_then b (mark_bytes marks) (marks_split marks)
marks_split (escape b _ ∷ marks) = byte_then 92 (λ rest. b ∷ mark_bytes marks rest) (byte_then b (mark_bytes marks) (marks_split marks))
marks_split (unit x y z w ∷ marks) = λ rest. ap (λ m. 92 ∷ 117 ∷ x.byte ∷ y.byte ∷ z.byte ∷ w.byte ∷ m) (marks_split marks rest)

literal_splits : (word : Literal) → Splits (literal_bytes word)
literal_splits null_literal = λ rest. refl
literal_splits true_literal = λ rest. refl
literal_splits false_literal = λ rest. refl

-- a name, and the value after it
named_splits : (name : List Mark) (after_name before_value : List White) (f : List ℕ → List ℕ) → Splits f
    → Splits (λ rest. 34 ∷ mark_bytes name (white_bytes after_name (58 ∷ white_bytes before_value (f rest))))
named_splits name after_name before_value f s =
    byte_then 34 (λ rest. mark_bytes name (white_bytes after_name (58 ∷ white_bytes before_value (f rest))))
    (both (mark_bytes name) (λ rest. white_bytes after_name (58 ∷ white_bytes before_value (f rest))) (marks_split name)
    (both (white_bytes after_name) (λ rest. 58 ∷ white_bytes before_value (f rest)) (white_splits after_name)
    (byte_then 58 (λ rest. white_bytes before_value (f rest)) (both (white_bytes before_value) f (white_splits before_value) s))))

mutual
  pub value_splits : (value : Value) → Splits (value_bytes value)
  value_splits (literal word) = literal_splits word
  value_splits (number n) = number_splits n
  value_splits (string marks) = byte_then 34 (mark_bytes marks) (marks_split marks)
  value_splits (array between) = byte_then 91 (items_bytes between) (items_split between)
  value_splits (object between) = byte_then 123 (members_bytes between) (members_split between)

  pub items_split : (between : Items) → Splits (items_bytes between)
  items_split (no_items whites) = both (white_bytes whites) (λ rest. 93 ∷ rest) (white_splits whites) (byte_then 93 (λ rest. rest) none)
  items_split (items before value after more) =
      both (white_bytes before) (λ rest. value_bytes value (white_bytes after (more_items_bytes more rest))) (white_splits before)
      (both (value_bytes value) (λ rest. white_bytes after (more_items_bytes more rest)) (value_splits value)
      (both (white_bytes after) (more_items_bytes more) (white_splits after) (more_items_split more)))

  pub more_items_split : (more : MoreItems) → Splits (more_items_bytes more)
  more_items_split last_item = byte_then 93 (λ rest. rest) none
  more_items_split (next_item before value after more) =
      byte_then 44 (λ rest. white_bytes before (value_bytes value (white_bytes after (more_items_bytes more rest))))
      (both (white_bytes before) (λ rest. value_bytes value (white_bytes after (more_items_bytes more rest))) (white_splits before)
      (both (value_bytes value) (λ rest. white_bytes after (more_items_bytes more rest)) (value_splits value)
      (both (white_bytes after) (more_items_bytes more) (white_splits after) (more_items_split more))))

  pub members_split : (between : Members) → Splits (members_bytes between)
  members_split (no_members whites) = both (white_bytes whites) (λ rest. 125 ∷ rest) (white_splits whites) (byte_then 125 (λ rest. rest) none)
  members_split (members before name after_name before_value value after more) =
      both (white_bytes before) (λ rest. 34 ∷ mark_bytes name (white_bytes after_name (58 ∷ white_bytes before_value (value_bytes value (white_bytes after (more_members_bytes more rest)))))) (white_splits before)
      (named_splits name after_name before_value (λ rest. value_bytes value (white_bytes after (more_members_bytes more rest)))
      (both (value_bytes value) (λ rest. white_bytes after (more_members_bytes more rest)) (value_splits value)
      (both (white_bytes after) (more_members_bytes more) (white_splits after) (more_members_split more))))

  pub more_members_split : (more : MoreMembers) → Splits (more_members_bytes more)
  more_members_split last_member = byte_then 125 (λ rest. rest) none
  more_members_split (next_member before name after_name before_value value after more) =
      byte_then 44 (λ rest. white_bytes before (34 ∷ mark_bytes name (white_bytes after_name (58 ∷ white_bytes before_value (value_bytes value (white_bytes after (more_members_bytes more rest)))))))
      (both (white_bytes before) (λ rest. 34 ∷ mark_bytes name (white_bytes after_name (58 ∷ white_bytes before_value (value_bytes value (white_bytes after (more_members_bytes more rest)))))) (white_splits before)
      (named_splits name after_name before_value (λ rest. value_bytes value (white_bytes after (more_members_bytes more rest)))
      (both (value_bytes value) (λ rest. white_bytes after (more_members_bytes more rest)) (value_splits value)
      (both (white_bytes after) (more_members_bytes more) (white_splits after) (more_members_split more)))))

-- how long what follows makes it
pub long : (f : List ℕ → List ℕ) → Splits f → (rest : List ℕ) → length (f rest) ≡ length (f []) + length rest
long f s rest = ap length (s rest) ∙ length-append (f []) rest

pub white_long : (whites : List White) (rest : List ℕ) → length (white_bytes whites rest) ≡ length whites + length rest
white_long [] rest = omega arith
white_long (w ∷ whites) rest = omega (arith, white_long whites rest)

pub digits_long : (digits : List Digit) (rest : List ℕ) → length (digit_bytes digits rest) ≡ length digits + length rest
digits_long [] rest = omega arith
digits_long (d ∷ digits) rest = omega (arith, digits_long digits rest)

count_both : {A B : Type 0} (xs ys : List A) (us vs : List B) → length xs ≡ length us → length ys ≡ length vs → length (xs ++ ys) ≡ length (us ++ vs)
count_both xs ys us vs e f = omega (arith, length-append xs ys, length-append us vs, e, f)

-- There are as many shapes as nodes, wherever they stand.
mutual
  pub count_value : (value : Value) (node place from to place2 : ℕ) → length (value_shapes value node place from to) ≡ length (value_nodes value place2)
  count_value (literal word) node place from to place2 = refl
  count_value (number n) node place from to place2 = refl
  count_value (string marks) node place from to place2 = refl
  count_value (array between) node place from to place2 = ap suc (count_items between (suc node) (suc place) (suc place2))
  count_value (object between) node place from to place2 = ap suc (count_members between (suc node) (suc place) (suc place2))

  pub count_items : (between : Items) (node place place2 : ℕ) → length (items_shapes between node place) ≡ length (items_nodes between place2)
  count_items (no_items whites) node place place2 = refl
  count_items (items before value after more) node place place2 = count_both _ _ _ _ (count_value value _ _ _ _ _) (count_more_items more _ _ _)

  pub count_more_items : (more : MoreItems) (node place place2 : ℕ) → length (more_items_shapes more node place) ≡ length (more_items_nodes more place2)
  count_more_items last_item node place place2 = refl
  count_more_items (next_item before value after more) node place place2 = count_both _ _ _ _ (count_value value _ _ _ _ _) (count_more_items more _ _ _)

  pub count_members : (between : Members) (node place place2 : ℕ) → length (members_shapes between node place) ≡ length (members_nodes between place2)
  count_members (no_members whites) node place place2 = refl
  count_members (members before name after_name before_value value after more) node place place2 =
      count_both _ _ _ _ (count_value value _ _ _ _ _) (count_more_members more _ _ _)

  pub count_more_members : (more : MoreMembers) (node place place2 : ℕ) → length (more_members_shapes more node place) ≡ length (more_members_nodes more place2)
  count_more_members last_member node place place2 = refl
  count_more_members (next_member before name after_name before_value value after more) node place place2 =
      count_both _ _ _ _ (count_value value _ _ _ _ _) (count_more_members more _ _ _)
