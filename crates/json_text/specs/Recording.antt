-- What the scanner keeps of the beginning of a text, byte by byte: the nodes so far, and what is
-- open.
use Rattle.std.specs.Prelude.{ℕ, zero, suc, ◌-◌, List, [], ◌∷◌, ◌++◌, length, cond, ◌==◌, ◌||◌}
use Rattle.json_text.specs.Byte.{is_white, is_digit, is_first_digit, is_exponent, is_plain}
use Rattle.json_text.specs.Machine
use Rattle.json_text.specs.Machine.{Frame, in_array, in_object, as_value, as_name, step, before_value, after_open_array, after_open_object, before_name, after_name, after_value, in_string, after_backslash, in_unit, in_literal, after_minus, after_nought, in_whole, after_point, in_fraction, after_exponent, after_sign, in_power, fault}
use Rattle.json_text.specs.declared.kind.JsonKind.{JsonKind}
use Rattle.json_text.specs.declared.kind.JsonKind.TheVariants as Kind

-- A value of the text.
pub record Shape : Type 0 where
  pub kind : JsonKind
  -- of its first byte
  pub place : ℕ
  -- behind its last byte, and of an array or an object behind the opening bracket
  pub end : ℕ
  -- the number of the first node that is neither it nor within it
  pub next : ℕ
  -- of its name between the quotation marks, where it is a member's value
  pub name_from : ℕ
  pub name_to : ℕ

pub record Notes : Type 0 where
  pub shapes : List Shape
  -- the numbers of the arrays and objects that are open, the innermost first
  pub opened : List ℕ
  -- of the name that was read last, where its value has not begun
  pub name_from : ℕ
  pub name_to : ℕ

-- a value begins with the byte there
abbrev pub begin_value : JsonKind → ℕ → Notes → Notes
begin_value kind at n = record {
  shapes = n.shapes ++ record {
    kind = kind;
    place = at;
    end = suc at;
    next = suc (length n.shapes);
    name_from = n.name_from;
    name_to = n.name_to;
  } ∷ [];
  opened = n.opened;
  name_from = 0;
  name_to = 0;
}

-- with the shape of that number changed
abbrev pub change : (Shape → Shape) → ℕ → List Shape → List Shape
change f k [] = []
change f zero (s ∷ ss) = f s ∷ ss
change f (suc k) (s ∷ ss) = s ∷ change f k ss

-- the value that began last ends before the place
abbrev pub end_value : ℕ → Notes → Notes
end_value at n =
    record n { shapes = change (λ s. record s { end = at }) (length n.shapes - 1) n.shapes }

abbrev pub begin_name : ℕ → Notes → Notes
begin_name at n = record n { name_from = suc at }

abbrev pub end_name : ℕ → Notes → Notes
end_name at n = record n { name_to = at }

-- the array or object whose node is the last has an item or a member
abbrev pub enter : Notes → Notes
enter n = record n { opened = (length n.shapes - 1) ∷ n.opened }

abbrev pub close_at : List ℕ → Notes → Notes
close_at [] n = n
close_at (node ∷ opened) n = record n {
  shapes = change (λ s. record s { next = length n.shapes }) node n.shapes;
  opened = opened;
}

-- the innermost array or object is closed
abbrev pub close : Notes → Notes
close n = close_at n.opened n

-- Before the byte: an array or an object counts as open from its first item or member on, and a
-- number ends where the byte is no part of it.
abbrev pub settled : Machine.State → ℕ → Machine.State
settled (after_open_array stack) b =
    cond (is_white b || (b == 93)) (after_open_array stack) (before_value (in_array ∷ stack))
settled (after_open_object stack) b =
    cond (b == 34) (before_name (in_object ∷ stack)) (after_open_object stack)
settled (after_nought stack) b =
    cond ((b == 46) || is_exponent b) (after_nought stack) (after_value stack)
settled (in_whole stack) b =
    cond (is_digit b || (b == 46) || is_exponent b) (in_whole stack) (after_value stack)
settled (in_fraction stack) b =
    cond (is_digit b || is_exponent b) (in_fraction stack) (after_value stack)
settled (in_power stack) b = cond (is_digit b) (in_power stack) (after_value stack)
settled q b = q

abbrev pub settled_notes : Machine.State → ℕ → ℕ → Notes → Notes
settled_notes (after_open_array stack) b at n = cond (is_white b || (b == 93)) n (enter n)
settled_notes (after_open_object stack) b at n = cond (b == 34) (enter n) n
settled_notes (after_nought stack) b at n = cond ((b == 46) || is_exponent b) n (end_value at n)
settled_notes (in_whole stack) b at n =
    cond (is_digit b || (b == 46) || is_exponent b) n (end_value at n)
settled_notes (in_fraction stack) b at n = cond (is_digit b || is_exponent b) n (end_value at n)
settled_notes (in_power stack) b at n = cond (is_digit b) n (end_value at n)
settled_notes q b at n = n

-- The byte itself, where nothing is left to settle.
abbrev pub moved : Machine.State → ℕ → Machine.State
moved (after_open_array stack) b =
    cond (is_white b) (after_open_array stack) (cond (b == 93) (after_value stack) fault)
moved (after_open_object stack) b =
    cond (is_white b) (after_open_object stack) (cond (b == 125) (after_value stack) fault)
moved q b = step q b

abbrev opens_value : ℕ → ℕ → Notes → Notes
opens_value b at n =
    cond (is_first_digit b) (begin_value Kind.Number at n)
    (cond (b == 48) (begin_value Kind.Number at n)
    (cond (b == 45) (begin_value Kind.Number at n)
    (cond (b == 34) (begin_value Kind.String at n)
    (cond (b == 91) (begin_value Kind.Array at n)
    (cond (b == 123) (begin_value Kind.Object at n)
    (cond (b == 110) (begin_value Kind.Null at n)
    (cond (b == 116) (begin_value Kind.True at n)
    (cond (b == 102) (begin_value Kind.False at n) n))))))))

abbrev closes_value : List Frame → ℕ → Notes → Notes
closes_value [] b n = n
closes_value (in_array ∷ stack) b n =
    cond (is_white b) n (cond (b == 44) n (cond (b == 93) (close n) n))
closes_value (in_object ∷ stack) b n =
    cond (is_white b) n (cond (b == 44) n (cond (b == 125) (close n) n))

abbrev pub moved_notes : Machine.State → ℕ → ℕ → Notes → Notes
moved_notes (before_value stack) b at n = opens_value b at n
moved_notes (before_name stack) b at n = cond (is_white b) n (cond (b == 34) (begin_name at n) n)
moved_notes (after_value stack) b at n = closes_value stack b n
moved_notes (in_string as_value stack) b at n =
    cond (is_plain b) n (cond (b == 34) (end_value (suc at) n) n)
moved_notes (in_string as_name stack) b at n =
    cond (is_plain b) n (cond (b == 34) (end_name at n) n)
moved_notes (in_literal byte [] stack) b at n = cond (b == byte) (end_value (suc at) n) n
moved_notes (after_nought stack) b at n =
    cond (b == 46) n (cond (is_exponent b) n (closes_value stack b n))
moved_notes (in_whole stack) b at n =
    cond (is_digit b) n (cond (b == 46) n (cond (is_exponent b) n (closes_value stack b n)))
moved_notes (in_fraction stack) b at n =
    cond (is_digit b) n (cond (is_exponent b) n (closes_value stack b n))
moved_notes (in_power stack) b at n = cond (is_digit b) n (closes_value stack b n)
moved_notes q b at n = n

-- the notes after the byte there
abbrev pub noted : Machine.State → ℕ → ℕ → Notes → Notes
noted q b at n = moved_notes (settled q b) b at (settled_notes q b at n)

-- the notes at the end of the text
abbrev pub finished : Machine.State → ℕ → Notes → Notes
finished (after_nought stack) at n = end_value at n
finished (in_whole stack) at n = end_value at n
finished (in_fraction stack) at n = end_value at n
finished (in_power stack) at n = end_value at n
finished q at n = n

-- the notes of the whole text, of which these bytes are left
abbrev pub recorded : Machine.State → Notes → ℕ → List ℕ → Notes
recorded q n at [] = finished q at n
recorded q n at (b ∷ bytes) = recorded (step q b) (noted q b at n) (suc at) bytes

abbrev pub no_notes : Notes
no_notes = record { shapes = []; opened = []; name_from = 0; name_to = 0 }
