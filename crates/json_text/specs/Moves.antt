-- How the scanner's values stand for the machine's.
use Rattle.std.specs.Prelude.{◌≡◌, ℕ, suc, List, [], ◌∷◌, Option, Some, None}
use Rattle.json_text.specs.Machine
use Rattle.json_text.specs.Machine.{Frame, in_array, in_object, after_open_array, after_value, after_name, in_string, as_name, fault, is_fault, stack_of, step}
use Rattle.json_text.specs.Recording.{Notes, begin_value, end_value, begin_name, end_name, enter, close, moved, moved_notes, settled, settled_notes}
use Rattle.json_text.specs.declared.state.State.{State}
use Rattle.json_text.specs.declared.state.State.TheVariants.{BeforeValue, AfterOpenArray, AfterOpenObject, BeforeName, AfterName, AfterValue, InString, AfterBackslash, InUnit, InLiteral, AfterMinus, AfterNought, InWhole, AfterPoint, InFraction, AfterExponent, AfterSign, InPower}
use Rattle.json_text.specs.declared.state.Role.{Role}
use Rattle.json_text.specs.declared.state.Spelling.{Spelling}
use Rattle.json_text.specs.declared.state.Spelling.TheVariants.{Ull, Ll, L, Rue, Ue, E, Alse, Lse, Se}
use Rattle.json_text.specs.declared.state.Bracket.{Bracket}
use Rattle.json_text.specs.declared.state.Bracket.TheVariants.{Square, Curly}
use Rattle.json_text.specs.declared.moves.Move.{Move}
use Rattle.json_text.specs.declared.moves.Move.TheVariants.{To, Begin, BeginName, EndName, EndValue, Close, Fault}
use Rattle.json_text.specs.declared.moves.Settling.{Settling}
use Rattle.json_text.specs.declared.moves.Settling.TheVariants.{Nothing, Enter, EndNumber}

abbrev pub role_of : Role → Machine.Role
role_of Role.Value = Machine.as_value
role_of Role.Name = Machine.as_name

abbrev pub literal_of : Spelling → List Frame → Machine.State
literal_of Ull stack = Machine.in_literal 117 (108 ∷ 108 ∷ []) stack
literal_of Ll stack = Machine.in_literal 108 (108 ∷ []) stack
literal_of L stack = Machine.in_literal 108 [] stack
literal_of Rue stack = Machine.in_literal 114 (117 ∷ 101 ∷ []) stack
literal_of Ue stack = Machine.in_literal 117 (101 ∷ []) stack
literal_of E stack = Machine.in_literal 101 [] stack
literal_of Alse stack = Machine.in_literal 97 (108 ∷ 115 ∷ 101 ∷ []) stack
literal_of Lse stack = Machine.in_literal 108 (115 ∷ 101 ∷ []) stack
literal_of Se stack = Machine.in_literal 115 (101 ∷ []) stack

abbrev pub state_of : State → List Frame → Machine.State
state_of BeforeValue stack = Machine.before_value stack
state_of AfterOpenArray stack = Machine.after_open_array stack
state_of AfterOpenObject stack = Machine.after_open_object stack
state_of BeforeName stack = Machine.before_name stack
state_of AfterName stack = Machine.after_name stack
state_of AfterValue stack = Machine.after_value stack
state_of (InString role) stack = Machine.in_string (role_of role) stack
state_of (AfterBackslash role) stack = Machine.after_backslash (role_of role) stack
state_of (InUnit more role) stack = Machine.in_unit more (role_of role) stack
state_of (InLiteral rest) stack = literal_of rest stack
state_of AfterMinus stack = Machine.after_minus stack
state_of AfterNought stack = Machine.after_nought stack
state_of InWhole stack = Machine.in_whole stack
state_of AfterPoint stack = Machine.after_point stack
state_of InFraction stack = Machine.in_fraction stack
state_of AfterExponent stack = Machine.after_exponent stack
state_of AfterSign stack = Machine.after_sign stack
state_of InPower stack = Machine.in_power stack

abbrev pub frame_of : Bracket → Frame
frame_of Square = in_array
frame_of Curly = in_object

-- the innermost array or object is the bracket's, or there is none
abbrev pub IsInnermost : List Frame → Option Bracket → Type 0
IsInnermost [] innermost = innermost ≡ None
IsInnermost (frame ∷ stack) innermost =
    (bracket : Bracket) × (innermost ≡ Some bracket) × (frame ≡ frame_of bracket)

abbrev pub tail : List Frame → List Frame
tail [] = []
tail (frame ∷ stack) = stack

abbrev pub state_after : Move → List Frame → Machine.State
state_after (To state) stack = state_of state stack
state_after (Begin state kind) stack = state_of state stack
state_after BeginName stack = in_string as_name stack
state_after EndName stack = after_name stack
state_after EndValue stack = after_value stack
state_after Close stack = after_value (tail stack)
state_after Fault stack = fault

abbrev pub notes_after : Move → ℕ → Notes → Notes
notes_after (To state) at n = n
notes_after (Begin state kind) at n = begin_value kind at n
notes_after BeginName at n = begin_name at n
notes_after EndName at n = end_name at n
notes_after EndValue at n = end_value (suc at) n
notes_after Close at n = close n
notes_after Fault at n = n

-- The move is what the byte means where nothing is left to settle.
pub record IsMove (q : Machine.State) (stack : List Frame) (byte : ℕ) (move : Move) : Type 0 where
  pub state : moved q byte ≡ state_after move stack
  pub notes : (at : ℕ) (n : Notes) → moved_notes q byte at n ≡ notes_after move at n

abbrev pub settled_to : State → Settling → List Frame → Machine.State
settled_to state Nothing stack = state_of state stack
settled_to state (Enter Square) stack = Machine.before_value (in_array ∷ stack)
settled_to state (Enter Curly) stack = Machine.before_name (in_object ∷ stack)
settled_to state EndNumber stack = after_value stack

abbrev pub settles : Settling → ℕ → Notes → Notes
settles Nothing at n = n
settles (Enter bracket) at n = enter n
settles EndNumber at n = end_value at n

-- The settling is what comes before the byte.
pub record IsSettling (before : State) (byte : ℕ) (settling : Settling) : Type 0 where
  pub state : (stack : List Frame)
      → settled (state_of before stack) byte ≡ settled_to before settling stack
  pub notes : (stack : List Frame) (at : ℕ) (n : Notes)
      → settled_notes (state_of before stack) byte at n ≡ settles settling at n
