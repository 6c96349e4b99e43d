-- How far the scanner has come.
use Rattle.std.specs.Prelude.{◌≡◌, ℕ, ◌+◌, ◌≤◌, ◌<◌, List, length, map, reverse, true, false}
use Rattle.json_text.specs.Machine
use Rattle.json_text.specs.Machine.{is_fault, stack_of, step}
use Rattle.json_text.specs.Moves.{frame_of, state_of, state_after, notes_after}
use Rattle.json_text.specs.Recording.{Shape, Notes, noted}
use Rattle.json_text.specs.Refusal.{greatest_depth}
use Rattle.json_text.specs.declared.moves.Move.{Move}
use Rattle.json_text.specs.declared.refusal.ScanRefusal.{ScanRefusal}
use Rattle.json_text.specs.declared.refusal.ScanRefusal.TheVariants.{Syntax, Depth, NoMemory}
use Rattle.json_text.specs.declared.row.Row.{Row}
use Rattle.json_text.specs.declared.scanner.Frame.{Frame}
use Rattle.json_text.specs.declared.scanner.Scanner.{Scanner}

abbrev pub shape_of : Row → Shape
shape_of row = record {
  kind = row.kind;
  place = row.place;
  end = row.end;
  next = row.next;
  name_from = row.name_from;
  name_to = row.name_to;
}

-- the arrays and objects that are open, the innermost first
abbrev pub stack_in : List Frame → List Machine.Frame
stack_in frames = map (λ frame. frame_of frame.bracket) (reverse frames)

abbrev pub numbers_in : List Frame → List ℕ
numbers_in frames = map (λ frame. frame.node) (reverse frames)

abbrev pub machine_of : Scanner → Machine.State
machine_of s = state_of s.state (stack_in s.frames.items)

abbrev pub notes_of : Scanner → Notes
notes_of s = record {
  shapes = map shape_of s.rows.items;
  opened = numbers_in s.frames.items;
  name_from = s.name_from;
  name_to = s.name_to;
}

-- what the byte there makes of the machine is refused
abbrev pub IsRefused : ℕ → Machine.State → ScanRefusal → Type 0
IsRefused at q (Syntax place) = (place ≡ at) × (is_fault q ≡ true)
IsRefused at q (Depth place) =
    (place ≡ at) × (is_fault q ≡ false) × (greatest_depth < length (stack_of q))
IsRefused at q NoMemory = Unit {0}

pub record IsMoved (old new : Scanner) (at : ℕ) (move : Move) : Type 0 where
  pub state : machine_of new ≡ state_after move (stack_in old.frames.items)
  pub notes : notes_of new ≡ notes_after move at (notes_of old)
  pub alive : is_fault (machine_of new) ≡ false
  pub fits : length (stack_of (machine_of new)) ≤ greatest_depth
  pub rows : length new.rows.items ≤ length old.rows.items + 1

pub record HasRead (old new : Scanner) (at byte : ℕ) : Type 0 where
  pub state : machine_of new ≡ step (machine_of old) byte
  pub notes : notes_of new ≡ noted (machine_of old) byte at (notes_of old)
  pub alive : is_fault (machine_of new) ≡ false
  pub fits : length (stack_of (machine_of new)) ≤ greatest_depth
  pub rows : length new.rows.items ≤ length old.rows.items + 1
