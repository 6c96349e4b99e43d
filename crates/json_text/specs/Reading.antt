-- The scanner has read so many bytes of the text.
use Rattle.std.specs.Prelude.{◌≡◌, ℕ, ◌≤◌, List, length, take, drop}
use Rattle.json_text.specs.Machine.{run, start, stack_of, StaysWithin}
use Rattle.json_text.specs.Progress.{machine_of, notes_of}
use Rattle.json_text.specs.Recording.{no_notes, recorded}
use Rattle.json_text.specs.Refusal.{greatest_depth}
use Rattle.json_text.specs.declared.scanner.Scanner.{Scanner}

pub record IsReading (s : Scanner) (bytes : List ℕ) (at : ℕ) : Type 0 where
  pub state : machine_of s ≡ run start (take at bytes)
  pub stays : StaysWithin greatest_depth start (take at bytes)
  pub notes : recorded (machine_of s) (notes_of s) at (drop at bytes)
      ≡ recorded start no_notes 0 bytes
  pub fits : length (stack_of (machine_of s)) ≤ greatest_depth
  pub rows : length s.rows.items ≤ at
