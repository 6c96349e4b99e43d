-- The refusals of a text.
use Rattle.std.specs.Prelude.{◌≡◌, ◌⊎◌, ℕ, List, Result, Ok, Err}
use Rattle.json_text.specs.Refusal.{IsSyntaxFault, IsTooDeep}
use Rattle.json_text.specs.declared.refusal.ScanRefusal.{ScanRefusal}
use Rattle.json_text.specs.declared.refusal.ScanRefusal.TheVariants.{Syntax, Depth, NoMemory}

-- The refusal is true of the text. Want of memory is always allowed.
abbrev pub IsRefusal : List ℕ → ScanRefusal → Type 0
IsRefusal bytes (Syntax at) = IsSyntaxFault bytes at
IsRefusal bytes (Depth at) = IsTooDeep bytes at
IsRefusal bytes NoMemory = Unit {0}

-- The answer is the refusal, or want of memory.
abbrev pub IsRefusedWith : {T : Type 0} → Result T ScanRefusal → ScanRefusal → Type 0
IsRefusedWith (Ok value) refusal = ⊥
IsRefusedWith (Err answer) refusal = (answer ≡ NoMemory) ⊎ (answer ≡ refusal)
