-- What the readers of lines return.
use Rattle.std.specs.Prelude.{◌≡◌, ℕ, Option, Result, Ok, Err}
use Rattle.bound_cert.specs.declared.error.ReadError.{ReadError}
use Rattle.bound_cert.specs.declared.error.ReadError.TheVariants.{Bad, NoMemory}
use Rattle.flex_model.specs.declared.memory.NoMemory as memory

-- Reading fails so, unless memory ran out.
abbrev pub Fails : {Y : Type 0} → ReadError → Result Y ℕ → Type 0
Fails NoMemory read = Unit {0}
Fails (Bad left) read = read ≡ Err left

-- What a function returned, seen by view, is what reading gives, unless memory ran out.
abbrev pub Gives : {X Y : Type 0} → (X → Y) → Result X ReadError → Result Y ℕ → Type 0
Gives view (Ok x) read = read ≡ Ok (view x)
Gives view (Err e) read = Fails e read

-- the same of words, which tell something or nothing
abbrev pub GivesWord : {X : Type 0} → Result (Option X) memory.NoMemory → Option X → Type 0
GivesWord (Ok x) told = x ≡ told
GivesWord (Err e) told = Unit {0}
