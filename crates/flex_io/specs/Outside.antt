-- What the outside tells: the bytes of files by their paths, the bytes that a sink was given, and
-- how often each has failed. The rules are this project's own.
use Rattle.std.specs.Prelude.{◌≡◌, ℕ, ◌+◌, ◌-◌, ◌^◌, ◌≤◌, min, List, ◌++◌, length}
use Rattle.std.specs.Prelude.{Option, Some, IfSome, IsSomeAnd}
use Rattle.std.specs.Option.{option_map}
use Rattle.std.specs.Ordering.{nat_cmp}
use Rattle.std.specs.Cmp.Lexicographic.{slice_cmp}
use Rattle.std.specs.FinMap.{FinMap, get}

-- a map from paths to bytes
abbrev pub FileMap : Type 0
FileMap = FinMap (slice_cmp nat_cmp) (List ℕ)

-- the bytes of a path, or none where the map lacks it
abbrev pub bytes_at : FileMap → List ℕ → Option (List ℕ)
bytes_at files path = get files path

-- the last value of every counter
abbrev pub last_count : ℕ
last_count = 2 ^ 64 - 1

-- one more, but for a counter at its last value, which stays there
abbrev pub next_count : ℕ → ℕ
next_count n = min (n + 1) last_count

-- a count of faults rose from before to now, or stands at its last value
abbrev pub HasFailed : ℕ → ℕ → Type 0
HasFailed before now = next_count before ≤ now

-- the bytes after are those before and then a file's, which are within the limit, and where files
-- are told, the told ones of the path
pub record AppendsFile (told : Option FileMap) (path : List ℕ) (limit : ℕ) (before after : List ℕ)
    : Type 0 where
  pub bytes : List ℕ
  pub within_limit : length bytes ≤ limit
  pub appended : after ≡ before ++ bytes
  pub as_told : IfSome told (λ files. bytes_at files path ≡ Some bytes)

-- the told files have a file of the path, which is within the limit
abbrev pub HasFileWithin : List ℕ → ℕ → FileMap → Type 0
HasFileWithin path limit files = IsSomeAnd (bytes_at files path) (λ bytes. length bytes ≤ limit)

-- what a sink tells after it gained bytes, if it tells anything
abbrev pub grown : Option (List ℕ) → List ℕ → Option (List ℕ)
grown contents bytes = option_map (λ old. old ++ bytes) contents

-- a sink has gained some bytes that have the property
abbrev pub Gains : Option (List ℕ) → Option (List ℕ) → (List ℕ → Type 0) → Type 0
Gains before after P = (bytes : List ℕ) × P bytes × (after ≡ grown before bytes)

-- the whole begins with these bytes
abbrev pub IsBeginning : List ℕ → List ℕ → Type 0
IsBeginning whole bytes = (rest : List ℕ) × (whole ≡ bytes ++ rest)
