-- What the system's files and streams show of themselves, and what reads and writes do where the
-- bytes are known. The rules are this project's own.
use Rattle.std.specs.Prelude.{◌≡◌, ℕ, ◌≤◌, ◌<◌, List, ◌++◌, length, Option, IfSome}
use Rattle.std.specs.Io.KnownBytes.{Appends, Consumes}
use Rattle.flex_io.specs.Outside.{IsBeginning}
use Rattle.flex_io.specs.declared.host_files.HostFiles.{HostFiles}
use Rattle.flex_io.specs.declared.host_sink.HostSink.{HostSink}

-- how many fetches have failed
abbrev pub fetch_faults : {R : Type 0} → HostFiles R → ℕ
fetch_faults files = files.faults

-- how many puts have failed
abbrev pub put_faults : {W : Type 0} → HostSink W → ℕ
put_faults sink = sink.faults

-- the stream that a sink writes to
abbrev pub stream_of : {W : Type 0} → HostSink W → W
stream_of sink = sink.stream

-- the bytes after are those before and then some more, which are within the limit, and where the
-- reader's bytes are known, all that it had left
pub record AppendsRest (limit : ℕ) (remaining : Option (List ℕ)) (before after : List ℕ)
    : Type 0 where
  pub bytes : List ℕ
  pub within_limit : length bytes ≤ limit
  pub appended : after ≡ before ++ bytes
  pub as_known : IfSome remaining (λ rest. bytes ≡ rest)

-- a reader has more bytes left than so many, where its bytes are known
abbrev pub IsLonger : ℕ → Option (List ℕ) → Type 0
IsLonger limit remaining = IfSome remaining (λ rest. limit < length rest)

-- a read has added some bytes at the end
abbrev pub AddsSome : List ℕ → List ℕ → Type 0
AddsSome before after = (bytes : List ℕ) × (after ≡ before ++ bytes)

-- a reader has lost some of its first bytes, at most so many
abbrev pub TakesAtMost : ℕ → Option (List ℕ) → Option (List ℕ) → Type 0
TakesAtMost most before after =
    (taken : List ℕ) × (length taken ≤ most) × Consumes before after taken

-- a stream has gained a beginning of the piece
abbrev pub AppendsBeginning : List ℕ → Option (List ℕ) → Option (List ℕ) → Type 0
AppendsBeginning piece before after =
    (taken : List ℕ) × IsBeginning piece taken × Appends before after taken
