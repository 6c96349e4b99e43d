-- The next start of the repeats that were passed.
use Rattle.std.proofs.Common.{take}
use Rattle.freq_trips.specs.Starts.{IsLeastFrom}
use Rattle.freq_trips.proofs.NextStarts.{IsStartAmong}
use Rattle.freq_trips.proofs.starts.next_start.Given as goal

abbrev pub invariant-loop-repeat : goal.invariant-loop-repeat
invariant-loop-repeat l = IsLeastFrom (IsStartAmong (take l.repeat-index l.repeat-items)) l.least l.next
