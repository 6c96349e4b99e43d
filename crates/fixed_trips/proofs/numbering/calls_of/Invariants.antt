use Rattle.std.proofs.Common.{◌≡◌, map, take}
use Rattle.fixed_trips.specs.PatternParts.{key_call}
use Rattle.fixed_trips.proofs.numbering.calls_of.Given as goal

abbrev pub invariant-loop-row : goal.invariant-loop-row
invariant-loop-row l = l.calls.items ≡ map key_call (take l.row-index l.rows)
