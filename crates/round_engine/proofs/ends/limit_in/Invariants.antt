use Rattle.std.specs.Prelude.{Contains, take}
use Rattle.round_engine.specs.Limits.{IsLimitOver}
use Rattle.round_engine.proofs.ends.limit_in.Given as goal

abbrev pub invariant-loop-entry : goal.invariant-loop-entry
invariant-loop-entry l = IsLimitOver (λ x. Contains (take l.entry-index l.entries) x) l.deadline l.walk l.limit l.least
