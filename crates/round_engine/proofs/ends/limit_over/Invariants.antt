use Rattle.round_engine.specs.Limits.{IsLimitOver}
use Rattle.round_engine.proofs.Limits.{IsInFirst}
use Rattle.round_engine.proofs.ends.limit_over.Given as goal

abbrev pub invariant-loop-t : goal.invariant-loop-t
invariant-loop-t l = IsLimitOver (IsInFirst l.bags l.t) l.deadline l.walk l.limit l.least
