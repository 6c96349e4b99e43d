-- The list is the one that contracts see.
use Rattle.std.proofs.Common.{subst}
use Rattle.fixed_trips.specs.PatternParts.{IsCountOf}
use Rattle.fixed_trips.proofs.patterns.PatternTable.count.Goals as goal

pub returns : goal.returns
returns c = subst (λ patterns. IsCountOf patterns c.self.inside.count) c.self.view_is c.self.invariant.count_is
