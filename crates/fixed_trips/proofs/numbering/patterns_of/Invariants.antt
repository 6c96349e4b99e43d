use Rattle.std.proofs.Common.{◌≡◌, length}
use Rattle.fixed_trips.specs.PatternParts.{AreNumbered}
use Rattle.fixed_trips.proofs.numbering.patterns_of.Given as goal

abbrev pub invariant-loop-number : goal.invariant-loop-number
invariant-loop-number l = AreNumbered l.feed.trips l.met l.patterns.items × (length l.patterns.items ≡ l.number)
