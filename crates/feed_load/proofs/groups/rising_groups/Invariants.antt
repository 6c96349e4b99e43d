use Rattle.std.specs.List.{AllZip}
use Rattle.feed_load.specs.GroupMembers.{IsRisingGroup}
use Rattle.feed_load.proofs.groups.rising_groups.Given as goal

abbrev pub invariant-loop-group : goal.invariant-loop-group
invariant-loop-group l = AllZip IsRisingGroup l.yielded l.rising
