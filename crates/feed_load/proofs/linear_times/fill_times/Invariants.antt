use Rattle.feed_load.proofs.LinearGaps.{IsFilledTo}
use Rattle.feed_load.proofs.linear_times.fill_times.Given as goal

abbrev pub invariant-loop-index : goal.invariant-loop-index
invariant-loop-index l = IsFilledTo l.initial.rows l.index l.rows l.gap
