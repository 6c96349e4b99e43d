use Rattle.ride_index.proofs.ActiveDayLists.{AreFirst}
use Rattle.ride_index.proofs.active_days.ActiveDays.build.Given as goal

abbrev pub invariant-loop-s : goal.invariant-loop-s
invariant-loop-s l = AreFirst l.feed l.days l.s l.flags.items
