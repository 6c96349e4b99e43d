use Rattle.std.proofs.Common.{◌≡◌, ◌++◌}
use Rattle.ride_index.specs.ActiveDays.{active_flags}
use Rattle.ride_index.proofs.active_days.add_flags.Given as goal

abbrev pub invariant-loop-ahead : goal.invariant-loop-ahead
invariant-loop-ahead l = l.flags.items ≡ l.fn.flags.items ++ active_flags l.service l.first l.ahead
