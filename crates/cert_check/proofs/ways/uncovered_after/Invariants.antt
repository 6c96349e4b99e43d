use Rattle.cert_check.specs.Numbers.{AllTo}
use Rattle.cert_check.proofs.KindTests.{HasRides}
use Rattle.cert_check.proofs.ways.uncovered_after.Given as goal

abbrev pub invariant-loop-i : goal.invariant-loop-i
invariant-loop-i l = AllTo (HasRides l.task.feed.now l.task.times.now l.task.days.now l.task.query.now l.task.part.now) l.labels l.i
