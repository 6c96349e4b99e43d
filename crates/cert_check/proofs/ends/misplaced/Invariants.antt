use Rattle.cert_check.specs.Numbers.{AllTo}
use Rattle.cert_check.proofs.KindTests.{HasPlace}
use Rattle.cert_check.proofs.ends.misplaced.Given as goal

abbrev pub invariant-loop-i : goal.invariant-loop-i
invariant-loop-i l = AllTo (HasPlace l.task.feed.now l.task.times.now l.task.days.now l.task.query.now l.task.part.now) l.labels l.i
