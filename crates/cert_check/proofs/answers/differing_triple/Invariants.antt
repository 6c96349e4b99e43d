use Rattle.cert_check.specs.Numbers.{AllTo}
use Rattle.cert_check.proofs.KindTests.{HasTriple}
use Rattle.cert_check.proofs.answers.differing_triple.Given as goal

abbrev pub invariant-loop-i : goal.invariant-loop-i
invariant-loop-i l =
    AllTo (HasTriple l.task.feed.now l.task.times.now l.task.days.now l.task.query.now l.task.part.now) l.task.part.now.answers l.i
