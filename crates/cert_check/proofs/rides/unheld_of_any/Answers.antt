use Rattle.std.proofs.Common.{None, refl}
use Rattle.cert_check.specs.Tasks.{IsUnheldOf}
use Rattle.cert_check.proofs.Numbered.{below_more_at}
use Rattle.cert_check.proofs.rides.unheld_of_any.Goals as goal

pub unheld_of-requires-clause-modest : goal.unheld_of-requires-clause-modest
unheld_of-requires-clause-modest c = c.requires.modest c.loop-i.i _ c.loop-i-test.true

pub loop-i-preserved : goal.loop-i-preserved
loop-i-preserved c =
    below_more_at (λ run. IsUnheldOf c.args.task.now c.args.boarded.now run None) c.args.runs.now c.loop-i.i _ _ c.loop-i-test.true refl c.loop-i.invariant
    c.in_default.ensures
