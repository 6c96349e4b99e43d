use Rattle.std.proofs.Common.{get_or, refl, subst}
use Rattle.flex_model.specs.declared.times.Span.{Span}
use Rattle.cert_check.specs.Ways.{AreFirstHeld, IsUnheldAccess}
use Rattle.cert_check.proofs.Numbered.{below_more_at}
use Rattle.cert_check.proofs.WaysHeld.{no_span}
use Rattle.cert_check.proofs.ways.unheld_walk.Goals as goal

pub loop-i-preserved : goal.loop-i-preserved
loop-i-preserved c =
    let task = c.args.task.now in
    let span = get_or c.args.walks.now c.loop-i.i no_span in
    below_more_at (λ (span : Span). AreFirstHeld task span.to) c.args.walks.now c.loop-i.i span no_span c.loop-i-test.true refl
    c.loop-i.invariant (subst (IsUnheldAccess task span.to) c.in_default.is c.in_ok-ride.ensures)
