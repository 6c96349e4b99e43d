use Rattle.std.proofs.Common.{get_or, refl, subst}
use Rattle.flex_model.specs.declared.change.ChangeRow.{ChangeRow}
use Rattle.flex_model.specs.declared.place.Place.TheVariants.{Stop}
use Rattle.cert_check.specs.Ways.{AreNextHeld, IsUnheldChange}
use Rattle.cert_check.proofs.Numbered.{below_more_at}
use Rattle.cert_check.proofs.WaysHeld.{no_row}
use Rattle.cert_check.proofs.ways.unheld_rule.Goals as goal

pub loop-i-preserved : goal.loop-i-preserved
loop-i-preserved c =
    let task = c.args.task.now in
    let row = get_or c.args.rows.now c.loop-i.i no_row in
    below_more_at (λ (row : ChangeRow). AreNextHeld task c.args.label.now (Stop row.to)) c.args.rows.now c.loop-i.i row no_row c.loop-i-test.true refl
    c.loop-i.invariant (subst (IsUnheldChange task c.args.label.now (Stop row.to)) c.in_default.is c.in_ok-ride.ensures)
