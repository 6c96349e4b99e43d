use Rattle.std.proofs.Common.{subst}
use Rattle.cert_check.specs.Ways.{IsUnheldChange}
use Rattle.cert_check.proofs.WaysHeld.{next_of_rules}
use Rattle.cert_check.proofs.ways.unheld_on.Goals as goal

pub returns : goal.returns
returns c =
    let task = c.args.task.now in
    let label = c.args.label.now in
    next_of_rules task label c.in-Stop.stop c.in-Stop.is c.changes_from.result.now c.changes_from.ensures
    (subst (IsUnheldChange task label label.label.place) c.in_default-2.is c.in_ok-ride.ensures)
    c.in_ok-ride-2.ride c.in_ok-ride-2.ensures
