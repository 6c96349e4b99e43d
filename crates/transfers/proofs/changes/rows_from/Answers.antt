-- What stands between the two points begins at the stop.
use Rattle.transfers.proofs.StopChanges.{changes_between}
use Rattle.transfers.proofs.changes.rows_from.Goals as goal

pub returns : goal.returns
returns c = λ row.
    changes_between c.args.changes.now c.args.stop c.count_before-start.result c.count_by-end.result
    c.count_before-start.ensures.bound c.count_by-end.ensures.bound c.count_before-start.ensures.point c.count_by-end.ensures.point row
