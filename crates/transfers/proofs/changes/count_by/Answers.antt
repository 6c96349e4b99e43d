use Rattle.std.proofs.Common.{rules, of_calls}
use Rattle.std.proofs.lemmas.Fn.{always_returns_same}
use Rattle.transfers.specs.ChangeOrder.{begins_by}
use Rattle.transfers.proofs.StopChanges.{parted_by}
use Rattle.transfers.proofs.changes.count_by.Goals as goal

pub returns-clause-point : goal.returns-clause-point
returns-clause-point c =
    c.partition_point.ensures.partitioned (begins_by c.args.stop) (always_returns_same _ _ _ (λ a r f k. search (rules, of_calls)))
    (parted_by c.args.stop c.args.changes.now c.requires)
