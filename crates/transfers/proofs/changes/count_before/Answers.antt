use Rattle.std.proofs.Common.{rules, of_calls}
use Rattle.std.proofs.lemmas.Fn.{always_returns_same}
use Rattle.transfers.specs.ChangeOrder.{begins_before}
use Rattle.transfers.proofs.StopChanges.{parted_before}
use Rattle.transfers.proofs.changes.count_before.Goals as goal

pub returns-clause-point : goal.returns-clause-point
returns-clause-point c =
    c.partition_point.ensures.partitioned (begins_before c.args.stop) (always_returns_same _ _ _ (λ a r f k. search (rules, of_calls)))
    (parted_before c.args.stop c.args.changes.now c.requires)
