use Rattle.std.proofs.Common.{rules, of_calls}
use Rattle.std.proofs.lemmas.Fn.{always_returns_same}
use Rattle.transfers.specs.Spans.{begins_before}
use Rattle.transfers.proofs.PlaceSpans.{parted_before}
use Rattle.transfers.proofs.spans.count_before.Goals as goal

pub returns-clause-point : goal.returns-clause-point
returns-clause-point c =
    c.partition_point.ensures.partitioned (begins_before c.args.place) (always_returns_same _ _ _ (λ a r f k. search (rules, of_calls)))
    (parted_before c.args.place c.args.spans.now c.requires)
