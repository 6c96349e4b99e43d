-- The arrivals rise.
use Rattle.std.proofs.Common.{rules, of_calls, int_le}
use Rattle.std.proofs.lemmas.Fn.{always_returns_same}
use Rattle.label_bag.proofs.Searches.{arrivals_part, counted}
use Rattle.label_bag.proofs.indices.count_by_then.Goals as goal

pub returns : goal.returns
returns g c =
    let point = c.partition_point.ensures.partitioned (λ entry. int_le entry.0.arrival c.args.arrival.now) (always_returns_same _ _ _ (λ a r f k. search (rules, of_calls)))
    (arrivals_part c.args.entries.now c.args.arrival.now c.requires) in
    counted c.args.entries.now c.args.arrival.now c.partition_point.result c.partition_point.ensures.bound point
