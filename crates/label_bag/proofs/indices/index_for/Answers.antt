-- The pairs rise.
use Rattle.std.proofs.Common.{rules, of_calls}
use Rattle.std.proofs.lemmas.Fn.{always_returns_same}
use Rattle.label_bag.proofs.Searches.{before_same, before_test, befores_part, placed}
use Rattle.label_bag.proofs.indices.index_for.Goals as goal

pub returns : goal.returns
returns g c =
    let point = c.partition_point.ensures.partitioned (before_test c.args.pair.now) (always_returns_same _ _ _ (λ a r f k. (before_same c.args.pair.now a.0.now r (search (rules, of_calls)), search (rules, of_calls))))
    (befores_part c.args.entries.now c.args.pair.now c.requires) in
    placed c.args.entries.now c.args.pair.now c.partition_point.result c.partition_point.ensures.bound point
