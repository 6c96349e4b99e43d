-- The bounds rise.
use Rattle.std.proofs.Common.{int_le, of_calls, rules}
use Rattle.std.proofs.lemmas.Fn.{always_returns_same}
use Rattle.zone_test.proofs.RisingBounds.{bounds_part, counted}
use Rattle.zone_test.proofs.bounds.slab_of.Goals as goal

pub returns-clause-slab : goal.returns-clause-slab
returns-clause-slab c =
    let point = c.partition_point.ensures.partitioned (λ bound. int_le bound c.args.lat.now) (always_returns_same _ _ _ (λ a r f k. search (rules, of_calls)))
    (bounds_part c.args.bounds.now c.args.lat.now c.requires) in
    counted c.args.bounds.now c.args.lat.now c.partition_point.result c.partition_point.ensures.bound point
