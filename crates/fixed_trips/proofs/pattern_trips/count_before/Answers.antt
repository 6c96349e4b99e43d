-- Those with a lesser pattern stand first.
use Rattle.std.proofs.Common.{rules, of_calls}
use Rattle.std.specs.Prelude.{nat_lt}
use Rattle.std.proofs.lemmas.Fn.{always_returns_same}
use Rattle.fixed_trips.proofs.PatternTrips.{parted_below, point_below}
use Rattle.fixed_trips.proofs.pattern_trips.count_before.Goals as goal

pub returns-clause-point : goal.returns-clause-point
returns-clause-point c =
    point_below c.args.pattern c.args.trips.now c.partition_point.result
    (c.partition_point.ensures.partitioned (λ m. nat_lt m.pattern c.args.pattern) (always_returns_same _ _ _ (λ a r f k. search (rules, of_calls)))
    (parted_below c.args.pattern c.args.trips.now c.requires))
