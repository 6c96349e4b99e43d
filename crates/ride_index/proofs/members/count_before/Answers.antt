-- Those with a lesser stop stand first.
use Rattle.std.proofs.Common.{rules, of_calls}
use Rattle.std.specs.Prelude.{nat_lt}
use Rattle.std.proofs.lemmas.Fn.{always_returns_same}
use Rattle.ride_index.proofs.MemberLists.{parted_below, point_below}
use Rattle.ride_index.proofs.members.count_before.Goals as goal

pub returns-clause-point : goal.returns-clause-point
returns-clause-point c =
    point_below c.args.stop c.args.members.now c.partition_point.result
    (c.partition_point.ensures.partitioned (λ m. nat_lt m.stop c.args.stop) (always_returns_same _ _ _ (λ a r f k. search (rules, of_calls)))
    (parted_below c.args.stop c.args.members.now c.requires))
