-- Those with this stop or a lesser one stand first.
use Rattle.std.proofs.Common.{rules, of_calls}
use Rattle.std.specs.Prelude.{nat_le}
use Rattle.std.proofs.lemmas.Fn.{always_returns_same}
use Rattle.ride_index.proofs.MemberLists.{parted_up_to, point_up_to}
use Rattle.ride_index.proofs.members.count_up_to.Goals as goal

pub returns-clause-point : goal.returns-clause-point
returns-clause-point c =
    point_up_to c.args.stop c.args.members.now c.partition_point.result
    (c.partition_point.ensures.partitioned (λ m. nat_le m.stop c.args.stop) (always_returns_same _ _ _ (λ a r f k. search (rules, of_calls)))
    (parted_up_to c.args.stop c.args.members.now c.requires))
