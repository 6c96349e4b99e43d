-- What stands between the two places has the stop.
use Rattle.ride_index.proofs.MemberLists.{stands_between}
use Rattle.ride_index.proofs.members.slice_of.Goals as goal

pub returns : goal.returns
returns c = λ member.
    stands_between c.args.members.now c.args.stop c.count_before-start.result c.count_up_to-end.result
    c.count_before-start.ensures.bound c.count_up_to-end.ensures.bound c.count_before-start.ensures.point c.count_up_to-end.ensures.point member
