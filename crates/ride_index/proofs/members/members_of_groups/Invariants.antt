use Rattle.ride_index.specs.Members.{HasGroupStops}
use Rattle.ride_index.proofs.MemberLists.{HasEarly}
use Rattle.ride_index.proofs.members.members_of_groups.Given as goal

abbrev pub invariant-loop-number : goal.invariant-loop-number
invariant-loop-number l = HasEarly (HasGroupStops l.feed) l.number l.found.items
