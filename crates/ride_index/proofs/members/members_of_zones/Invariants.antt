use Rattle.ride_index.specs.Members.{HasZoneStops}
use Rattle.ride_index.proofs.MemberLists.{HasEarly}
use Rattle.ride_index.proofs.members.members_of_zones.Given as goal

abbrev pub invariant-loop-number : goal.invariant-loop-number
invariant-loop-number l = HasEarly (HasZoneStops l.feed) l.number l.found.items
