-- The sort moves the members, and loses none.
use Rattle.ride_index.specs.Members.{HasZoneStops}
use Rattle.ride_index.proofs.MemberLists.{moved_members}
use Rattle.ride_index.proofs.members.MemberList.of_zones.Goals as goal

pub returns : goal.returns
returns c =
    moved_members (HasZoneStops c.args.feed.now) c.in_ok-members_of_zones.field-0.items c.in_ok-members.members c.in_ok-members.ensures.moved c.in_ok-members_of_zones.ensures
