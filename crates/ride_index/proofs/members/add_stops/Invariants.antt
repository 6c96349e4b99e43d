use Rattle.ride_index.proofs.MemberLists.{IsOfFirst}
use Rattle.ride_index.proofs.RideLists.{Gained}
use Rattle.ride_index.proofs.members.add_stops.Given as goal

abbrev pub invariant-loop-stop : goal.invariant-loop-stop
invariant-loop-stop l = Gained (IsOfFirst l.stops l.named l.stop-index) l.fn.found.items l.found.items
