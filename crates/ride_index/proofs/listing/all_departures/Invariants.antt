use Rattle.ride_index.proofs.DepartureLists.{HasEarly}
use Rattle.ride_index.proofs.listing.all_departures.Given as goal

abbrev pub invariant-loop-number : goal.invariant-loop-number
invariant-loop-number l = HasEarly l.feed l.kind l.number l.found.items
