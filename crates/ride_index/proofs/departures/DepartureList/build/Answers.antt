-- Putting departures in order leaves them the same.
use Rattle.std.proofs.Common.{subst}
use Rattle.ride_index.specs.NumberLists.{HasSameDepartures}
use Rattle.ride_index.proofs.DepartureLists.{same_departures}
use Rattle.ride_index.proofs.departures.DepartureList.build.Goals as goal

pub returns : goal.returns
returns c =
    same_departures c.args.feed.now c.args.kind c.in_ok-found.found.items c.in_ok-departures.departures
    (subst (λ these. HasSameDepartures these c.in_ok-departures.departures) c.as_slice.ensures.value c.in_ok-departures.ensures.same) c.in_ok-found.ensures
