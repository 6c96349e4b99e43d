use Rattle.std.proofs.Common.{subst}
use Rattle.ride_index.specs.Departures.{IsAmong}
use Rattle.ride_index.proofs.DepartureLists.{of_trip}
use Rattle.ride_index.proofs.RideLists.{Gained}
use Rattle.ride_index.proofs.listing.add_trip.Goals as goal

pub returns : goal.returns
returns c =
    of_trip c.args.kind c.args.trip.now c.args.number c.args.found.now.items c.add_rows.new.found.items (c.runs_so.ensures.0 c.if-not-runs_so.false)
    (subst (λ rows. Gained (IsAmong c.args.kind rows c.args.number) c.args.found.now.items c.add_rows.new.found.items) c.as_slice.ensures c.in_ok-add_rows.ensures)
