-- Departure by departure.
use Rattle.std.proofs.Common.{subst, arith}
use Rattle.std.proofs.lemmas.List.{take_all}
use Rattle.ride_index.specs.declared.departure.Departure.{Departure}
use Rattle.ride_index.specs.Legs.{BoardsWithAny, IsWindowRide}
use Rattle.ride_index.specs.OfferedRuns.{GainsOffersOf}
use Rattle.ride_index.proofs.BoardingOffers.{next_departure}
use Rattle.ride_index.proofs.boardings.add_offers_of.Goals as goal

abbrev no_departure : Departure
no_departure = record { named = 0; departs = 0; trip = 0; row = 0 }

pub loop-departure-preserved : goal.loop-departure-preserved
loop-departure-preserved c =
    next_departure c.args.wanted.now c.args.departures.now c.loop-departure.departure-index no_departure c.args.into.now.items c.loop-departure.into.items c.add_offers_with.new.into.items
    (omega (arith, c.loop-departure-test.true)) c.loop-departure.invariant c.in_ok-add_offers_with.ensures

pub returns : goal.returns
returns c =
    subst (λ xs. GainsOffersOf (λ ride deadline. IsWindowRide c.args.wanted.now ride deadline × BoardsWithAny xs ride) c.args.into.now.items c.loop-departure.into.items)
    (take_all c.loop-departure.departure-index c.args.departures.now (omega (arith, c.loop-departure-test.false))) c.loop-departure.invariant
