-- Ride by ride.
use Rattle.std.proofs.Common.{◌≡◌, Contains, get_or, subst, arith}
use Rattle.std.proofs.lemmas.List.{take_all}
use Rattle.std.proofs.lemmas.Option.{slice_get-get_or}
use Rattle.flex_model.specs.declared.place.Place.TheVariants as place
use Rattle.flex_model.specs.declared.ride.Ride.{Ride}
use Rattle.flex_model.proofs.Found.{Contains-at}
use Rattle.std.proofs.Common.{None, pos}
use Rattle.ride_index.specs.OfferedRuns.{GainsOffersOf, IsWantedRide}
use Rattle.ride_index.proofs.OfferLists.{gains_added}
use Rattle.ride_index.proofs.SingleOffers.{next_ride}
use Rattle.ride_index.proofs.offers.add_offers_of_rides.Goals as goal

-- what indexing past the end would give
abbrev no_ride : Ride
no_ride = record { trip = 0; day = pos 0; start = None; from_row = 0; to_row = 0; board = place.Stop 0; alight = place.Stop 0; departs = pos 0; arrives = pos 0 }

pub offer_of_ride-requires-clause-reachable : goal.offer_of_ride-requires-clause-reachable
offer_of_ride-requires-clause-reachable c =
    let n = c.loop-ride.ride-index in
    let rides = c.args.rides.now in
    c.requires.rides (get_or rides n no_ride) (Contains-at rides n (get_or rides n no_ride) (slice_get-get_or rides n no_ride (omega (arith, c.loop-ride-test.true))))

pub loop-ride-preserved : goal.loop-ride-preserved
loop-ride-preserved c =
    let n = c.loop-ride.ride-index in
    let w = c.args.wanted.now in
    let rides = c.args.rides.now in
    next_ride w rides n no_ride c.args.into.now.items c.loop-ride.into.items c.add_offer.new.into.items (omega (arith, c.loop-ride-test.true)) c.loop-ride.invariant
    (gains_added (λ x d. IsWantedRide w x d × (x ≡ get_or rides n no_ride)) c.loop-ride.into.items c.add_offer.new.into.items _ c.in_ok-add_offer.ensures c.offer_of_ride.ensures)

pub returns : goal.returns
returns c =
    let w = c.args.wanted.now in
    subst (λ xs. GainsOffersOf (λ x d. IsWantedRide w x d × Contains xs x) c.args.into.now.items c.loop-ride.into.items) (take_all c.loop-ride.ride-index c.args.rides.now (omega (arith, c.loop-ride-test.false))) c.loop-ride.invariant
