-- A record that names a stop serves that stop alone.
use Rattle.flex_model.specs.declared.trip.Spot.TheVariants as spot
use Rattle.ride_index.specs.declared.departure.DepartureKind.TheVariants.{BesideWindow, StopWindow}
use Rattle.ride_index.proofs.FromPlace.{FromStops, gains_stops, low_of, records_of, served}
use Rattle.ride_index.proofs.OfferLists.{gains_none}
use Rattle.ride_index.proofs.place_offers.add_stop_offers.Goals as goal

pub returns-in_default : goal.returns-in_default
returns-in_default c =
    let w = c.args.wanted.now in
    gains_none (FromStops w c.requires.wanted) c.args.into.now.items
    (λ ride deadline h. c.in_default.not-Stop h.1.0 (served w c.requires.wanted (spot.Stop h.1.0) ride deadline h.0.0 h.1.1))

pub add_offers_at-requires-clause-departures : goal.add_offers_at-requires-clause-departures
add_offers_at-requires-clause-departures c = records_of c.args.wanted.now.feed.now BesideWindow c.args.index.now.beside_windows c.requires.index.beside_windows

pub add_offers_at-requires-clause-times : goal.add_offers_at-requires-clause-times
add_offers_at-requires-clause-times c = low_of c.args.wanted.now.feed.now BesideWindow c.args.index.now.beside_windows c.requires.wanted.feed c.requires.index.beside_windows

pub add_offers_at-requires-2-clause-departures : goal.add_offers_at-requires-2-clause-departures
add_offers_at-requires-2-clause-departures c = records_of c.args.wanted.now.feed.now StopWindow c.args.index.now.stop_windows c.requires.index.stop_windows

pub add_offers_at-requires-2-clause-times : goal.add_offers_at-requires-2-clause-times
add_offers_at-requires-2-clause-times c = low_of c.args.wanted.now.feed.now StopWindow c.args.index.now.stop_windows c.requires.wanted.feed c.requires.index.stop_windows

pub returns : goal.returns
returns c =
    gains_stops c.args.wanted.now c.requires.wanted c.args.index.now.beside_windows c.args.index.now.stop_windows c.in-Stop.stop c.args.into.now.items c.add_offers_at.new.into.items c.add_offers_at-2.new.into.items
    c.requires.index.beside_windows c.requires.index.stop_windows c.in-Stop.is c.in_ok-add_offers_at.ensures c.in_ok-add_offers_at-2.ensures
