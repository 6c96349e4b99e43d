-- Where the zone serves the place.
use Rattle.std.proofs.Common.{sym, ◌∙◌}
use Rattle.std.proofs.lemmas.Bool.{false≢true}
use Rattle.flex_model.specs.declared.trip.Spot.TheVariants as spot
use Rattle.ride_index.specs.Legs.{BoardsFrom, IsWindowRide}
use Rattle.ride_index.specs.declared.departure.DepartureKind.TheVariants.{ZoneWindow}
use Rattle.ride_index.proofs.FromPlace.{gains_zone, low_of, records_of, served}
use Rattle.ride_index.proofs.OfferLists.{gains_none}
use Rattle.ride_index.proofs.place_offers.add_offers_of_zone.Goals as goal

pub returns-then-not-serves : goal.returns-then-not-serves
returns-then-not-serves c =
    let w = c.args.wanted.now in
    gains_none (λ ride deadline. IsWindowRide w ride deadline × BoardsFrom w.feed.now (spot.Zone c.args.zone) ride) c.args.into.now.items
    (λ ride deadline h. false≢true (sym c.if-not-serves.true ∙ c.serves.ensures.1 (served w c.requires.wanted (spot.Zone c.args.zone) ride deadline h.0.0 h.1)))

pub add_offers_at-requires-clause-departures : goal.add_offers_at-requires-clause-departures
add_offers_at-requires-clause-departures c = records_of c.args.wanted.now.feed.now ZoneWindow c.args.index.now.zone_windows c.requires.index.zone_windows

pub add_offers_at-requires-clause-times : goal.add_offers_at-requires-clause-times
add_offers_at-requires-clause-times c = low_of c.args.wanted.now.feed.now ZoneWindow c.args.index.now.zone_windows c.requires.wanted.feed c.requires.index.zone_windows

pub returns : goal.returns
returns c =
    gains_zone c.args.wanted.now c.requires.wanted c.args.index.now.zone_windows c.args.zone c.args.into.now.items c.add_offers_at.new.into.items c.requires.index.zone_windows c.in_ok-add_offers_at.ensures
