-- The zones that have the stop.
use Rattle.ride_index.proofs.FromPlace.{gains_zones}
use Rattle.ride_index.proofs.place_offers.add_zone_offers.Goals as goal

pub returns : goal.returns
returns c =
    gains_zones c.args.wanted.now c.requires.wanted c.args.index.now.zone_members c.at.result.now c.in-Stop.stop c.args.into.now.items c.add_offers_of_zones.new.into.items
    c.at.ensures c.in-Stop.is c.requires.index.zone_members c.in_ok-add_offers_of_zones.ensures
