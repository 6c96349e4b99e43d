-- Each wanted ride is one of the four sorts.
use Rattle.ride_index.proofs.NeededOffers.{all_offers}
use Rattle.ride_index.proofs.place_offers.offers_after.Goals as goal

pub returns-clause-offers : goal.returns-clause-offers
returns-clause-offers c =
    all_offers c.args.wanted.now c.requires.wanted c.args.boarded.now.0 c.args.carried.now _ _ _ _ _ c.clear.ensures.items c.in_ok-add_timed_offers.ensures.offers c.in_ok-add_stop_offers.ensures
    c.in_ok-add_group_offers.ensures c.in_ok-add_zone_offers.ensures
