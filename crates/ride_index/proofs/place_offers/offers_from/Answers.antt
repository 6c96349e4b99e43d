-- Nothing was boarded before.
use Rattle.ride_index.proofs.NeededOffers.{none_before}
use Rattle.ride_index.proofs.place_offers.offers_from.Goals as goal

pub returns : goal.returns
returns c = none_before c.args.wanted.now c.in_ok-boarded.boarded.0 _ c.offers_after.new.into.items c.in_ok-boarded.ensures.none c.in_ok-offers_after.ensures.offers
