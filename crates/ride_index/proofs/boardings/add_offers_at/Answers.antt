-- The departures that name this.
use Rattle.std.proofs.Common.{refl}
use Rattle.ride_index.proofs.BoardingOffers.{gains_at}
use Rattle.ride_index.proofs.boardings.add_offers_at.Goals as goal

pub add_offers_of-requires-clause-departures : goal.add_offers_of-requires-clause-departures
add_offers_of-requires-clause-departures c = λ departure listed. c.requires.departures departure ((c.between.ensures departure).0 listed).0

pub returns : goal.returns
returns c =
    gains_at c.args.wanted.now c.args.departures.now c.between.result.now c.args.named 604800 c.args.into.now.items c.add_offers_of.new.into.items refl
    c.requires.times c.between.ensures c.in_ok-add_offers_of.ensures
