-- Where one may want to alight.
use Rattle.std.proofs.Common.{sym, ◌∙◌}
use Rattle.std.proofs.lemmas.Bool.{false≢true}
use Rattle.ride_index.specs.Legs.{IsLegRide}
use Rattle.ride_index.proofs.OfferLists.{gains_added, gains_none}
use Rattle.ride_index.proofs.WindowOffers.{leg_of_rows, none_unwanted}
use Rattle.ride_index.proofs.windows.add_offer_to_place.Goals as goal

pub returns-then-not-may_alight : goal.returns-then-not-may_alight
returns-then-not-may_alight c =
    gains_none (IsLegRide c.args.wanted.now c.args.leg.now) c.args.into.now.items
    (none_unwanted c.args.wanted.now c.args.leg.now (λ may. false≢true (sym c.if-not-may_alight.true ∙ c.may_alight.ensures.1 may)))

pub offer_of_leg-requires-clause-leg : goal.offer_of_leg-requires-clause-leg
offer_of_leg-requires-clause-leg c = leg_of_rows c.args.wanted.now c.args.leg.now c.requires.leg (c.may_alight.ensures.0 c.if-not-may_alight.false)

pub returns : goal.returns
returns c =
    gains_added (IsLegRide c.args.wanted.now c.args.leg.now) c.args.into.now.items c.add_offer.new.into.items _ c.in_ok-add_offer.ensures c.offer_of_leg.ensures
