-- Zone by zone.
use Rattle.std.proofs.Common.{◌≡◌, length, subst, arith}
use Rattle.ride_index.proofs.FromPlace.{FromZones, next_zone}
use Rattle.ride_index.proofs.OfferLists.{gains_none}
use Rattle.ride_index.specs.OfferedRuns.{GainsOffersOf}
use Rattle.ride_index.proofs.place_offers.add_offers_of_each_zone.Goals as goal

pub loop-zone-init : goal.loop-zone-init
loop-zone-init c = gains_none (FromZones c.args.wanted.now c.requires.wanted 0) c.args.into.now.items (λ ride deadline h. let lt = h.1.1 in omega (arith, lt))

pub loop-zone-preserved : goal.loop-zone-preserved
loop-zone-preserved c =
    next_zone c.args.wanted.now c.requires.wanted c.loop-zone.zone c.args.into.now.items c.loop-zone.into.items c.add_offers_of_zone.new.into.items c.loop-zone.invariant c.in_ok-add_offers_of_zone.ensures

pub returns : goal.returns
returns c =
    let count : c.loop-zone.zone ≡ length c.args.wanted.now.feed.now.zones = omega (arith, c.loop-zone-test.false, c.loop-zone.auto.zone-end, c.len-zone-end.ensures) in
    subst (λ n. GainsOffersOf (FromZones c.args.wanted.now c.requires.wanted n) c.args.into.now.items c.loop-zone.into.items) count c.loop-zone.invariant
