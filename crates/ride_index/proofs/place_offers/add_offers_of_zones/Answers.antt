-- Member by member.
use Rattle.std.proofs.Common.{subst, take, arith}
use Rattle.std.proofs.lemmas.List.{take_all}
use Rattle.flex_model.specs.declared.trip.Spot.TheVariants as spot
use Rattle.ride_index.specs.declared.members.Member.{Member}
use Rattle.ride_index.specs.OfferedRuns.{GainsOffersOf}
use Rattle.ride_index.proofs.FromPlace.{FromMembers, next_member}
use Rattle.ride_index.proofs.OfferLists.{gains_none}
use Rattle.ride_index.proofs.place_offers.add_offers_of_zones.Goals as goal

-- what indexing past the end would give
abbrev no_member : Member
no_member = record { stop = 0; named = 0 }

pub loop-member-init : goal.loop-member-init
loop-member-init c =
    gains_none (FromMembers c.args.wanted.now c.requires.wanted (λ k. spot.Zone k) (take 0 c.args.members.now)) c.args.into.now.items (λ ride deadline h. (let lt = h.1.1.1 in omega (arith, lt)))

pub loop-member-preserved : goal.loop-member-preserved
loop-member-preserved c =
    next_member c.args.wanted.now c.requires.wanted (λ k. spot.Zone k) c.args.members.now c.loop-member.member-index no_member c.args.into.now.items c.loop-member.into.items c.add_offers_of_zone.new.into.items
    (omega (arith, c.loop-member-test.true)) c.loop-member.invariant c.in_ok-add_offers_of_zone.ensures

pub returns : goal.returns
returns c =
    subst (λ xs. GainsOffersOf (FromMembers c.args.wanted.now c.requires.wanted (λ k. spot.Zone k) xs) c.args.into.now.items c.loop-member.into.items)
    (take_all c.loop-member.member-index c.args.members.now (omega (arith, c.loop-member-test.false))) c.loop-member.invariant
