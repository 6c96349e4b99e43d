-- The groups that have the stop.
use Rattle.std.proofs.Common.{length}
use Rattle.ride_index.proofs.FromPlace.{FromGroups, gains_groups, grouped_at_stop}
use Rattle.ride_index.proofs.OfferLists.{gains_none}
use Rattle.ride_index.proofs.place_offers.add_group_offers.Goals as goal

pub returns-in_default : goal.returns-in_default
returns-in_default c =
    let w = c.args.wanted.now in
    let n = length w.feed.now.groups in
    gains_none (FromGroups w c.requires.wanted n) c.args.into.now.items
    (λ ride deadline h. (let at = grouped_at_stop w c.requires.wanted n ride deadline h in c.in_default.not-Stop at.0 at.1))

pub returns : goal.returns
returns c =
    gains_groups c.args.wanted.now c.requires.wanted c.args.index.now.group_members c.at.result.now c.in-Stop.stop c.args.into.now.items c.add_offers_of_groups.new.into.items
    c.at.ensures c.in-Stop.is c.requires.index.group_members c.in_ok-add_offers_of_groups.ensures
