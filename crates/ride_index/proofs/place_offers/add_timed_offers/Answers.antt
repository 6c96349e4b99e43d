-- Rides between records with times board at stops.
use Rattle.std.proofs.Common.{w64, to_z, of_z, rules, SFits, append-nil, sym, subst}
use Rattle.std.proofs.lemmas.Int.{to_z-of_z}
use Rattle.ride_index.specs.Boarded.{GainsBut, IsNeedless}
use Rattle.ride_index.specs.Legs.{IsTimedOffer}
use Rattle.ride_index.specs.TimedRides.{IsTimedRide}
use Rattle.ride_index.proofs.FromPlace.{timed_at_stop, timed_reachable}
use Rattle.ride_index.proofs.NeededOffers.{IsBefore, all_added, gains_but_none, needed_timed, only_added}
use Rattle.ride_index.proofs.place_offers.add_timed_offers.Goals as goal

pub returns-in_default-clause-offers : goal.returns-in_default-clause-offers
returns-in_default-clause-offers c =
    let w = c.args.wanted.now in
    gains_but_none (IsTimedOffer w) (IsBefore w c.requires.wanted c.args.boarded.now.0 c.args.carried.now) c.args.into.now.items
    (λ ride deadline h. let at = timed_at_stop w c.requires.wanted ride deadline h in c.in_default.not-Stop at.0 at.1)
    (sym (append-nil c.args.into.now.items))

pub add_offers_of_rides-requires-clause-rides : goal.add_offers_of_rides-requires-clause-rides
add_offers_of_rides-requires-clause-rides c = λ ride listed.
    let w = c.args.wanted.now in
    let stop = c.in-Stop.stop in
    let earliest : SFits w64 w.earliest = search rules in
    let limit : SFits w64 w.limit = search rules in
    let needless = IsNeedless w.feed.now w.times.now w.days.now c.args.boarded.now.0 c.args.carried.now in
    let found = c.add_timed_rides.new.found.items in
    let gains =
    subst (λ l. GainsBut (IsTimedRide w.feed.now w.times.now w.days.now stop w.earliest l) needless c.new-rides.result.items found) (to_z-of_z w64 w.limit limit)
    (subst (λ e. GainsBut (IsTimedRide w.feed.now w.times.now w.days.now stop e (to_z w64 (of_z w64 w.limit))) needless c.new-rides.result.items found) (to_z-of_z w64 w.earliest earliest)
    (c.in_ok-add_timed_rides.ensures.rides w.times.now)) in
    timed_reachable w c.requires.wanted stop ride c.in-Stop.is
    (only_added (IsTimedRide w.feed.now w.times.now w.days.now stop w.earliest w.limit) needless found c.as_slice.result.now c.new-rides.result.items
    c.new-rides.ensures.items c.as_slice.ensures.value gains ride listed)

pub returns-clause-offers : goal.returns-clause-offers
returns-clause-offers c =
    let w = c.args.wanted.now in
    let stop = c.in-Stop.stop in
    let earliest : SFits w64 w.earliest = search rules in
    let limit : SFits w64 w.limit = search rules in
    let timed = IsTimedRide w.feed.now w.times.now w.days.now stop w.earliest w.limit in
    let needless = IsNeedless w.feed.now w.times.now w.days.now c.args.boarded.now.0 c.args.carried.now in
    let found = c.add_timed_rides.new.found.items in
    let gains =
    subst (λ l. GainsBut (IsTimedRide w.feed.now w.times.now w.days.now stop w.earliest l) needless c.new-rides.result.items found) (to_z-of_z w64 w.limit limit)
    (subst (λ e. GainsBut (IsTimedRide w.feed.now w.times.now w.days.now stop e (to_z w64 (of_z w64 w.limit))) needless c.new-rides.result.items found) (to_z-of_z w64 w.earliest earliest)
    (c.in_ok-add_timed_rides.ensures.rides w.times.now)) in
    needed_timed w c.requires.wanted c.args.boarded.now.0 c.args.carried.now stop c.as_slice.result.now c.args.into.now.items c.add_offers_of_rides.new.into.items c.in-Stop.is
    (only_added timed needless found c.as_slice.result.now c.new-rides.result.items c.new-rides.ensures.items c.as_slice.ensures.value gains)
    (all_added timed needless found c.as_slice.result.now c.new-rides.result.items c.new-rides.ensures.items c.as_slice.ensures.value gains)
    c.in_ok-add_offers_of_rides.ensures
