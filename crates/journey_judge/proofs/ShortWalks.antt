-- What counts of each part of a walk is at most a day's seconds.
use Rattle.std.proofs.Common.{◌≡◌, ℕ, zero, suc, ◌≤◌, List, arith}
use Rattle.flex_model.specs.declared.feed.Feed.{Feed}
use Rattle.flex_model.specs.declared.place.Place.{Place}
use Rattle.flex_model.specs.declared.query.Query.{Query}
use Rattle.flex_model.specs.declared.ride.Ride.{Ride}
use Rattle.flex_model.specs.declared.times.Times.{Times}
use Rattle.flex_model.specs.Change.{HasEgress}
use Rattle.flex_model.specs.Journey.{change_walk, counted}
use Rattle.flex_model.specs.SoundFeed.{IsSoundFeed}
use Rattle.flex_model.specs.SoundTimes.{AreSoundTimes}
use Rattle.flex_model.proofs.Walks.{access_short, change_no_more, change_short, egress_short, if_no_more}
use Rattle.journey_judge.specs.Tallies.{ReachesOnFoot}

-- what counts of an egress
pub counted_egress_short : (feed : Feed) (times : Times) (query : Query) (place : Place) (seconds : ℕ) → AreSoundTimes feed times → HasEgress times query place seconds
    → counted query seconds ≤ 86400
counted_egress_short feed times query place seconds sound has =
    omega (arith, egress_short feed times query place seconds sound has, if_no_more query.walking seconds)

-- what counts of the way to a ride
pub way_short : (feed : Feed) (times : Times) (query : Query) (rides : List Ride) (k : ℕ) (ride : Ride) (walk : ℕ) → IsSoundFeed feed → AreSoundTimes feed times
    → ReachesOnFoot feed times query rides k ride walk → walk ≤ 86400
way_short feed times query rides zero ride walk sound sound_times foot =
    let short = access_short feed times query ride.board foot.0 sound_times foot.1 in
    let e : walk ≡ counted query foot.0 = foot.3 in
    omega (arith, if_no_more query.walking foot.0)
way_short feed times query rides (suc k) ride walk sound sound_times foot =
    let short = change_short feed foot.0.alight ride.board foot.2.0 sound foot.2.1 in
    let part = change_no_more foot.0.alight ride.board foot.2.0 in
    let e : walk ≡ counted query (change_walk foot.0.alight ride.board foot.2.0) = foot.2.3 in
    omega (arith, if_no_more query.walking (change_walk foot.0.alight ride.board foot.2.0))
