-- The zone is that of the number.
use Rattle.std.proofs.Common.{◌↔◌, Contains, IsTrue, sym, subst}
use Rattle.flex_model.specs.SoundFeed.{AreRising, IsSoundZone}
use Rattle.flex_model.proofs.Found.{All-at}
use Rattle.zone_test.proofs.ServedPlaces.{a_listed_stop, a_point_inside}
use Rattle.zone_test.proofs.places.is_in_zone.Goals as goal

pub has_number-requires : goal.has_number-requires
has_number-requires c =
    let sound = All-at (IsSoundZone c.args.feed.now) c.args.feed.now.zones c.args.zone c.in-Some.its.now c.requires.feed.each_zone (sym c.in-Some.ensures) in
    subst AreRising (sym c.as_slice.ensures) sound.rising

pub has_point-requires-clause-polygons : goal.has_point-requires-clause-polygons
has_point-requires-clause-polygons c =
    let sound = All-at (IsSoundZone c.args.feed.now) c.args.feed.now.zones c.args.zone c.in-Some.its.now c.requires.feed.each_zone (sym c.in-Some.ensures) in
    sound.polygons

pub returns-in-Stop : goal.returns-in-Stop
returns-in-Stop c =
    let sound = All-at (IsSoundZone c.args.feed.now) c.args.feed.now.zones c.args.zone c.in-Some.its.now c.requires.feed.each_zone (sym c.in-Some.ensures) in
    a_listed_stop c.args.feed.now c.args.times.now c.args.zone c.in-Some.its.now (sym c.in-Some.ensures) c.args.place c.has_number.result sound c.in-Stop.stop c.in-Stop.is
    (subst (λ stops. IsTrue c.has_number.result ↔ Contains stops c.in-Stop.stop) c.as_slice.ensures c.has_number.ensures)

pub returns-in-Point : goal.returns-in-Point
returns-in-Point c =
    a_point_inside c.args.feed.now c.args.times.now c.args.zone c.in-Some.its.now (sym c.in-Some.ensures) c.args.place c.has_point.result c.in-Point.point c.in-Point.is c.has_point.ensures
