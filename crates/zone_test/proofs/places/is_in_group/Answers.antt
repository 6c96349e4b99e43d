-- The group is that of the number.
use Rattle.std.proofs.Common.{◌↔◌, Contains, IsTrue, sym, subst}
use Rattle.flex_model.specs.SoundFeed.{AreRising, IsSoundGroup}
use Rattle.flex_model.proofs.Found.{All-at}
use Rattle.zone_test.proofs.ServedPlaces.{a_boarded_member, a_member}
use Rattle.zone_test.proofs.places.is_in_group.Goals as goal

pub has_number-requires : goal.has_number-requires
has_number-requires c =
    let sound = All-at (IsSoundGroup c.args.feed.now) c.args.feed.now.groups c.args.group c.in-Some.its.now c.requires.each_group (sym c.in-Some.ensures) in
    subst AreRising (sym c.as_slice.ensures) sound.rising

pub returns-then-has_number : goal.returns-then-has_number
returns-then-has_number c =
    a_boarded_member c.args.feed.now c.args.group c.in-Some.its.now (sym c.in-Some.ensures) c.in-Stop.stop c.args.place c.in-Stop.is c.has_number.result
    (subst (λ members. IsTrue c.has_number.result ↔ Contains members c.in-Stop.stop) c.as_slice.ensures c.has_number.ensures)
    c.if-has_number.true c.can_board.result c.can_board.ensures

pub returns-else-has_number : goal.returns-else-has_number
returns-else-has_number c =
    a_member c.args.feed.now c.args.group c.in-Some.its.now (sym c.in-Some.ensures) c.in-Stop.stop c.args.place c.in-Stop.is c.has_number.result
    (subst (λ members. IsTrue c.has_number.result ↔ Contains members c.in-Stop.stop) c.as_slice.ensures c.has_number.ensures)
    c.if-has_number.false
