-- Number by number.
use Rattle.std.proofs.Common.{◌≡◌, Some, Contains, slice_get, get_or, length, refl, sym, ◌∙◌, ap, subst, arith}
use Rattle.std.proofs.lemmas.Option.{slice_get_read, slice_get_within}
use Rattle.ride_index.specs.Members.{HasGroupStops}
use Rattle.ride_index.proofs.MemberLists.{group_unique, all_numbers, next_number}
use Rattle.ride_index.proofs.RideLists.{Gained}
use Rattle.ride_index.proofs.members.members_of_groups.Goals as goal

pub loop-number-preserved : goal.loop-number-preserved
loop-number-preserved c =
    let feed = c.args.feed.now in
    let n = c.loop-number.number in
    let its = c.index-groups-number.result in
    let all = c.as_slice-groups.ensures in
    let size = ap length all in
    let at : slice_get feed.groups n ≡ Some its =
    slice_get_read feed.groups (length feed.groups) n its refl (omega (arith, size, c.loop-number-test.true)) (c.index-groups-number.is ∙ ap (λ xs. get_or xs n its) all) in
    next_number (HasGroupStops feed) (group_unique feed) n its.members c.loop-number.found.items c.add_stops.new.found.items (its, at, refl) c.loop-number.invariant
    (subst (λ stops. Gained (λ m. (m.named ≡ n) × Contains stops m.stop) c.loop-number.found.items c.add_stops.new.found.items) (c.as_slice.ensures ∙ ap (λ g. g.members) (sym c.index-groups-number.is)) c.in_ok-add_stops.ensures)

pub returns : goal.returns
returns c =
    let feed = c.args.feed.now in
    let size = ap length c.as_slice-groups.ensures in
    all_numbers (HasGroupStops feed) c.loop-number.number c.loop-number.found.items
    (λ k stops h. (let within = slice_get_within feed.groups k h.0 h.1 in omega (arith, within, size, c.loop-number-test.false))) c.loop-number.invariant
