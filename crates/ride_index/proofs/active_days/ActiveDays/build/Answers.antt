-- Service by service.
use Rattle.std.proofs.Common.{◌+◌, ◌*◌, slice_get, get_or, length, w32, to_z, of_z, refl, sym, ◌∙◌, ap, subst, arith}
use Rattle.std.proofs.lemmas.Int.{to_z-of_z}
use Rattle.std.proofs.lemmas.Option.{slice_get_read}
use Rattle.ride_index.proofs.ActiveDayLists.{AreFirst, all_services, first_is, next_service}
use Rattle.ride_index.proofs.active_days.ActiveDays.build.Goals as goal

pub loop-s-preserved : goal.loop-s-preserved
loop-s-preserved c =
    let feed = c.args.feed.now in
    let days = c.args.days.now in
    let service = c.index-services-s.result in
    let all = c.as_slice-services.ensures in
    let size = ap length all in
    let first = to_z w32 (of_z w32 c.first_travel_day-first.result) in
    subst (AreFirst feed days _) (sym c.in_ok-add_flags.ensures)
    (next_service feed days c.loop-s.s 22 service first c.loop-s.flags.items
    (slice_get_read feed.services (length feed.services) c.loop-s.s service refl (omega (arith, size, c.loop-s-test.true)) (c.index-services-s.is ∙ ap (λ xs. get_or xs c.loop-s.s service) all))
    refl (to_z-of_z w32 c.first_travel_day-first.result (record { sfits = c.first_travel_day-first.type_inv }) ∙ first_is days c.first_travel_day-first.result c.requires c.first_travel_day-first.ensures) c.loop-s.invariant)

pub returns : goal.returns
returns c = λ s k service of few.
    let size = ap length c.as_slice-services.ensures in
    ap (λ xs. slice_get xs (22 * s + k)) c.from_vec.ensures
    ∙ all_services c.args.feed.now c.args.days.now c.loop-s.s c.loop-s.flags.items (omega (arith, size, c.loop-s-test.false)) c.loop-s.invariant s k service of few
