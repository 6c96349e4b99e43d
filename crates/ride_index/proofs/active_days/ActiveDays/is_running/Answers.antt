-- The flag of the trip's service and the day.
use Rattle.std.proofs.Common.{◌≡◌, w32, to_z, of_z, length, sym, ◌∙◌, ap, arith}
use Rattle.std.proofs.lemmas.Bool.{false≢true}
use Rattle.std.proofs.lemmas.Int.{to_z-of_z}
use Rattle.ride_index.proofs.ActiveDayLists.{flag_within, has_number, runs_by_flag}
use Rattle.ride_index.proofs.active_days.ActiveDays.is_running.Goals as goal

pub returns-in_default : goal.returns-in_default
returns-in_default c =
    let day : to_z w32 (of_z w32 c.args.day) ≡ c.args.day = to_z-of_z w32 c.args.day c.ranges.day in (
      λ t. absurd (false≢true t),
      λ r.
          let n = has_number c.args.days.now c.args.day c.requires.days r.on_travel_day in
          absurd (c.in_default.not-Some n.0 ((c.travel_number.ensures n.0).1 (n.1, day ∙ n.2))),
    )

pub overflow_add-result : goal.overflow_add-result
overflow_add-result c =
    let day : to_z w32 (of_z w32 c.args.day) ≡ c.args.day = to_z-of_z w32 c.args.day c.ranges.day in
    let on = (c.travel_number.ensures c.in-Some.ahead).0 c.in-Some.is in
    let within = flag_within c.args.feed.now c.args.days.now c.args.self.now c.args.trip.now c.args.day c.in-Some.ahead c.requires.table c.requires.days c.requires.service on.0 (sym day ∙ on.1) in
    let few = c.deref.type_inv in
    record { fits = omega (arith, within, few, ap length c.deref.ensures) }

pub bounds-deref-trip : goal.bounds-deref-trip
bounds-deref-trip c =
    let day : to_z w32 (of_z w32 c.args.day) ≡ c.args.day = to_z-of_z w32 c.args.day c.ranges.day in
    let on = (c.travel_number.ensures c.in-Some.ahead).0 c.in-Some.is in
    let within = flag_within c.args.feed.now c.args.days.now c.args.self.now c.args.trip.now c.args.day c.in-Some.ahead c.requires.table c.requires.days c.requires.service on.0 (sym day ∙ on.1) in
    omega (arith, within, ap length c.deref.ensures)

pub returns : goal.returns
returns c =
    let day : to_z w32 (of_z w32 c.args.day) ≡ c.args.day = to_z-of_z w32 c.args.day c.ranges.day in
    let on = (c.travel_number.ensures c.in-Some.ahead).0 c.in-Some.is in
    runs_by_flag c.args.feed.now c.args.days.now c.args.self.now c.args.trip.now c.args.day c.in-Some.ahead c.requires.table c.requires.days c.requires.service on.0 (sym day ∙ on.1) c.deref.result.now c.deref.ensures
