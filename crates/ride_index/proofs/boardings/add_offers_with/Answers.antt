-- Travel day by travel day.
use Rattle.std.proofs.Common.{◌≡◌, w32, to_z, of_z, sym, ◌∙◌, arith}
use Rattle.std.proofs.lemmas.Int.{to_z-of_z}
use Rattle.ride_index.proofs.OfferLists.{gains_none}
use Rattle.ride_index.proofs.StopRides.{travels_from}
use Rattle.ride_index.proofs.DayOffers.{IsEarlyDay, all_days, next_day, no_day}
use Rattle.ride_index.proofs.boardings.add_offers_with.Goals as goal

pub loop-ahead-init : goal.loop-ahead-init
loop-ahead-init c =
    let w = c.args.wanted.now in
    let d = c.args.departure.now in
    let first : to_z w32 (of_z w32 c.first_travel_day-first.result) ≡ c.first_travel_day-first.result = to_z-of_z w32 c.first_travel_day-first.result (record { sfits = c.first_travel_day-first.type_inv }) in
    let travel = travels_from w.days.now _ (to_z w32 (of_z w32 c.first_travel_day-first.result)) (sym first) c.first_travel_day-first.ensures in
    gains_none (IsEarlyDay w d.trip d.row (to_z w32 (of_z w32 c.first_travel_day-first.result)) travel 0) c.args.into.now.items
    (no_day w d.trip d.row (to_z w32 (of_z w32 c.first_travel_day-first.result)) travel)

pub loop-ahead-preserved : goal.loop-ahead-preserved
loop-ahead-preserved c =
    let w = c.args.wanted.now in
    let d = c.args.departure.now in
    let first : to_z w32 (of_z w32 c.first_travel_day-first.result) ≡ c.first_travel_day-first.result = to_z-of_z w32 c.first_travel_day-first.result (record { sfits = c.first_travel_day-first.type_inv }) in
    let travel = travels_from w.days.now _ (to_z w32 (of_z w32 c.first_travel_day-first.result)) (sym first) c.first_travel_day-first.ensures in
    let back : to_z w32 (of_z w32 c.day_after.result) ≡ c.day_after.result = to_z-of_z w32 c.day_after.result (record { sfits = c.day_after.type_inv }) in
    next_day w d.trip d.row (to_z w32 (of_z w32 c.first_travel_day-first.result)) travel c.loop-ahead.ahead (to_z w32 (of_z w32 c.day_after.result))
    c.args.into.now.items c.loop-ahead.into.items c.add_offers_on_day.new.into.items (back ∙ c.day_after.ensures) c.loop-ahead.invariant c.in_ok-add_offers_on_day.ensures

pub returns : goal.returns
returns c =
    let w = c.args.wanted.now in
    let d = c.args.departure.now in
    let first : to_z w32 (of_z w32 c.first_travel_day-first.result) ≡ c.first_travel_day-first.result = to_z-of_z w32 c.first_travel_day-first.result (record { sfits = c.first_travel_day-first.type_inv }) in
    let travel = travels_from w.days.now _ (to_z w32 (of_z w32 c.first_travel_day-first.result)) (sym first) c.first_travel_day-first.ensures in
    all_days w d.trip d.row (to_z w32 (of_z w32 c.first_travel_day-first.result)) travel c.loop-ahead.ahead c.args.into.now.items c.loop-ahead.into.items
    (omega (arith, c.loop-ahead-test.false)) c.loop-ahead.invariant
